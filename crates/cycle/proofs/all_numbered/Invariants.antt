-- `cycle::all_numbered` meets its contract: each minor frame so far has its sync bytes and its number. Assumes nothing.
use mathlib.Core.Path.{◌≡◌}
use mathlib.Core.Bool.{true}
use Prim.Native.Nat.{ℕ, ◌<◌}
use Rattle.base.specs.Rows.{row}
use Rattle.cycle.specs.Cycle.{is_numbered}
use Rattle.cycle.proofs.all_numbered.Given as goal

abbrev pub invariant-loop-number : goal.invariant-loop-number
invariant-loop-number l = (m : ℕ) → m < l.number → is_numbered (row 128 l.frame m) m ≡ true
