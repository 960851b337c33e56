-- `cycle::is_cycle` meets its contract: each major frame so far is of its kind. Assumes nothing.
use mathlib.Core.Path.{◌≡◌}
use mathlib.Core.Bool.{true}
use Prim.Native.Nat.{ℕ, ◌<◌}
use Rattle.base.specs.Rows.{row}
use Rattle.cycle.specs.Cycle.{is_major}
use Rattle.cycle.proofs.is_cycle.Given as goal

abbrev pub invariant-loop-kind : goal.invariant-loop-kind
invariant-loop-kind l = (k : ℕ) → k < l.kind → is_major l.year k (row 16384 l.body k) ≡ true
