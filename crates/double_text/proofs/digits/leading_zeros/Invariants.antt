-- `double_text::digits::leading_zeros` meets its contract: the digits that were passed are zeros. Assumes nothing.
use mathlib.Core.Path.{◌≡◌}
use Prim.Native.Nat.{◌-◌}
use lib.ListN.{take, drop}
use Rattle.double_text.specs.Decimal.{stripped}
use Rattle.double_text.proofs.digits.leading_zeros.Given as goal

abbrev pub invariant-loop-first : goal.invariant-loop-first
invariant-loop-first l = stripped (take l.cut l.digits) ≡ stripped (take (l.cut - l.first) (drop l.first l.digits))
