-- `double_text::digits::multiply` meets its contract: the digits so far are multiplied, and a number is carried. Assumes nothing.
use mathlib.Core.Path.{◌≡◌}
use Prim.Native.Nat.{ℕ, ◌≤◌}
use lib.ListN.{length}
use Rattle.io.specs.Digits.{last_digits as digits}
use Rattle.double_text.proofs.Laws.{Multiplying}
use Rattle.double_text.proofs.digits.multiply.Given as goal

abbrev pub invariant-loop-i : goal.invariant-loop-i
invariant-loop-i l = (length l.digits ≡ length l.initial.digits)
    × (l.carry ≤ 14)
    × ((m : ℕ) → l.initial.digits ≡ digits 10 (length l.initial.digits) m → Multiplying m l.factor (length l.initial.digits) l.i l.carry l.digits)
