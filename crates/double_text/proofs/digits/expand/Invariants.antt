-- `double_text::digits::expand` meets its contract: one factor more with each turn. Assumes nothing.
use Rattle.std.proofs.Common.{◌≡◌, ◌*◌, ◌^◌, length}
use Rattle.io.specs.Digits.{last_digits as digits}
use Rattle.double_text.proofs.digits.expand.Given as goal

abbrev pub invariant-loop : goal.invariant-loop
invariant-loop l = (length l.digits ≡ length l.initial.digits) × (l.digits ≡ digits 10 (length l.initial.digits) (l.n * l.factor ^ l.counter))
