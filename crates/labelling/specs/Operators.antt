-- The operators (02, request 5): the major frames paid to each of the eight, and who is on duty. Definitions only.
use Rattle.std.specs.Prelude.{Bool, ℕ, ◌+◌, get_or, set, replicate}
use Rattle.base.specs.Lists.{sum_by, one}
use Rattle.labelling.specs.declared.Operators.{Operators}

-- before the first byte: nothing is paid, and operator 0 is on duty
unfoldable pub unpaid : Operators
unpaid = record { paid = replicate 8 0; duty = 0 }

-- the major frames paid to the operator k, and to all of them
abbrev pub paid_to : ℕ → Operators → ℕ
paid_to k o = get_or o.paid k 0

abbrev pub paid_in_all : Operators → ℕ
paid_in_all o = sum_by (λ n. n) o.paid

-- a call has taken its bytes: where the last of them completes a major frame, that belongs to whoever is on duty
abbrev pub booked : Bool → Operators → Operators
booked complete o = record { paid = set o.paid o.duty (paid_to o.duty o + one complete); duty = o.duty }

-- the operator k comes on duty, and nothing else changes
abbrev pub on_duty : ℕ → Operators → Operators
on_duty k o = record { paid = o.paid; duty = k }
