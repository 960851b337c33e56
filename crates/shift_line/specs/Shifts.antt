-- A line of the shifts: from which byte of the reel on who is on duty (02, request 5). Definitions only.
use Rattle.std.specs.Prelude.{◌≡◌, ℕ, ◌≤◌, ◌^◌, Result, IfOk}
use Rattle.shift_line.specs.declared.Fault.{Fault}
use Rattle.shift_line.specs.declared.Shift.{Shift}

-- the shift of an operator from this byte on, where no earlier byte than `least` may begin one
pub record ShiftOf (begin operator least : ℕ) (r : Result Shift Fault) : Type 0 where
  pub begin_is : IfOk r (λ s. s.begin ≡ begin)
  pub operator_is : IfOk r (λ s. s.operator ≡ operator)
  pub known : IfOk r (λ s. operator ≤ 7)
  pub rises : IfOk r (λ s. least ≤ begin)
  pub near : IfOk r (λ s. begin ≤ 2 ^ 40)
