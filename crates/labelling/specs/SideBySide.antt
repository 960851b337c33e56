-- Two lists of calls side by side, as requests 6 and 10 of 02 compare them: the same cuts and shifts. Definitions only.
use Rattle.std.specs.Prelude.{◌≡◌, List, [], ◌∷◌, map, ℕ, suc}
use Rattle.labelling.specs.Calls.{TakeCall, take_refusal, answer, DutyCall, duty_refusal, Call, takes, changes, refusal_of, stamped, last_duty}

-- two lists of calls side by side: refused calls are free, and each accepted one stands beside one of its kind, related as the two say
pub data SideBySide (Takes : TakeCall → TakeCall → Type 0) (Changes : DutyCall → DutyCall → Type 0) : List Call → List Call → Type 0 where
  ends : SideBySide Takes Changes [] []
  refused_here : {cs ds : List Call} (c : Call) (n : ℕ) → refusal_of c ≡ suc n → SideBySide Takes Changes cs ds → SideBySide Takes Changes (c ∷ cs) ds
  refused_there : {cs ds : List Call} (d : Call) (n : ℕ) → refusal_of d ≡ suc n → SideBySide Takes Changes cs ds → SideBySide Takes Changes cs (d ∷ ds)
  both_take : {cs ds : List Call} (c d : TakeCall) → take_refusal c ≡ 0 → take_refusal d ≡ 0 → Takes c d → SideBySide Takes Changes cs ds
      → SideBySide Takes Changes (takes c ∷ cs) (takes d ∷ ds)
  both_change : {cs ds : List Call} (c d : DutyCall) → duty_refusal c ≡ 0 → duty_refusal d ≡ 0 → Changes c d → SideBySide Takes Changes cs ds
      → SideBySide Takes Changes (changes c ∷ cs) (changes d ∷ ds)

-- the same cuts and shifts: call by call as many bytes are taken, and the same operator comes on duty
abbrev pub SameCuts : List Call → List Call → Type 0
SameCuts cs ds = SideBySide (λ c d. (answer d).taken ≡ (answer c).taken) (λ c d. d.operator ≡ c.operator) cs ds

-- as many bytes, with the same operator on duty as each is taken and at the end
pub record SameDuties (cs ds : List Call) : Type 0 where
  pub as_taken : map (λ x. x.1) (stamped 0 ds) ≡ map (λ x. x.1) (stamped 0 cs)
  pub at_the_end : last_duty 0 ds ≡ last_duty 0 cs
