-- What is answered where the halving rule ends (02, request 1; 01, "Refusal numbers"). Definitions only.
use Rattle.std.specs.Prelude.{◌≡◌, cond, List, [], ◌∷◌, ℕ, ◌-◌, eqb, ltb, length, Option, Some, None, Result, Ok, Err}
use Rattle.base.specs.declared.refusal.Refusal.{Refusal}
use Rattle.base.specs.declared.refusal.Refusal.TheVariants.{ListTooLong}
use Rattle.base.specs.Refusals.{Line, ◌when◌}
use Rattle.lookup.specs.declared.Found.{Found}
use Rattle.lookup.specs.Halving.{Search}

-- the line of the refusal table that concerns a call
abbrev pub find_lines : List ℕ → List Line
find_lines xs = ListTooLong when ltb 100000 (length xs) ∷ []

-- the place is low - 1; low 0 is none
abbrev pub found : ℕ → ℕ → Found
found low looks = record { place = cond (eqb low 0) None (Some (low - 1)); looks = looks }

-- the rule ends with a low and after some looks, for which this is found
pub record Halved (xs : List ℕ) (wanted : ℕ) (f : Found) : Type 0 where
  pub low : ℕ
  pub looks : ℕ
  pub rule : Search xs wanted low looks
  pub found_is : f ≡ found low looks

-- ---- an answer's place and looks: none and 0 beside a refusal

abbrev pub place_of : Result Found Refusal → Option ℕ
place_of (Ok f) = f.place
place_of (Err r) = None

abbrev pub looks_of : Result Found Refusal → ℕ
looks_of (Ok f) = f.looks
looks_of (Err r) = 0
