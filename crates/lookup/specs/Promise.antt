-- What `find` promises: its complete answer, refused calls too. Definitions only.
use Rattle.std.specs.Prelude.{◌≡◌, List, ℕ, ◌^◌, ◌≤◌, ◌<◌, length, Some, Result}
use Rattle.base.specs.declared.refusal.Refusal.{Refusal}
use Rattle.base.specs.Refusals.{refusal, Answers}
use Rattle.lookup.specs.declared.Found.{Found}
use Rattle.lookup.specs.Halving.{Search}
use Rattle.lookup.specs.WholeReading.{last_at_most, StrictlyRises}
use Rattle.lookup.specs.Answer.{find_lines, found, place_of, looks_of}

-- `find` of the wanted instant in the list xs answers r
pub record FindPromise (xs : List ℕ) (wanted : ℕ) (r : Result Found Refusal) : Type 0 where
  -- the halving rule ends with this low after these looks, and with no other
  pub low : ℕ
  pub looks : ℕ
  pub rule : Search xs wanted low looks
  pub no_other : (l k : ℕ) → Search xs wanted l k → (l ≡ low) × (k ≡ looks)
  -- the answer is the refusal table's, and where it has none the rule's
  pub answers : Answers (find_lines xs) (found low looks) r
  -- a place is one of the list's
  pub there : (p : ℕ) → place_of r ≡ Some p → p < length xs
  -- a list whose length has d binary digits is shorter than 2^d: the looks are at most those digits, and none for an empty list
  pub few_looks : (d : ℕ) → length xs < 2 ^ d → looks_of r ≤ d
  pub no_looks : length xs ≡ 0 → looks_of r ≡ 0
  -- of a strictly rising list it is the answer of reading the whole list
  pub whole_reading : refusal (find_lines xs) ≡ 0 → StrictlyRises xs → place_of r ≡ last_at_most wanted xs
