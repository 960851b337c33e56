-- A tally as numbers: 33, and the frame beside them. Definitions only.
use Rattle.std.specs.Prelude.{◌≡◌, Bool, true, ◌&&◌, List, [], ◌∷◌, ◌++◌, ℕ, ◌<◌, ◌%◌, eqb, ltb, length, get_or}
use Rattle.base.specs.Lists.{one}
use Rattle.labelling.specs.declared.Framing.{Framing}
use Rattle.labelling.specs.declared.Groups.{Groups}
use Rattle.labelling.specs.declared.Operators.{Operators}
use Rattle.labelling.specs.declared.Runs.{Runs}
use Rattle.labelling.specs.declared.Tally.{Tally}
use Rattle.labelling.specs.declared.Weak.{Weak}

-- ---- a tally to numbers: the counts as they are, a copy as its byte, a flag as 1 or 0

abbrev pub group_numbers : Groups → List ℕ
group_numbers g = g.bytes ∷ g.fill ∷ g.stray ∷ g.voted ∷ g.split ∷ g.«open» ∷ g.first ∷ g.second ∷ []

abbrev pub framing_numbers : Framing → List ℕ
framing_numbers f =
    f.hunted ∷ f.good ∷ f.damaged ∷ f.unsynced ∷ f.placed ∷ one f.hunting ∷ f.matched ∷ one f.erasure ∷ []

abbrev pub run_numbers : Runs → List ℕ
run_numbers r = r.majors ∷ r.broken ∷ r.loose ∷ r.building ∷ []

abbrev pub weak_numbers : Weak → List ℕ
weak_numbers w = w.first ∷ w.second ∷ w.third ∷ []

-- the eight paid counts, operator 0 first, and who is on duty
abbrev pub operator_numbers : Operators → List ℕ
operator_numbers o = o.paid ++ o.duty ∷ []

-- the weak counts (02, request 2), the operators (02, request 5) and the rule (02, request 6) come last, so that the places of the numbers
-- before them stay
abbrev pub numbers_of : Tally → List ℕ
numbers_of t =
    group_numbers t.groups ++ framing_numbers t.framing ++ run_numbers t.runs ++ weak_numbers t.groups.weak ++ operator_numbers t.operators
    ++ t.rule ∷ []

-- all of a tally but its frame, which is not among the numbers
abbrev pub counts_only : Groups → Framing → Runs → Operators → ℕ → Tally
counts_only g f r o rule = record { groups = g; framing = f; runs = r; operators = o; rule = rule; frame = [] }

-- how many they are
abbrev pub number_count : ℕ
number_count = 33

-- ---- numbers to a tally

-- the numbers are a tally's: each copy is a byte and each flag is 1 or 0
unfoldable pub is_tally : List ℕ → Bool
is_tally n = ltb (get_or n 6 0) 256 && ltb (get_or n 7 0) 256 && ltb (get_or n 13 0) 2 && ltb (get_or n 15 0) 2

-- the tally that they are the numbers of; of numbers that are no tally's, the copies are cut to bytes
abbrev pub weak_of : List ℕ → Weak
weak_of n = record { first = get_or n 20 0; second = get_or n 21 0; third = get_or n 22 0 }

abbrev pub groups_of : List ℕ → Groups
groups_of n = record {
  bytes = get_or n 0 0;
  fill = get_or n 1 0;
  stray = get_or n 2 0;
  voted = get_or n 3 0;
  split = get_or n 4 0;
  weak = weak_of n;
  «open» = get_or n 5 0;
  first = get_or n 6 0 % 256;
  second = get_or n 7 0 % 256;
}

abbrev pub framing_of : List ℕ → Framing
framing_of n = record {
  hunted = get_or n 8 0;
  good = get_or n 9 0;
  damaged = get_or n 10 0;
  unsynced = get_or n 11 0;
  placed = get_or n 12 0;
  hunting = eqb (get_or n 13 0) 1;
  matched = get_or n 14 0;
  erasure = eqb (get_or n 15 0) 1;
}

abbrev pub runs_of : List ℕ → Runs
runs_of n = record { majors = get_or n 16 0; broken = get_or n 17 0; loose = get_or n 18 0; building = get_or n 19 0 }

abbrev pub operators_of : List ℕ → Operators
operators_of n = record {
  paid = get_or n 23 0 ∷ get_or n 24 0 ∷ get_or n 25 0 ∷ get_or n 26 0 ∷ get_or n 27 0 ∷ get_or n 28 0 ∷ get_or n 29 0 ∷ get_or n 30 0 ∷ [];
  duty = get_or n 31 0;
}

abbrev pub tally_of : List ℕ → List ℕ → Tally
tally_of n frame = record { groups = groups_of n; framing = framing_of n; runs = runs_of n; operators = operators_of n; rule = get_or n 32 0; frame = frame }

-- the two copies of a tally are bytes, and the paid counts are eight, as its struct has them
pub record Sized (t : Tally) : Type 0 where
  pub first_byte : t.groups.first < 256
  pub second-byte : t.groups.second < 256
  pub eight : length t.operators.paid ≡ 8

-- The lists that are a tally's are exactly the numbers of tallies, and each is the numbers of one tally: what crosses comes back the same,
-- both ways.
pub record Layout : Type 0 where
  pub count-is : (t : Tally) → Sized t → length (numbers_of t) ≡ number_count
  pub crosses : (t : Tally) → Sized t → is_tally (numbers_of t) ≡ true
  pub reads_back : (t : Tally) → Sized t → tally_of (numbers_of t) t.frame ≡ t
  pub writes_back : (n frame : List ℕ) → length n ≡ number_count → is_tally n ≡ true → (numbers_of (tally_of n frame) ≡ n) × Sized (tally_of n frame)
