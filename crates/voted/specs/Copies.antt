-- The three copies of a group, its word and its weak copy, and counts of many groups at once. Definitions only.
use Rattle.std.specs.Prelude.{◌≡◌, List, [], ◌∷◌, map, ℕ, ◌+◌, ◌*◌, ◌<◌, eqb, get_or}
use Rattle.base.specs.Lists.{one, sum_by, count_by}
use Rattle.labelling.specs.declared.Weak.{Weak}
use Rattle.labelling.specs.declared.Word.{Word}
use Rattle.labelling.specs.declared.Word.TheVariants.{Voted}
use Rattle.labelling.specs.Words.{byte_vote, weak_copy}
use Rattle.labelling.specs.MajorFrames.{value}

pub record Copies : Type 0 where
  pub first : ℕ
  pub second : ℕ
  pub third : ℕ

abbrev pub copies : ℕ → ℕ → ℕ → Copies
copies a b c = record { first = a; second = b; third = c }

-- the three bytes of the piece p after place i
abbrev pub copies_at : List ℕ → ℕ → Copies
copies_at p i = copies (get_or p (i + 1) 0) (get_or p (i + 2) 0) (get_or p (i + 3) 0)

-- ---- one group

-- what 01's rule gives; 02's gives the same where this is a word (request 6)
abbrev pub vote_of : Copies → Word
vote_of g = byte_vote g.first g.second g.third

abbrev pub word_of : Copies → ℕ
word_of g = value (vote_of g)

-- it is a word: at least two copies are equal
abbrev pub IsVoted : Copies → Type 0
IsVoted g = vote_of g ≡ Voted (word_of g)

-- 02, request 2
abbrev pub weak_of : Copies → ℕ
weak_of g = weak_copy g.first g.second g.third

-- ---- many groups

abbrev pub words : List Copies → List ℕ
words gs = map word_of gs

-- how many groups name the copy n
abbrev pub named : ℕ → List Copies → ℕ
named n gs = count_by (λ g. eqb (weak_of g) n) gs

abbrev pub weak_in : List Copies → Weak
weak_in gs = record { first = named 1 gs; second = named 2 gs; third = named 3 gs }

-- the last of the groups, or d where there is none
abbrev pub last_or : List Copies → Copies → Copies
last_or [] d = d
last_or (g ∷ gs) d = last_or gs g

-- ---- which copies agree, as one number

-- three counts side by side
abbrev pub side_by_side : ℕ → ℕ → ℕ → ℕ
side_by_side x y z = x + 0x10000 * y + 0x100000000 * z

-- the first and second, the first and third, the second and third copy of a group are equal
abbrev pub agreement : Copies → ℕ
agreement g = side_by_side (one (eqb g.first g.second)) (one (eqb g.first g.third)) (one (eqb g.second g.third))

abbrev pub agreements : List Copies → ℕ
agreements gs = sum_by agreement gs

-- s are the agreements of n groups, of which `all` have three equal copies and the others the weak copies w
pub record Summed (s n : ℕ) (w : Weak) (all : ℕ) : Type 0 where
  pub sums_are : s ≡ side_by_side (w.third + all) (w.second + all) (w.first + all)
  pub count-is : n ≡ w.first + w.second + w.third + all
  pub few : n < 0x10000

pub record Agreed (s n : ℕ) : Type 0 where
  pub weak : Weak
  pub all : ℕ
  pub summed : Summed s n weak all

abbrev pub Agreement : ℕ → ℕ → Weak → Type 0
Agreement s n r = (w : Weak) (all : ℕ) → Summed s n w all → r ≡ w
