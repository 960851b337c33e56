-- How two books differ (02, request 9), said instant by instant: what is listed at an instant is what the two books hold at it. No order in
-- which books are read enters here. Definitions only.
use Rattle.std.specs.Prelude.{◌≡◌, cond, not, List, [], ◌∷◌, map, ℕ, ◌<◌, eqb, length, get_or}
use Rattle.std.proofs.Math.Option.{Option, none, some}
use Rattle.base.specs.Ranges.{lowest, tabulate}
use Rattle.book.specs.Layout.{cycles_said, instant_at, body_at}

-- ---- what a book holds

pub record Cycle : Type 0 where
  pub instant : ℕ
  pub body : List ℕ

abbrev pub cycle_at : List ℕ → ℕ → Cycle
cycle_at b i = record { instant = instant_at b i; body = body_at b i }

abbrev pub cycles_in : List ℕ → List Cycle
cycles_in b = tabulate (cycle_at b) 0 (cycles_said b)

-- the body of the cycle at the instant t, or none
abbrev pub body_on : ℕ → List Cycle → Option (List ℕ)
body_on t [] = none
body_on t (c ∷ cs) = cond (eqb c.instant t) (some c.body) (body_on t cs)

-- ---- a difference (a line of the paper's list): the instant; 1, 2 or 3; the place, 0 in cases 1 and 2

pub record Difference : Type 0 where
  pub instant : ℕ
  pub case : ℕ
  pub place : ℕ

abbrev pub only_first : ℕ → Difference
only_first t = record { instant = t; case = 1; place = 0 }

abbrev pub only_second : ℕ → Difference
only_second t = record { instant = t; case = 2; place = 0 }

abbrev pub in_both : ℕ → ℕ → Difference
in_both t place = record { instant = t; case = 3; place = place }

-- the place of the first byte that differs; the length where none does
unfoldable pub first_differing : List ℕ → List ℕ → ℕ
first_differing c d = lowest (λ k. not (eqb (get_or c k 0) (get_or d k 0))) 0 (length c)

-- what is to be listed at the instant t, by the bodies that the first book and the second hold there
abbrev pub difference_of : ℕ → Option (List ℕ) → Option (List ℕ) → Option Difference
difference_of t none none = none
difference_of t (some c) none = some (only_first t)
difference_of t none (some d) = some (only_second t)
difference_of t (some c) (some d) = cond (eqb (first_differing c d) (length c)) none (some (in_both t (first_differing c d)))

-- ---- a list of differences

-- what is listed at the instant t, or none
abbrev pub listed_on : ℕ → List Difference → Option Difference
listed_on t [] = none
listed_on t (l ∷ ls) = cond (eqb l.instant t) (some l) (listed_on t ls)

abbrev pub AllAfter : ℕ → List ℕ → Type 0
AllAfter t [] = Unit {0}
AllAfter t (u ∷ us) = (t < u) × AllAfter t us

abbrev pub StrictlyRises : List ℕ → Type 0
StrictlyRises [] = Unit {0}
StrictlyRises (t ∷ ts) = AllAfter t ts × StrictlyRises ts

abbrev pub instants : List Difference → List ℕ
instants ls = map (λ (l : Difference). l.instant) ls

-- ls lists how the books a and b differ: by rising instant, and at each instant what is to be listed there
pub record Lists (a b : List ℕ) (ls : List Difference) : Type 0 where
  pub rises : StrictlyRises (instants ls)
  pub each : (t : ℕ) → listed_on t ls ≡ difference_of t (body_on t (cycles_in a)) (body_on t (cycles_in b))
