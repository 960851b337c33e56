-- The merge said instant by instant: of cycles that strictly rise it lists at each instant what is to be listed there, its instants strictly rise,
-- and no other list does both. A step takes the lower of two instants, so that all that follows lies after it: the cases are those of the two
-- cycles that come next. Assumes nothing.
use mathlib.Core.Path.{◌≡◌, refl, sym, ap, ◌∙◌}
use mathlib.Core.Bool.{Bool, true, false, cond}
use mathlib.Core.List.{List, [], ◌∷◌, ◌++◌}
use mathlib.Core.Option.{none, some}
use Prim.Native.Nat.{ℕ, ◌<◌}
use native.Mathlib.Omega.{arith}
use lib.Dec.{eqb, ltb}
use lib.ListN.{length}
use borrow.Author.Tests.{ltb-true, ltb-false, eq-eqb, ne_eqb, eqb-true}
use Rattle.book_compare.specs.Differences.{Cycle, body_on, Difference, only_first, only_second, in_both, first_differing, difference_of}
use Rattle.book_compare.specs.Differences.{listed_on, AllAfter, StrictlyRises, instants}
use Rattle.book_compare.specs.Merge.{together, merged, cycle_instants}

-- ---- what lies after t
after-trans : (s t : ℕ) (us : List ℕ) → s < t → AllAfter t us → AllAfter s us
after-trans s t [] h a = tt
after-trans s t (u ∷ us) h a = let b = a.0 in (omega arith, after-trans s t us h a.1)

no_body : (t : ℕ) (cs : List Cycle) → AllAfter t (cycle_instants cs) → body_on t cs ≡ none
no_body t [] a = refl
no_body t (c ∷ cs) a = let l = a.0 in rw (ne_eqb c.instant t (λ e. omega arith)) (no_body t cs a.1)

not_listed : (t : ℕ) (ls : List Difference) → AllAfter t (instants ls) → listed_on t ls ≡ none
not_listed t [] a = refl
not_listed t (l ∷ ls) a = let h = a.0 in rw (ne_eqb l.instant t (λ e. omega arith)) (not_listed t ls a.1)

-- ---- one list alone
second-alone : (t : ℕ) (ds : List Cycle) → listed_on t (merged [] ds) ≡ difference_of t none (body_on t ds)
second-alone t [] = refl
second-alone t (d ∷ ds) = go (eqb d.instant t) refl (second-alone t ds)
  where
    go : (p : Bool) → eqb d.instant t ≡ p → listed_on t (merged [] ds) ≡ difference_of t none (body_on t ds)
        → cond p (some (only_second d.instant)) (listed_on t (merged [] ds)) ≡ difference_of t none (cond p (some d.body) (body_on t ds))
    go true e r = ap (λ (u : ℕ). some (only_second u)) (eqb-true d.instant t e)
    go false e r = r

second-instants : (ds : List Cycle) → instants (merged [] ds) ≡ cycle_instants ds
second-instants [] = refl
second-instants (d ∷ ds) = ap (λ (r : List ℕ). d.instant ∷ r) (second-instants ds)

-- ---- two cycles of one instant
module _ (c d : Cycle) (rest : List Difference) where
  abbrev place : ℕ
  place = first_differing c.body d.body

  abbrev same : Bool
  same = eqb place (length c.body)

  -- their line, if it has one, before the rest
  abbrev with : Bool → List Difference
  with q = cond q [] (in_both c.instant place ∷ []) ++ rest

  listed-there : (t : ℕ) → c.instant ≡ t → listed_on t rest ≡ none → listed_on t (together c d ++ rest) ≡ difference_of t (some c.body) (some d.body)
  listed-there t e r = go same
    where
      go : (q : Bool) → listed_on t (with q) ≡ cond q none (some (in_both t place))
      go true = r
      go false = rw (eq-eqb c.instant t e) (ap (λ (u : ℕ). some (in_both u place)) e)

  listed-elsewhere : (t : ℕ) → eqb c.instant t ≡ false → listed_on t (together c d ++ rest) ≡ listed_on t rest
  listed-elsewhere t e = go same
    where
      go : (q : Bool) → listed_on t (with q) ≡ listed_on t rest
      go true = refl
      go false = rw e

  after-together : (t : ℕ) → t < c.instant → AllAfter t (instants rest) → AllAfter t (instants (together c d ++ rest))
  after-together t h a = go same
    where
      go : (q : Bool) → AllAfter t (instants (with q))
      go true = a
      go false = (h, a)

  rise_together : AllAfter c.instant (instants rest) → StrictlyRises (instants rest) → StrictlyRises (instants (together c d ++ rest))
  rise_together a r = go same
    where
      go : (q : Bool) → StrictlyRises (instants (with q))
      go true = r
      go false = (a, r)

-- ---- what is listed at an instant
abbrev Right : ℕ → List Cycle → List Cycle → Type 0
Right t cs ds = listed_on t (merged cs ds) ≡ difference_of t (body_on t cs) (body_on t ds)

module _ (t : ℕ) (c : Cycle) (cs : List Cycle) (rc : StrictlyRises (cycle_instants (c ∷ cs)))
    (later : (es : List Cycle) → StrictlyRises (cycle_instants es) → Right t cs es) where
  first_alone : Right t (c ∷ cs) []
  first_alone = go (eqb c.instant t) refl
    where
      go : (p : Bool) → eqb c.instant t ≡ p → Right t (c ∷ cs) []
      go true e = rw e (ap (λ (u : ℕ). some (only_first u)) (eqb-true c.instant t e))
      go false e = rw e (later [] tt)

  module _ (d : Cycle) (ds : List Cycle) (rd : StrictlyRises (cycle_instants (d ∷ ds))) where
    abbrev Goal : Type 0
    Goal = Right t (c ∷ cs) (d ∷ ds)

    first-lower : ltb c.instant d.instant ≡ true → Goal
    first-lower l = go (eqb c.instant t) refl
      where
        go : (p : Bool) → eqb c.instant t ≡ p → Goal
        go true e =
            let s = eqb-true c.instant t e in
            let h = ltb-true c.instant d.instant l in
            let none-there = no_body t (d ∷ ds) (omega arith, after-trans t d.instant (cycle_instants ds) (omega arith) rd.0) in
            rw (l, e, none-there) (ap (λ (u : ℕ). some (only_first u)) s)
        go false e = rw (l, e) (later (d ∷ ds) rd)

    second-lower : ltb c.instant d.instant ≡ false → ltb d.instant c.instant ≡ true → Right t (c ∷ cs) ds → Goal
    second-lower n l r = go (eqb d.instant t) refl
      where
        go : (p : Bool) → eqb d.instant t ≡ p → Goal
        go true e =
            let s = eqb-true d.instant t e in
            let h = ltb-true d.instant c.instant l in
            let none-there = no_body t (c ∷ cs) (omega arith, after-trans t c.instant (cycle_instants cs) (omega arith) rc.0) in
            rw (n, l, e, none-there) (ap (λ (u : ℕ). some (only_second u)) s)
        go false e = rw (n, l, e) r

    at_once : ltb c.instant d.instant ≡ false → ltb d.instant c.instant ≡ false → Goal
    at_once n m = go (eqb c.instant t) refl
      where
        one-instant : c.instant ≡ d.instant
        one-instant = let h = ltb-false c.instant d.instant n in let k = ltb-false d.instant c.instant m in omega arith

        go : (p : Bool) → eqb c.instant t ≡ p → Goal
        go true e =
            let s = eqb-true c.instant t e in
            let u = sym one-instant ∙ s in
            let f = eq-eqb d.instant t u in
            let no_more : listed_on t (merged cs ds) ≡ none =
            later ds rd.1 ∙ rw (no_body t cs (rw s at rc.0), no_body t ds (rw u at rd.0)) in
            rw (n, m, e, f) (listed-there c d (merged cs ds) t s no_more)
        go false e =
            let f : eqb d.instant t ≡ false = ap (λ (u : ℕ). eqb u t) (sym one-instant) ∙ e in
            rw (n, m) (listed-elsewhere c d (merged cs ds) t e ∙ rw (e, f) (later ds rd.1))

  right_against : (ds : List Cycle) → StrictlyRises (cycle_instants ds) → Right t (c ∷ cs) ds
  right_against [] rd = first_alone
  right_against (d ∷ ds) rd = pick (ltb c.instant d.instant) (ltb d.instant c.instant) refl refl (right_against ds rd.1)
    where
      pick : (p q : Bool) → ltb c.instant d.instant ≡ p → ltb d.instant c.instant ≡ q → Right t (c ∷ cs) ds → Goal d ds rd
      pick true q ep eq r = first-lower d ds rd ep
      pick false true ep eq r = second-lower d ds rd ep eq r
      pick false false ep eq r = at_once d ds rd ep eq

pub listed-right : (t : ℕ) (cs ds : List Cycle) → StrictlyRises (cycle_instants cs) → StrictlyRises (cycle_instants ds) → Right t cs ds
listed-right t [] ds rc rd = second-alone t ds
listed-right t (c ∷ cs) ds rc rd = right_against t c cs rc (λ es re. listed-right t cs es rc.1 re) ds rd

-- ---- the instants of the merge rise

-- the merge of c and what follows it with d and what follows it, by the two tests
abbrev picked : Cycle → List Cycle → Cycle → List Cycle → Bool → Bool → List Difference
picked c cs d ds p q =
    cond p (only_first c.instant ∷ merged cs (d ∷ ds)) (cond q (only_second d.instant ∷ merged (c ∷ cs) ds) (together c d ++ merged cs ds))

module _ (t : ℕ) (c : Cycle) (cs : List Cycle) (h : t < c.instant)
    (later : (es : List Cycle) → AllAfter t (cycle_instants es) → AllAfter t (instants (merged cs es))) where
  after-against : (ds : List Cycle) → AllAfter t (cycle_instants ds) → AllAfter t (instants (merged (c ∷ cs) ds))
  after-against [] a = (h, later [] tt)
  after-against (d ∷ ds) a = pick (ltb c.instant d.instant) (ltb d.instant c.instant) (after-against ds a.1)
    where
      pick : (p q : Bool) → AllAfter t (instants (merged (c ∷ cs) ds)) → AllAfter t (instants (picked c cs d ds p q))
      pick true q r = (h, later (d ∷ ds) a)
      pick false true r = (a.0, r)
      pick false false r = after-together c d (merged cs ds) t h (later ds a.1)

after-merged : (t : ℕ) (cs ds : List Cycle) → AllAfter t (cycle_instants cs) → AllAfter t (cycle_instants ds) → AllAfter t (instants (merged cs ds))
after-merged t [] ds a b = rw (second-instants ds) b
after-merged t (c ∷ cs) ds a b = after-against t c cs a.0 (λ es e. after-merged t cs es a.1 e) ds b

module _ (c : Cycle) (cs : List Cycle) (rc : StrictlyRises (cycle_instants (c ∷ cs)))
    (later : (es : List Cycle) → StrictlyRises (cycle_instants es) → StrictlyRises (instants (merged cs es))) where
  rise_against : (ds : List Cycle) → StrictlyRises (cycle_instants ds) → StrictlyRises (instants (merged (c ∷ cs) ds))
  rise_against [] rd = (after-merged c.instant cs [] rc.0 tt, later [] tt)
  rise_against (d ∷ ds) rd = pick (ltb c.instant d.instant) (ltb d.instant c.instant) refl refl (rise_against ds rd.1)
    where
      pick : (p q : Bool) → ltb c.instant d.instant ≡ p → ltb d.instant c.instant ≡ q → StrictlyRises (instants (merged (c ∷ cs) ds))
          → StrictlyRises (instants (picked c cs d ds p q))
      pick true q ep eq r =
          let h = ltb-true c.instant d.instant ep in
          let after : AllAfter c.instant (cycle_instants (d ∷ ds)) = (h, after-trans c.instant d.instant (cycle_instants ds) h rd.0) in
          (after-merged c.instant cs (d ∷ ds) rc.0 after, later (d ∷ ds) rd)
      pick false true ep eq r =
          let h = ltb-true d.instant c.instant eq in
          let after : AllAfter d.instant (cycle_instants (c ∷ cs)) = (h, after-trans d.instant c.instant (cycle_instants cs) h rc.0) in
          (after-merged d.instant (c ∷ cs) ds after rd.0, r)
      pick false false ep eq r =
          let h = ltb-false c.instant d.instant ep in
          let k = ltb-false d.instant c.instant eq in
          let one-instant : d.instant ≡ c.instant = omega arith in
          rise_together c d (merged cs ds) (after-merged c.instant cs ds rc.0 (rw one-instant at rd.0)) (later ds rd.1)

pub listed-rises : (cs ds : List Cycle) → StrictlyRises (cycle_instants cs) → StrictlyRises (cycle_instants ds) → StrictlyRises (instants (merged cs ds))
listed-rises [] ds rc rd = rw (second-instants ds) rd
listed-rises (c ∷ cs) ds rc rd = rise_against c cs rc (λ es re. listed-rises cs es rc.1 re) ds rd

-- ---- a list that rises is known by what it lists at each instant
absurd_option : {P : Type 0} (l : Difference) → none ≡ some l → P
absurd_option l e = let z : ◌≡◌ {A = ℕ} 0 1 = cc in absurd (impossible z)
  where
    impossible : ◌≡◌ {A = ℕ} 0 1 → ⊥
    impossible z = omega arith

listed-first : (l : Difference) (ls : List Difference) → listed_on l.instant (l ∷ ls) ≡ some l
listed-first l ls = rw (eq-eqb l.instant l.instant refl)

pub one_list : (ls ms : List Difference) → StrictlyRises (instants ls) → StrictlyRises (instants ms) → ((t : ℕ) → listed_on t ls ≡ listed_on t ms) → ls ≡ ms
one_list [] [] rl rm h = refl
one_list [] (m ∷ ms) rl rm h = absurd_option m (h m.instant ∙ listed-first m ms)
one_list (l ∷ ls) [] rl rm h = absurd_option l (sym (h l.instant) ∙ listed-first l ls)
one_list (l ∷ ls) (m ∷ ms) rl rm h =
    pick (ltb l.instant m.instant) (ltb m.instant l.instant) refl refl (λ rest. one_list ls ms rl.1 rm.1 rest)
  where
    pick : (p q : Bool) → ltb l.instant m.instant ≡ p → ltb m.instant l.instant ≡ q
        → (((t : ℕ) → listed_on t ls ≡ listed_on t ms) → ls ≡ ms) → l ∷ ls ≡ m ∷ ms
    pick true q ep eq later =
        let a = ltb-true l.instant m.instant ep in
        let none-there = not_listed l.instant (m ∷ ms) (a, after-trans l.instant m.instant (instants ms) a rm.0) in
        absurd_option l (sym none-there ∙ sym (h l.instant) ∙ listed-first l ls)
    pick false true ep eq later =
        let a = ltb-true m.instant l.instant eq in
        let none-there = not_listed m.instant (l ∷ ls) (a, after-trans m.instant l.instant (instants ls) a rl.0) in
        absurd_option m (sym none-there ∙ h m.instant ∙ listed-first m ms)
    pick false false ep eq later =
        let a = ltb-false l.instant m.instant ep in
        let b = ltb-false m.instant l.instant eq in
        let one-instant : m.instant ≡ l.instant = omega arith in
        let first : some l ≡ some m =
        sym (listed-first l ls) ∙ h l.instant ∙ ap (λ (t : ℕ). listed_on t (m ∷ ms)) (sym one-instant) ∙ listed-first m ms in
        let head : l ≡ m = cc in
        let tail : ls ≡ ms = later (λ t. rest t (eqb l.instant t) refl one-instant) in
        rw (head, tail)
      where
        rest : (t : ℕ) (b : Bool) → eqb l.instant t ≡ b → m.instant ≡ l.instant → listed_on t ls ≡ listed_on t ms
        rest t true e one-instant =
            let s = eqb-true l.instant t e in
            not_listed t ls (rw s at rl.0) ∙ sym (not_listed t ms (rw (one-instant ∙ s) at rm.0))
        rest t false e one-instant =
            let f : eqb m.instant t ≡ false = ap (λ (u : ℕ). eqb u t) one-instant ∙ e in
            rw (e, f) at (h t)
