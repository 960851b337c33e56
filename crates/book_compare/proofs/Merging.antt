-- The merge of two books: its steps, the table after so many lines, and that it has no line exactly where the cycles are the same. A step is told by
-- the two cycles that come next, whatever was merged before; `Progress` says that what is listed with what is yet to be merged is the whole
-- merge, so that the loop needs the law of one step alone. Assumes nothing.
use mathlib.Core.Path.{◌≡◌, refl, sym, ap, ◌∙◌}
use mathlib.Core.Bool.{Bool, true, false, cond}
use mathlib.Core.List.{List, [], ◌∷◌, ◌++◌, append_assoc, append-nil}
use Prim.Native.Nat.{ℕ, suc, ◌+◌, ◌*◌, ◌-◌, ◌≤◌, ◌<◌}
use native.Mathlib.Numerals.{add-one, towards_suc}
use native.Mathlib.Omega.{arith}
use lib.Dec.{eqb, leb, ltb}
use lib.ListN.{length, take, drop, set, length-append}
use lib.Seq.{take_at, drop_at, drop-drop, sets-eq}
use borrow.Author.Tests.{lt-ltb, le-ltb, leb-true, leb-false, ltb-false, eq-eqb, ne_eqb, eqb-true}
use Rattle.base.specs.Lists.{concat_map}
use Rattle.base.specs.Ranges.{tabulate}
use Rattle.base.proofs.Lists.{concat_map-append}
use Rattle.book.specs.Layout.{cycles_said, instant_at, body_at}
use Rattle.book_parts.specs.Parts.{Entered}
use Rattle.book_compare.specs.declared.merge.Line.{Line}
use Rattle.book_compare.specs.declared.merge.Step.{Step}
use Rattle.std.proofs.Common.{Option, Some, None}
use Rattle.book_compare.specs.Differences.{Cycle, cycle_at, Difference, only_first, only_second, in_both, first_differing}
use Rattle.book_compare.specs.Answer.{numbers, listed}
use Rattle.book_compare.specs.Merge.{merged, cycles_from, merged_from, step_to, bare_step_to, difference_in, lines_in, past_both, line_numbers}
use Rattle.book_compare.specs.Merge.{Placed, Stepped, PutPromise}
use Rattle.book_compare.proofs.FirstByte.{differing_le, same-list, differs_nowhere}
use Rattle.book_parts.proofs.Held.{body-length}

-- ---- the cycles from i on
module _ (b : List ℕ) (i : ℕ) where
  next-cycle : i < cycles_said b → cycles_from b i ≡ cycle_at b i ∷ cycles_from b (i + 1)
  next-cycle h =
      let e : cycles_said b - i ≡ suc (cycles_said b - (i + 1)) = omega arith in
      ap (λ (m : ℕ). tabulate (cycle_at b) i m) e ∙ ap (λ (m : ℕ). cycle_at b i ∷ tabulate (cycle_at b) m (cycles_said b - (i + 1))) (sym (add-one i))

  no_cycle : cycles_said b ≤ i → cycles_from b i ≡ []
  no_cycle h = let e : cycles_said b - i ≡ 0 = omega arith in ap (λ (m : ℕ). tabulate (cycle_at b) i m) e

-- ---- a step
module _ (a b : List ℕ) (i j : ℕ) (s : Step) where
  pub first_ended : (t : ℕ) → i ≡ cycles_said a → j < cycles_said b → t ≡ instant_at b j → s ≡ step_to i (j + 1) (only_second t) → Stepped a b i j s
  first_ended t p h et es = rw es (record {
    goes_on = rw (no_cycle a i (omega arith), next-cycle b j h, et);
    onward = omega arith;
    first_within = omega arith;
    second_within = omega arith;
  })

  pub second_ended : (t : ℕ) → i < cycles_said a → j ≡ cycles_said b → t ≡ instant_at a i → s ≡ step_to (i + 1) j (only_first t) → Stepped a b i j s
  second_ended t h p et es = rw es (record {
    goes_on = rw (no_cycle b j (omega arith), next-cycle a i h, et);
    onward = omega arith;
    first_within = omega arith;
    second_within = omega arith;
  })

  -- both have a cycle to come, of the instants t and u
  module _ (hi : Entered a i) (hj : Entered b j) (t u : ℕ) (et : t ≡ instant_at a i) (eu : u ≡ instant_at b j) where
    both-to_come : merged_from a b i j ≡ merged (cycle_at a i ∷ cycles_from a (i + 1)) (cycle_at b j ∷ cycles_from b (j + 1))
    both-to_come = rw (next-cycle a i hi.below, next-cycle b j hj.below)

    pub first-lower : t < u → s ≡ step_to (i + 1) j (only_first t) → Stepped a b i j s
    first-lower l es =
        let h = hi.below in
        let k = hj.below in
        let test : ltb (instant_at a i) (instant_at b j) ≡ true = lt-ltb (instant_at a i) (instant_at b j) (omega arith) in
        rw es (record {
          goes_on = both-to_come ∙ rw (test, et, next-cycle b j k);
          onward = omega arith;
          first_within = omega arith;
          second_within = omega arith;
        })

    pub second-lower : u < t → s ≡ step_to i (j + 1) (only_second u) → Stepped a b i j s
    second-lower l es =
        let h = hi.below in
        let k = hj.below in
        let not_lower : ltb (instant_at a i) (instant_at b j) ≡ false = le-ltb (instant_at a i) (instant_at b j) (omega arith) in
        let test : ltb (instant_at b j) (instant_at a i) ≡ true = lt-ltb (instant_at b j) (instant_at a i) (omega arith) in
        rw es (record {
          goes_on = both-to_come ∙ rw (not_lower, test, eu, next-cycle a i h);
          onward = omega arith;
          first_within = omega arith;
          second_within = omega arith;
        })

    -- one instant, and bodies that first differ at p
    module _ (tu : t ≡ u) (p : ℕ) (ep : p ≡ first_differing (body_at a i) (body_at b j)) where
      at_once : merged_from a b i j ≡ cond (eqb p (length (body_at a i))) [] (in_both t p ∷ []) ++ merged_from a b (i + 1) (j + 1)
      at_once =
          let not_first : ltb (instant_at a i) (instant_at b j) ≡ false = le-ltb (instant_at a i) (instant_at b j) (omega arith) in
          let not-second : ltb (instant_at b j) (instant_at a i) ≡ false = le-ltb (instant_at b j) (instant_at a i) (omega arith) in
          both-to_come ∙ rw (not_first, not-second, ep, et)

      pub together-past : s ≡ past_both i j t p → Stepped a b i j s
      together-past es = go (leb 65536 p) refl es
        where
          go : (q : Bool) → leb 65536 p ≡ q → s ≡ cond q (bare_step_to (i + 1) (j + 1)) (step_to (i + 1) (j + 1) (in_both t p)) → Stepped a b i j s
          go true e f =
              let h = hi.below in
              let k = hj.below in
              let l = leb-true 65536 p e in
              let w = body-length a i hi in
              let m = differing_le (body_at a i) (body_at b j) in
              let same : eqb p (length (body_at a i)) ≡ true = eq-eqb p (length (body_at a i)) (omega arith) in
              rw f (record { goes_on = at_once ∙ rw same; onward = omega arith; first_within = omega arith; second_within = omega arith })
          go false e f =
              let h = hi.below in
              let k = hj.below in
              let l = leb-false 65536 p e in
              let w = body-length a i hi in
              let other : eqb p (length (body_at a i)) ≡ false = ne_eqb p (length (body_at a i)) (λ q. omega arith) in
              rw f (record { goes_on = at_once ∙ rw other; onward = omega arith; first_within = omega arith; second_within = omega arith })

-- the next step starts where this one came to
pub placed_on : (a b : List ℕ) (i j : ℕ) (s : Step) → Placed a b i j → Stepped a b i j s → Placed a b s.i s.j
placed_on a b i j s p on =
    record { first_sized = p.first_sized; second_sized = p.second_sized; first_within = on.first_within; second_within = on.second_within }

-- ---- the table

-- three stores, as one
pub put_three : (l : List ℕ) (i x y z : ℕ) → i + 3 ≤ length l
    → set (set (set l i x) (i + 1) y) (i + 2) z ≡ take i l ++ ((x ∷ y ∷ z ∷ []) ++ drop (i + 3) l)
put_three l i x y z h =
    simp towards_suc
    (sets-eq (x ∷ y ∷ z ∷ []) l i (omega arith) ∙ append_assoc (take i l) (x ∷ y ∷ z ∷ []) (drop (i + 3) l) ∙ simp towards_suc)

numbers-length : (ls : List Difference) → length (concat_map numbers ls) ≡ 3 * length ls
numbers-length [] = refl
numbers-length (l ∷ ls) = omega (arith, numbers-length ls)

-- a line more: it comes after those that are listed
listed_more : (ls : List Difference) (l : Difference) (old table : List ℕ) (k : ℕ) → length ls ≡ k → table ≡ listed ls old
    → take (3 * k) table ++ (numbers l ++ drop (3 * k + 3) table) ≡ listed (ls ++ (l ∷ [])) old
listed_more ls l old table k count holds =
    let before = concat_map numbers ls in
    let rest = drop (3 * length ls) old in
    let width : length before ≡ 3 * k = omega (arith, numbers-length ls) in
    let head : take (3 * k) table ≡ before = ap (λ (r : List ℕ). take (3 * k) r) holds ∙ take_at before rest (3 * k) width in
    let more : 3 * length ls + 3 ≡ 3 * length (ls ++ (l ∷ [])) = omega (arith, length-append ls (l ∷ [])) in
    let tail : drop (3 * k + 3) table ≡ drop (3 * length (ls ++ (l ∷ []))) old =
    sym (drop-drop 3 (3 * k) table)
    ∙ ap (λ (r : List ℕ). drop 3 (drop (3 * k) r)) holds
    ∙ ap (λ (r : List ℕ). drop 3 r) (drop_at before rest (3 * k) width)
    ∙ drop-drop 3 (3 * length ls) old
    ∙ ap (λ (m : ℕ). drop m old) more in
    let joined : before ++ numbers l ≡ concat_map numbers (ls ++ (l ∷ [])) = sym (concat_map-append numbers ls (l ∷ [])) in
    ap (λ (r : List ℕ). r ++ (numbers l ++ drop (3 * k + 3) table)) head
    ∙ ap (λ (r : List ℕ). before ++ (numbers l ++ r)) tail
    ∙ sym (append_assoc before (numbers l) (drop (3 * length (ls ++ (l ∷ []))) old))
    ∙ ap (λ (r : List ℕ). r ++ drop (3 * length (ls ++ (l ∷ []))) old) joined

-- after k lines, with cycles i and j to come: what is listed, and what is yet to be merged, is the whole merge
pub record Progress (a b old table : List ℕ) (i j k : ℕ) : Type 0 where
  pub done : List Difference
  pub count : length done ≡ k
  pub whole : done ++ merged_from a b i j ≡ merged_from a b 0 0
  pub holds : table ≡ listed done old

pub begun : (a b old : List ℕ) → Progress a b old old 0 0 0
begun a b old = record { done = []; count = refl; whole = refl; holds = refl }

module _ (a b old table : List ℕ) (i j k : ℕ) (s : Step) (st : Stepped a b i j s) (p : Progress a b old table i j k) where
  -- what is merged before the step, and after it
  abbrev next : List Difference
  next = merged_from a b s.i s.j

  merged_on : (ls : List Difference) → lines_in s.line ≡ ls → p.done ++ (ls ++ next) ≡ merged_from a b 0 0
  merged_on ls e = ap (λ (r : List Difference). p.done ++ (r ++ next)) (sym e) ∙ ap (λ (r : List Difference). p.done ++ r) (sym st.goes_on) ∙ p.whole

  pub no_line : s.line ≡ None → Progress a b old table s.i s.j k
  no_line z = record {
    done = p.done;
    count = p.count;
    whole = merged_on [] (ap lines_in z);
    holds = p.holds;
  }

  pub one_line : (line : Line) → s.line ≡ Some line → (new : List ℕ)
      → new ≡ take (3 * k) table ++ (line_numbers line ++ drop (3 * k + 3) table) → Progress a b old new s.i s.j (k + 1)
  one_line line z new e =
      let c = p.count in
      let l = difference_in line in
      record {
        done = p.done ++ (l ∷ []);
        count = omega (arith, length-append p.done (l ∷ []));
        whole = append_assoc p.done (l ∷ []) next ∙ merged_on (l ∷ []) (ap lines_in z);
        holds = e ∙ listed_more p.done l old table k c p.holds;
      }

pub ended : (a b old table : List ℕ) (i j k : ℕ) → cycles_said a ≤ i → cycles_said b ≤ j → Progress a b old table i j k → PutPromise a b old table k
ended a b old table i j k hi hj p =
    let none : merged_from a b i j ≡ [] = rw (no_cycle a i hi, no_cycle b j hj) in
    let all : p.done ≡ merged_from a b 0 0 = sym (append-nil p.done) ∙ ap (λ (r : List Difference). p.done ++ r) (sym none) ∙ p.whole in
    record { count = sym p.count ∙ ap length all; after = p.holds ∙ ap (λ (r : List Difference). listed r old) all }

-- ---- no line, exactly where the cycles are the same
abbrev pub AllWide : List Cycle → Type 0
AllWide [] = Unit {0}
AllWide (c ∷ cs) = (length c.body ≡ 65536) × AllWide cs

absurd_list : {P : Type 0} (l : Difference) (ls : List Difference) → l ∷ ls ≡ [] → P
absurd_list l ls e = let z : ◌≡◌ {A = ℕ} 0 1 = cc in absurd (impossible z)
  where
    impossible : ◌≡◌ {A = ℕ} 0 1 → ⊥
    impossible z = omega arith

same-cycle : (c d : Cycle) → c.instant ≡ d.instant → c.body ≡ d.body → c ≡ d
same-cycle c d p q = ap (λ (t : ℕ). record { instant = t; body = c.body }) p ∙ ap (λ (r : List ℕ). record { instant = d.instant; body = r }) q

-- no line comes of c and what follows it, and d and what follows it, by the tests: their instants and bodies are the same
pick_same : (c d : Cycle) (cs ds : List Cycle) (l m : List Difference) (p q r : Bool) → ltb c.instant d.instant ≡ p → ltb d.instant c.instant ≡ q
    → eqb (first_differing c.body d.body) (length c.body) ≡ r → length c.body ≡ length d.body → (merged cs ds ≡ [] → cs ≡ ds)
    → cond p (only_first c.instant ∷ l)
    (cond q (only_second d.instant ∷ m) (cond r [] (in_both c.instant (first_differing c.body d.body) ∷ []) ++ merged cs ds))
    ≡ [] → c ∷ cs ≡ d ∷ ds
pick_same c d cs ds l m true q r ep eq er wide later e = absurd_list _ _ e
pick_same c d cs ds l m false true r ep eq er wide later e = absurd_list _ _ e
pick_same c d cs ds l m false false false ep eq er wide later e = absurd_list _ _ e
pick_same c d cs ds l m false false true ep eq er wide later e =
    let lp = ltb-false c.instant d.instant ep in
    let lq = ltb-false d.instant c.instant eq in
    let t : c.instant ≡ d.instant = omega arith in
    let f = eqb-true (first_differing c.body d.body) (length c.body) er in
    let head : c ≡ d = same-cycle c d t (same-list c.body d.body wide (omega arith)) in
    let tail : cs ≡ ds = later e in
    rw (head, tail)

module _ (c : Cycle) (cs : List Cycle) (wide : length c.body ≡ 65536)
    (later : (es : List Cycle) → AllWide es → merged cs es ≡ [] → cs ≡ es) where
  same-against : (ds : List Cycle) → AllWide ds → merged (c ∷ cs) ds ≡ [] → c ∷ cs ≡ ds
  same-against [] v e = absurd_list _ _ e
  same-against (d ∷ ds) v e = pick_same c d cs ds _ _ _ _ _ refl refl refl (wide ∙ sym v.0) (later ds v.1) e

pub same-cycles : (cs ds : List Cycle) → AllWide cs → AllWide ds → merged cs ds ≡ [] → cs ≡ ds
same-cycles [] [] u v e = refl
same-cycles [] (d ∷ ds) u v e = absurd_list _ _ e
same-cycles (c ∷ cs) ds u v e = same-against c cs u.0 (λ es w f. same-cycles cs es u.1 w f) ds v e

pub self_none : (cs : List Cycle) → merged cs cs ≡ []
self_none [] = refl
self_none (c ∷ cs) =
    let t = c.instant in
    let n = length c.body in
    rw (le-ltb t t (omega arith), differs_nowhere c.body, eq-eqb n n refl) (self_none cs)
