-- The item table meets its rule: one test, which antt computes over the 512 entries, and the laws that turn it into the rule at each place.
-- A second test, over the items, says that each lies within the column and has the length that its form asks for. Assumes nothing.
use mathlib.Core.Path.{◌≡◌, refl, ap, ◌∙◌}
use mathlib.Core.Bool.{Bool, true, false, cond, ◌&&◌, ◌||◌}
use mathlib.Core.List.{[], ◌∷◌}
use mathlib.Core.Logic.{◌⊎◌, inl, inr, ⊎_elim}
use Prim.Native.Nat.{ℕ, zero, suc, ◌+◌, ◌*◌, ◌-◌, ◌/◌, ◌%◌, ◌≤◌, ◌<◌}
use native.Mathlib.Omega.{arith}
use native.Mathlib.Nat.{add-zero, le_refl}
use lib.Dec.{T, eqb, leb, ltb, eqb→eq, leb→le, ltb→lt}
use lib.Ieee.Fits.{and_l, and_r}
use lib.ListN.{length, get_or}
use borrow.Author.Tests.{eq-eqb, ne_eqb}
use Rattle.base.specs.Lists.{count_by}
use Rattle.word72_items.specs.declared.Form.{Form}
use Rattle.word72_items.specs.declared.Form.TheVariants.{Count, TwelveBit, Flags, Number, Time, Fill}
use Rattle.word72_items.specs.declared.Item.{Item}
use Rattle.word72_items.specs.Layout.{◌to◌, ◌is◌, table17, table18, table19, table20}
use Rattle.word72_items.specs.ItemTable.{layout, count_of_items, item_of, suits, items, entry, holds, Rule}
use Rattle.word72_items.specs.CodeTables.{letter, forms, form_of, form_at}
use Rattle.word72_items.proofs.Each.{every, at, only_one}

-- ---- the test of entry n, whose value is x

-- place p of kind k lies in item x and in no other
placed : ℕ → ℕ → ℕ → Bool
placed k p x = ltb x (count_of_items k) && holds p (item_of k x) && eqb (count_by (holds p) (layout k)) 1

-- 0 at a kind's first place, and else the entry before it or one more
follows : ℕ → ℕ → Bool
follows n x = cond (eqb (n % 128) 0) (eqb x 0) (eqb x (get_or items (n - 1) 0) || eqb x (get_or items (n - 1) 0 + 1))

-- the letter there is that of the item's form
lettered : ℕ → ℕ → Bool
lettered n x = eqb (get_or forms n 0) (letter (item_of (n / 128) x).form)

lawful : ℕ → ℕ → Bool
lawful n x = placed (n / 128) (n % 128) x && follows n x && lettered n x

whole : length items ≡ 512
unfolding items table17 table18 table19 table20
whole = refl

tested : (n : ℕ) → n < 512 → T (lawful n (get_or items n 0))
unfolding items forms layout table17 table18 table19 table20 lawful placed follows lettered
tested n h = at lawful 0 items tt n h

-- ---- the rule at each place

same-form : (f : Form) → form_of (letter f) ≡ f
same-form Count = refl
same-form TwelveBit = refl
same-form Flags = refl
same-form Number = refl
same-form Time = refl
same-form Fill = refl

module _ (k p : ℕ) (K : k < 4) (P : p < 128) where
  test : T (placed k p (entry k p)) × T (follows (128 * k + p) (entry k p)) × T (eqb (get_or forms (128 * k + p) 0) (letter (item_of k (entry k p)).form))
  unfolding lawful lettered
  test =
      let n = 128 * k + p in
      let kind : n / 128 ≡ k = omega arith in
      let place : n % 128 ≡ p = omega arith in
      let t = rw (kind, place) at (tested n (omega arith)) in
      let a = placed k p (entry k p) in
      let b = follows n (entry k p) in
      let c = eqb (get_or forms n 0) (letter (item_of k (entry k p)).form) in
      (and_l a b (and_l (a && b) c t), and_r a b (and_l (a && b) c t), and_r (a && b) c t)

  pub lies : (entry k p < count_of_items k) × T (holds p (item_of k (entry k p)))
  unfolding placed
  lies =
      let x = entry k p in
      let a = ltb x (count_of_items k) in
      let b = holds p (item_of k x) in
      let t = and_l (a && b) (eqb (count_by (holds p) (layout k)) 1) test.0 in
      (ltb→lt x (count_of_items k) (and_l a b t), and_r a b t)

  once : count_by (holds p) (layout k) ≡ 1
  unfolding placed
  once =
      let x = entry k p in
      eqb→eq (count_by (holds p) (layout k)) 1 (and_r (ltb x (count_of_items k) && holds p (item_of k x)) (eqb (count_by (holds p) (layout k)) 1) test.0)

  pub alone : (n : ℕ) → n < count_of_items k → T (holds p (item_of k n)) → n ≡ entry k p
  alone n h t = only_one (holds p) (0 to 0 is Fill) (layout k) n (entry k p) once h lies.0 t lies.1

  pub form_at_lem : form_at k p ≡ (item_of k (entry k p)).form
  form_at_lem =
      let f = (item_of k (entry k p)).form in
      ap form_of (eqb→eq (get_or forms (128 * k + p) 0) (letter f) test.2) ∙ same-form f

either : (a b : Bool) → T (a || b) → T a ⊎ T b
either true b t = inl tt
either false b t = inr t

start : (k : ℕ) → k < 4 → entry k 0 ≡ 0
unfolding follows
start k K = eqb→eq _ 0 (rw (eq-eqb ((128 * k + 0) % 128) 0 (omega arith)) at (test k 0 K (omega arith)).1)

pub rise : (k p : ℕ) → k < 4 → p + 1 < 128 → (entry k (p + 1) ≡ entry k p) ⊎ (entry k (p + 1) ≡ entry k p + 1)
unfolding follows
rise k p K P =
    let n = 128 * k + (p + 1) in
    let back : n - 1 ≡ 128 * k + p = omega arith in
    ⊎_elim (λ t. inl (eqb→eq _ _ t)) (λ t. inr (eqb→eq _ _ t))
    (either (eqb (entry k (p + 1)) (entry k p)) (eqb (entry k (p + 1)) (entry k p + 1))
    (rw back at (rw (ne_eqb (n % 128) 0 (λ e. omega arith)) at (test k (p + 1) K P).1)))

-- numbers never fall
pub up : (k p q : ℕ) → k < 4 → p ≤ q → q < 128 → entry k p ≤ entry k q
up k p q K pq Q = let e : p + (q - p) ≡ q = omega arith in rw e at (by (q - p) (omega arith))
  where
    by : (d : ℕ) → p + d < 128 → entry k p ≤ entry k (p + d)
    by zero h = rw add-zero (le_refl _)
    by (suc d) h =
        let e : p + suc d ≡ p + d + 1 = omega arith in
        let below = by d (omega arith) in
        rw e (⊎_elim (λ s. omega arith) (λ s. omega arith) (rise k (p + d) K (omega arith)))

-- ---- the items themselves

-- an item lies within the column and has the length that its form asks for
sound : ℕ → Item → Bool
sound n i = suits i.form i.length && leb (i.first + i.length) 128

all_sound : (k : ℕ) → k < 4 → T (every sound 0 (layout k))
unfolding layout table17 table18 table19 table20 sound
all_sound k K = at (λ m l. every sound 0 l) [] (table17 ∷ table18 ∷ table19 ∷ table20 ∷ []) tt k K

pub few_items : (k : ℕ) → k < 4 → count_of_items k ≤ 128
unfolding layout table17 table18 table19 table20
few_items k K = leb→le (count_of_items k) 128 (at (λ m l. leb (length l) 128) [] (table17 ∷ table18 ∷ table19 ∷ table20 ∷ []) tt k K)

not_empty : (f : Form) (n : ℕ) → T (suits f n) → 1 ≤ n
not_empty Count n t = leb→le 1 n t
not_empty TwelveBit n t = omega (arith, eqb→eq n 2 t)
not_empty Flags n t = omega (arith, eqb→eq n 1 t)
not_empty Number n t = omega (arith, eqb→eq n 6 t)
not_empty Time n t = omega (arith, eqb→eq n 7 t)
not_empty Fill n t = leb→le 1 n t

pub record Sound (i : Item) : Type 0 where
  pub suited : T (suits i.form i.length)
  pub some : 1 ≤ i.length
  pub ends : i.first + i.length ≤ 128

pub item_sound : (k n : ℕ) → k < 4 → n < count_of_items k → Sound (item_of k n)
unfolding sound
item_sound k n K N =
    let i = item_of k n in
    let a = suits i.form i.length in
    let b = leb (i.first + i.length) 128 in
    let t = at sound (0 to 0 is Fill) (layout k) (all_sound k K) n N in
    record {
      suited = and_l a b t;
      some = not_empty i.form i.length (and_l a b t);
      ends = leb→le (i.first + i.length) 128 (and_r a b t);
    }

-- ---- all of it

pub rule : Rule
rule =
    record {
      covers = whole;
      lies_in = lies;
      in_no_other = λ k p n K P. alone k p K P n;
      neighbours = λ k p q r K pq qr R e.
          let a = up k p q K pq (omega arith) in
          let b = up k q r K qr R in
          omega arith;
      starts = start;
      rises = rise;
      sized = λ k n K N. (item_sound k n K N).suited;
    }
