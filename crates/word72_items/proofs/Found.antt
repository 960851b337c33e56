-- The search of the item table, and what it finds by the table's rule: an item's first place, the place past it, and its form; and the
-- last number. Assumes nothing.
use Rattle.std.proofs.Common.{◌≡◌, ap, sym, ◌∙◌, true, false, List, length, get_or, take, drop, length-take, length-drop, arith}
use Rattle.std.proofs.Common.{ℕ, ◌+◌, ◌*◌, ◌-◌, ◌≤◌, ◌<◌}
use Rattle.std.proofs.lemmas.List.{get_or-take, get_or-drop}
use Rattle.std.proofs.lemmas.Grind.{get_or_default_zero}
use Rattle.std.proofs.lemmas.List.Sorted.{IsPartitionedBy-ltb, IsNonDecreasingBy-from_default}
use Rattle.std.specs.List.Sorted.{IsPartitionedBy, IsPartitionPoint}
use borrow.Author.Tests.{ltb-true, ltb-false}
use lib.Dec.{T, leb, ltb, leb→le, le→leb, ltb→lt, lt→ltb}
use lib.Ieee.Fits.{and_i, and_l, and_r}
use Rattle.word72_items.specs.declared.Form.{Form}
use Rattle.word72_items.specs.declared.Item.{Item}
use Rattle.word72_items.specs.ItemTable.{count_of_items, item_of, items, entry, holds}
use Rattle.word72_items.specs.CodeTables.{Sought, form_at}
use Rattle.word72_items.proofs.Rule.{rule, item_sound, lies, alone, form_at_lem, up}

-- the places of an item
held : (i : Item) (p : ℕ) → i.first ≤ p → p < i.first + i.length → T (holds p i)
held i p a b = and_i (leb i.first p) (ltb p (i.first + i.length)) (le→leb i.first p a) (lt→ltb p (i.first + i.length) b)

from_first : (i : Item) (p : ℕ) → T (holds p i) → i.first ≤ p
from_first i p t = leb→le i.first p (and_l (leb i.first p) (ltb p (i.first + i.length)) t)

before-end : (i : Item) (p : ℕ) → T (holds p i) → p < i.first + i.length
before-end i p t = ltb→lt p (i.first + i.length) (and_r (leb i.first p) (ltb p (i.first + i.length)) t)

-- ---- the search

-- the entries of a kind, at its places
abbrev pub row : ℕ → List ℕ
row k = take 128 (drop (128 * k) items)

module _ (k : ℕ) (K : k < 4) where
  row-length : length (row k) ≡ 128
  row-length = simp (length-take, length-drop) (omega (arith, rule.covers))

  row-at : (p d : ℕ) → p < 128 → get_or (row k) p d ≡ entry k p
  row-at p d P =
      get_or-take 128 (drop (128 * k) items) p d P
      ∙ get_or-drop (128 * k) items p d
      ∙ get_or_default_zero items (128 * k + p) d (omega (arith, rule.covers))

  -- numbers never fall, so that those below n come first
  pub parted : (n : ℕ) → IsPartitionedBy (λ x. ltb x n) (row k)
  parted n = IsPartitionedBy-ltb (λ x. x) (row k) n (IsNonDecreasingBy-from_default (λ x. x) (row k) 0 rises)
    where
      rises : (i j : ℕ) → i ≤ j → j < length (row k) → get_or (row k) i 0 ≤ get_or (row k) j 0
      rises i j ij J =
          let J' : j < 128 = omega (arith, row-length) in
          rw (row-at i 0 (omega arith), row-at j 0 J') (up k i j K ij J')

  -- where they end is the place that is sought
  pub found : (n r : ℕ) → r ≤ length (row k) → IsPartitionPoint (λ x. ltb x n ≡ true) (λ x. ltb x n ≡ false) (row k) r → Sought k n r
  found n r h point =
      record {
        within = omega (arith, row-length);
        before = λ p b. ltb-true (entry k p) n (rw (row-at p 0 (omega (arith, row-length))) at (point.0 p 0 (omega arith) b));
        after = λ p a b. ltb-false (entry k p) n (rw (row-at p 0 b) at (point.1 p 0 a (omega (arith, row-length))));
      }

-- ---- what it finds

pub no_such : (k n : ℕ) → k < 4 → n < count_of_items k → Sought k n 128 → ⊥
no_such k n K N s =
    let i = item_of k n in
    let S = item_sound k n K N in
    let at_first : n ≡ entry k i.first = alone k i.first K (omega arith) n N (held i i.first (omega arith) (omega arith)) in
    omega (arith, s.before i.first (omega arith))

module _ (k n : ℕ) (K : k < 4) (N : n < count_of_items k) where
  abbrev i : Item
  i = item_of k n

  -- the number stands at each of the item's places, and at no other
  numbered : (p : ℕ) → i.first ≤ p → p < i.first + i.length → entry k p ≡ n
  numbered p a b = let S = item_sound k n K N in sym (alone k p K (omega arith) n N (held i p a b))

  held_by : (p : ℕ) → p < 128 → entry k p ≡ n → T (holds p i)
  held_by p P e = rw e at (lies k p K P).1

  first-is : (a : ℕ) → Sought k n a → a ≡ i.first
  first-is a s =
      let S = item_sound k n K N in
      let at_first : entry k i.first ≡ n = numbered i.first (omega arith) (omega arith) in
      let not_before : i.first < a → ⊥ = λ h. omega (arith, s.before i.first h) in
      let there : entry k a ≡ n = omega (arith, s.after a (omega arith) (omega arith), up k a i.first K (omega arith) (omega arith)) in
      omega (arith, from_first i a (held_by a (omega arith) there))

  not_past : (e : ℕ) → Sought k (n + 1) e → i.first + i.length < e → ⊥
  not_past e s h =
      let S = item_sound k n K N in
      let past = i.first + i.length in
      let within : e ≤ 128 = s.within in
      let at_last : entry k (past - 1) ≡ n = numbered (past - 1) (omega arith) (omega arith) in
      let there : entry k past ≡ n = omega (arith, s.before past h, up k (past - 1) past K (omega arith) (omega arith)) in
      omega (arith, before-end i past (held_by past (omega arith) there))

  end_is : (e : ℕ) → Sought k (n + 1) e → e ≡ i.first + i.length
  end_is e s =
      let S = item_sound k n K N in
      let past = i.first + i.length in
      let at_last : entry k (past - 1) ≡ n = numbered (past - 1) (omega arith) (omega arith) in
      let not_within : e < past → ⊥ = λ h. omega (arith, s.after (past - 1) (omega arith) (omega arith)) in
      omega (arith, not_past e s)

  form_is : form_at k i.first ≡ i.form
  form_is =
      let S = item_sound k n K N in
      let at_first : entry k i.first ≡ n = numbered i.first (omega arith) (omega arith) in
      rw at_first at (form_at_lem k i.first K (omega arith))

same_item : (i : Item) (f : Form) (a l : ℕ) → f ≡ i.form → a ≡ i.first → l ≡ i.length → ◌≡◌ {A = Item} (record { form = f; first = a; length = l }) i
same_item i f a l p q r = rw (p, q, r)

-- a place with the number n or more was found: there is such an item, and it is what the two searches and the form tell
module _ (k n a : ℕ) (K : k < 4) (s : Sought k n a) (A : a < 128) where
  pub is_item : n < count_of_items k
  is_item = omega (arith, s.after a (omega arith) A, (lies k a K A).0)

  module _ (e : ℕ) (t : Sought k (n + 1) e) where
    pub in_order : a ≤ e
    in_order = omega (arith, first-is k n K is_item a s, end_is k n K is_item e t)

    pub item_is : (f : Form) → f ≡ form_at k a → ◌≡◌ {A = Item} (record { form = f; first = a; length = e - a }) (item_of k n)
    item_is f p =
        let first = first-is k n K is_item a s in
        same_item (item_of k n) f a (e - a) (p ∙ ap (form_at k) first ∙ form_is k n K is_item) first (omega (arith, end_is k n K is_item e t))

pub last_number_lem : (k : ℕ) → k < 4 → entry k 127 + 1 ≡ count_of_items k
last_number_lem k K =
    let some : entry k 127 < count_of_items k = (lies k 127 K (omega arith)).0 in
    let m = count_of_items k - 1 in
    let S = item_sound k m K (omega arith) in
    let at_last : entry k (item_of k m).first ≡ m = numbered k m K (omega arith) (item_of k m).first (omega arith) (omega arith) in
    omega (arith, up k (item_of k m).first 127 K (omega arith) (omega arith))
