-- The items of each kind, the table of 512 entries and its rule (01, "Word 72 and its items"). Definitions only.
use Rattle.std.specs.Prelude.{◌≡◌, Bool, ◌&&◌, List, [], ◌∷◌, ◌++◌, ◌⊎◌, ℕ, suc, ◌+◌, ◌*◌, ◌≤◌, ◌<◌, T, eqb, leb, ltb, length, get_or, replicate}
use Rattle.word72_items.specs.declared.Form.{Form}
use Rattle.word72_items.specs.declared.Form.TheVariants.{Count, TwelveBit, Flags, Number, Time, Fill}
use Rattle.word72_items.specs.declared.Item.{Item}
use Rattle.word72_items.specs.Layout.{◌to◌, ◌is◌, table17, table18, table19, table20}

-- ---- the items

-- the places of a column, and the last of the kinds 0 to 3
abbrev pub places : ℕ
places = 128

abbrev pub last_kind : ℕ
last_kind = 3

-- those of kind k, in order; kinds above 3 have none
unfoldable pub layout : ℕ → List Item
layout k = get_or (table17 ∷ table18 ∷ table19 ∷ table20 ∷ []) k []

abbrev pub count_of_items : ℕ → ℕ
count_of_items k = length (layout k)

-- item n of kind k; any item where it has no such
abbrev pub item_of : ℕ → ℕ → Item
item_of k n = get_or (layout k) n (0 to 0 is Fill)

-- what a form says of an item's length
abbrev pub suits : Form → ℕ → Bool
suits Count n = leb 1 n
suits TwelveBit n = eqb n 2
suits Flags n = eqb n 1
suits Number n = eqb n 6
suits Time n = eqb n 7
suits Fill n = leb 1 n

-- ---- the table of 512 entries: 128 for each kind, the number of the item at each place

-- each item's number, n for the first, as often as the item has places
abbrev pub numbered : ℕ → List Item → List ℕ
numbered n [] = []
numbered n (i ∷ l) = replicate i.length n ++ numbered (suc n) l

unfoldable pub items : List ℕ
items = numbered 0 table17 ++ numbered 0 table18 ++ numbered 0 table19 ++ numbered 0 table20

-- the entry of place p of kind k
abbrev pub entry : ℕ → ℕ → ℕ
entry k p = get_or items (128 * k + p) 0

-- place p lies in the item
abbrev pub holds : ℕ → Item → Bool
holds p i = leb i.first p && ltb p (i.first + i.length)

-- ---- the rule over the whole table
pub record Rule : Type 0 where
  pub covers : length items ≡ 512
  -- each place lies in exactly one item, the one that its entry numbers
  pub lies_in : (k p : ℕ) → k < 4 → p < 128 → (entry k p < count_of_items k) × T (holds p (item_of k (entry k p)))
  pub in_no_other : (k p n : ℕ) → k < 4 → p < 128 → n < count_of_items k → T (holds p (item_of k n)) → n ≡ entry k p
  -- an item's places are neighbours
  pub neighbours : (k p q r : ℕ) → k < 4 → p ≤ q → q ≤ r → r < 128 → entry k p ≡ entry k r → entry k q ≡ entry k p
  -- numbers rise by one, from 0
  pub starts : (k : ℕ) → k < 4 → entry k 0 ≡ 0
  pub rises : (k p : ℕ) → k < 4 → p + 1 < 128 → (entry k (p + 1) ≡ entry k p) ⊎ (entry k (p + 1) ≡ entry k p + 1)
  -- each item has a length that suits its form
  pub sized : (k n : ℕ) → k < 4 → n < count_of_items k → T (suits (item_of k n).form (item_of k n).length)
