-- Rows of one width, joined: how long they are, where each stands, that a list with these rows is that, and that a list is its rows. Over
-- the width. Assumes nothing.
use mathlib.Core.Path.{◌≡◌, refl, sym, ap, ◌∙◌}
use mathlib.Core.List.{List, [], ◌∷◌, ◌++◌}
use Prim.Native.Nat.{ℕ, zero, suc, ◌+◌, ◌*◌, ◌-◌, ◌/◌, ◌≤◌, ◌<◌}
use native.Mathlib.Nat.{mul-div_cancel_left}
use native.Mathlib.Omega.{arith}
use lib.ListN.{length, get_or, take, drop, length-append, length-drop, take-append-drop}
use lib.Seq.{take_at, drop_at, drop-drop, length-take-le}
use Rattle.base.specs.Ranges.{joined}
use Rattle.base.specs.Rows.{row, rows}
use Rattle.base.proofs.Ranges.{tabulate-length, tabulate-at}

-- a part by its start and its length, as the code takes it
pub part-is : (start width : ℕ) (l : List ℕ) → take (start + width - start) (drop start l) ≡ take width (drop start l)
part-is start width l = let e : start + width - start ≡ width = omega arith in ap (λ (m : ℕ). take m (drop start l)) e

pub row_is : (w : ℕ) (l : List ℕ) (k : ℕ) → take (w * k + w - w * k) (drop (w * k) l) ≡ row w l k
unfolding row
row_is w l k = part-is (w * k) w l

-- row k of what follows the first s elements
pub row-after : (w s : ℕ) (l : List ℕ) (k : ℕ) → row w (drop s l) k ≡ take w (drop (s + w * k) l)
unfolding row
row-after w s l k = ap (λ (r : List ℕ). take w r) (drop-drop (w * k) s l)

pub row-length : (w : ℕ) (l : List ℕ) (k : ℕ) → w * k + w ≤ length l → length (row w l k) ≡ w
unfolding row
row-length w l k h = length-take-le w (drop (w * k) l) (omega (arith, length-drop (w * k) l))

-- ---- rows joined
module _ (w : ℕ) (f : ℕ → List ℕ) where
  -- the n lists from f i on have this width
  abbrev pub Wide : ℕ → ℕ → Type 0
  Wide i n = (k : ℕ) → i ≤ k → k < i + n → length (f k) ≡ w

  pub joined_length : (i n : ℕ) → Wide i n → length (joined f i n) ≡ w * n
  joined_length i zero h = omega arith
  joined_length i (suc n) h =
      let a = h i (omega arith) (omega arith) in
      let r = joined_length (suc i) n (λ k a b. h k (omega arith) (omega arith)) in
      omega (arith, length-append (f i) (joined f (suc i) n))

  pub joined-row : (i n k : ℕ) → Wide i n → k < n → row w (joined f i n) k ≡ f (i + k)
  unfolding row
  joined-row i zero k h l = absurd (omega arith)
  joined-row i (suc n) zero h l =
      let z : w * 0 ≡ 0 = omega arith in
      let y : i + 0 ≡ i = omega arith in
      rw (z, y) (take_at (f i) (joined f (suc i) n) w (h i (omega arith) (omega arith)))
  joined-row i (suc n) (suc k) h l =
      let z : w * suc k ≡ w + w * k = omega arith in
      let y : suc i + k ≡ i + suc k = omega arith in
      let rest = joined f (suc i) n in
      let d : drop (w * suc k) (f i ++ rest) ≡ drop (w * k) rest =
      ap (λ (m : ℕ). drop m (f i ++ rest)) z
      ∙ sym (drop-drop (w * k) w (f i ++ rest))
      ∙ ap (λ (r : List ℕ). drop (w * k) r) (drop_at (f i) rest w (h i (omega arith) (omega arith))) in
      ap (λ (r : List ℕ). take w r) d ∙ joined-row (suc i) n k (λ m a b. h m (omega arith) (omega arith)) (omega arith) ∙ ap f y

  -- a list of n rows, each of which is f's, is f's joined
  pub of_rows : (i n : ℕ) (l : List ℕ) → length l ≡ w * n → ((k : ℕ) → k < n → row w l k ≡ f (i + k)) → l ≡ joined f i n
  unfolding row
  of_rows i zero [] e h = refl
  of_rows i zero (x ∷ l) e h = absurd (omega arith)
  of_rows i (suc n) l e h =
      let z : w * 0 ≡ 0 = omega arith in
      let y : i + 0 ≡ i = omega arith in
      let first : take w l ≡ f i = ap (λ (m : ℕ). take w (drop m l)) (sym z) ∙ h 0 (omega arith) ∙ ap f y in
      let next : (k : ℕ) → k < n → row w (drop w l) k ≡ f (suc i + k) =
      λ k b.
      let s : w + w * k ≡ w * suc k = omega arith in
      let t : i + suc k ≡ suc i + k = omega arith in
      ap (λ (r : List ℕ). take w r) (drop-drop (w * k) w l ∙ ap (λ (m : ℕ). drop m l) s) ∙ h (suc k) (omega arith) ∙ ap f t in
      let rest : drop w l ≡ joined f (suc i) n = of_rows (suc i) n (drop w l) (omega (arith, length-drop w l)) next in
      sym (take-append-drop w l) ∙ rw (first, rest)

-- ---- a list as its rows
module _ (w : ℕ) (l : List ℕ) (n : ℕ) (positive : 0 < w) (whole : length l ≡ w * n) where
  many : length l / w ≡ n
  many = ap (λ (m : ℕ). m / w) whole ∙ mul-div_cancel_left n positive

  pub rows-length : length (rows w l) ≡ n
  unfolding rows
  rows-length = tabulate-length (row w l) 0 (length l / w) ∙ many

  pub rows_at : (k : ℕ) → k < n → get_or (rows w l) k [] ≡ row w l k
  unfolding rows
  rows_at k h =
      let m = many in
      let z : 0 + k ≡ k = omega arith in
      tabulate-at (row w l) 0 (length l / w) k [] (omega arith) ∙ ap (row w l) z

  pub rows-joined : l ≡ joined (λ k. get_or (rows w l) k []) 0 n
  rows-joined =
      of_rows w (λ k. get_or (rows w l) k []) 0 n l whole
      (λ k h. let z : k ≡ 0 + k = omega arith in sym (rows_at k h) ∙ ap (λ (m : ℕ). get_or (rows w l) m []) z)
