-- The bytes of frames that are held, and of a whole cycle. Assumes nothing.
use mathlib.Core.Path.{◌≡◌, sym, ap, ◌∙◌}
use mathlib.Core.Bool.{true}
use mathlib.Core.List.{List, [], ◌∷◌, ◌++◌, append_assoc, append-nil}
use Prim.Native.Nat.{ℕ, suc, ◌+◌, ◌*◌, ◌<◌}
use native.Mathlib.Omega.{arith}
use lib.ListN.{length, take, drop, length-append, drop_of_length-le}
use lib.Seq.{take_at, drop_at, length-take-le}
use Rattle.base.specs.Format.{major_frame}
use Rattle.base.specs.Rows.{row}
use Rattle.base.proofs.Lists.{concat_map-append}
use Rattle.base.proofs.Rows.{row-after}
use Rattle.cycle.specs.Cycle.{is_major, is_frame, is_cycle}
use Rattle.frame_store.specs.Slots.{start, with_frame}
use Rattle.cycle_frames.specs.Cycles.{joined_frames}
use Rattle.cycle_frames.proofs.Frames.{frame-length, frame-major}

-- ---- a frame stored behind n others
module _ (n : ℕ) (f area : List ℕ) (few : n < 4) (size : length area ≡ 65536) (long : length f ≡ 16384) where
  abbrev front : List ℕ
  front = take (start n) area

  abbrev beyond : List ℕ
  beyond = drop (start n + major_frame) area

  front_length : length front ≡ start n
  front_length = length-take-le (start n) area (omega arith)

  pub stored-behind : take (start (suc n)) (with_frame n f area) ≡ front ++ f
  unfolding with_frame
  stored-behind =
      ap (take (start (suc n))) (sym (append_assoc front f beyond))
      ∙ take_at (front ++ f) beyond (start (suc n)) (length-append front f ∙ omega (arith, front_length))

  pub stored_last : n ≡ 3 → with_frame n f area ≡ front ++ f
  unfolding with_frame
  stored_last e =
      ap (λ (l : List ℕ). front ++ (f ++ l)) (drop_of_length-le area {i = start n + major_frame} (omega arith)) ∙ ap (λ (l : List ℕ). front ++ l) (append-nil f)

pub joined-more : (p : List (List ℕ)) (f : List ℕ) → joined_frames (p ++ (f ∷ [])) ≡ joined_frames p ++ f
joined-more p f = concat_map-append (λ l. l) p (f ∷ []) ∙ ap (λ (l : List ℕ). joined_frames p ++ l) (append-nil f)

-- ---- four frames of the kinds 0 to 3 are a cycle

first-row : (f l : List ℕ) → length f ≡ 16384 → row 16384 (f ++ l) 0 ≡ f
unfolding row
first-row f l e = take_at f l 16384 e

as_row : (l : List ℕ) (k n : ℕ) → n ≡ 16384 * k → take 16384 (drop n l) ≡ row 16384 l k
unfolding row
as_row l k n e = ap (λ (m : ℕ). take 16384 (drop m l)) e

next_row : (f l : List ℕ) (k : ℕ) → length f ≡ 16384 → row 16384 (f ++ l) (suc k) ≡ row 16384 l k
next_row f l k e =
    sym (row-after 16384 16384 (f ++ l) k ∙ as_row (f ++ l) (suc k) (16384 + 16384 * k) (omega arith)) ∙ ap (λ (m : List ℕ). row 16384 m k) (drop_at f l 16384 e)

module _ (y : ℕ) (a b c d : List ℕ) (ka : is_frame y 0 a ≡ true) (kb : is_frame y 1 b ≡ true) (kc : is_frame y 2 c ≡ true) (kd : is_frame y 3 d ≡ true) where
  abbrev body : List ℕ
  body = joined_frames (a ∷ (b ∷ (c ∷ (d ∷ []))))

  la : length a ≡ 16384
  la = frame-length y 0 a ka

  lb : length b ≡ 16384
  lb = frame-length y 1 b kb

  lc : length c ≡ 16384
  lc = frame-length y 2 c kc

  ld : length d ≡ 16384
  ld = frame-length y 3 d kd

  size : length body ≡ 65536
  size =
      let da = length-append a (b ++ (c ++ (d ++ []))) in
      let db = length-append b (c ++ (d ++ [])) in
      let dc = length-append c (d ++ []) in
      let dd = length-append d [] in
      omega (arith, la, lb, lc, ld)

  row-0 : row 16384 body 0 ≡ a
  row-0 = first-row a _ la

  row-1 : row 16384 body 1 ≡ b
  row-1 = next_row a _ 0 la ∙ first-row b _ lb

  row-2 : row 16384 body 2 ≡ c
  row-2 = next_row a _ 1 la ∙ next_row b _ 0 lb ∙ first-row c _ lc

  row-3 : row 16384 body 3 ≡ d
  row-3 = next_row a _ 2 la ∙ next_row b _ 1 lb ∙ next_row c _ 0 lc ∙ first-row d _ ld

  major : (k : ℕ) (f : List ℕ) → row 16384 body k ≡ f → is_frame y k f ≡ true → is_major y k (row 16384 body k) ≡ true
  major k f e h = ap (is_major y k) e ∙ frame-major y k f h

  pub four-are_a_cycle : is_cycle y body ≡ true
  unfolding is_cycle
  four-are_a_cycle = rw (size, major 0 a row-0 ka, major 1 b row-1 kb, major 2 c row-2 kc, major 3 d row-3 kd)
