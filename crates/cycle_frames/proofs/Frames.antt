-- What frames that are held mean for the cycles of a list: no frame has two kinds, so a cycle begins nowhere among those that follow a first. Assumes
-- nothing.
use mathlib.Core.Path.{◌≡◌, refl, sym, ◌∙◌}
use mathlib.Core.Bool.{Bool, true, false, ◌&&◌}
use mathlib.Core.List.{List, [], ◌∷◌, ◌++◌}
use Prim.Native.Nat.{ℕ, suc}
use native.Mathlib.Omega.{arith}
use lib.Dec.{eqb}
use lib.ListN.{length}
use borrow.Author.Tests.{eqb-true}
use Rattle.word72_column.specs.Columns.{gathered, column_kind}
use Rattle.std.proofs.Common.{Result, Ok, Err}
use Rattle.base.specs.declared.refusal.Refusal.{Refusal}
use Rattle.cycle.specs.Cycle.{all_numbered, answers_kind, is_kind, is_major, is_frame}
use Rattle.cycle_frames.specs.Cycles.{joined_frames, cycles_in}

pub both : (a b : Bool) → (a && b) ≡ true → (a ≡ true) × (b ≡ true)
both true b e = (refl, e)
both false b e = let z : ◌≡◌ {A = ℕ} 0 1 = cc in absurd (omega arith)

pub frame-length : (y k : ℕ) (f : List ℕ) → is_frame y k f ≡ true → length f ≡ 16384
unfolding is_frame
frame-length y k f e = eqb-true (length f) 16384 (both (eqb (length f) 16384) (is_major y k f) e).0

pub frame-major : (y k : ℕ) (f : List ℕ) → is_frame y k f ≡ true → is_major y k f ≡ true
unfolding is_frame
frame-major y k f e = (both (eqb (length f) 16384) (is_major y k f) e).1

major_kind : (y k : ℕ) (f : List ℕ) → is_major y k f ≡ true → is_kind y k f ≡ true
unfolding is_major
major_kind y k f e = (both (all_numbered f) (is_kind y k f) e).1

answers_one : (j k : ℕ) (r : Result ℕ Refusal) → answers_kind j r ≡ true → answers_kind k r ≡ true → j ≡ k
answers_one j k (Ok i) a b = sym (eqb-true i j a) ∙ eqb-true i k b
answers_one j k (Err n) a b = let z : ◌≡◌ {A = ℕ} 0 1 = cc in absurd (omega arith)

one-kind : (y j k : ℕ) (f : List ℕ) → is_kind y j f ≡ true → is_kind y k f ≡ true → j ≡ k
unfolding is_kind
one-kind y j k f a b = answers_one j k (column_kind y (gathered f)) a b

-- ---- one list of years
module _ (y : ℕ) where
  -- a frame that follows another begins no cycle
  pub later : (k : ℕ) (f : List ℕ) → is_frame y (suc k) f ≡ true → is_frame y 0 f ≡ false
  later k f e = go (is_frame y 0 f) refl
    where
      kind_is : (j : ℕ) → is_frame y j f ≡ true → is_kind y j f ≡ true
      kind_is j h = major_kind y j f (frame-major y j f h)

      go : (b : Bool) → is_frame y 0 f ≡ b → b ≡ false
      go true h = let z = one-kind y (suc k) 0 f (kind_is (suc k) e) (kind_is 0 h) in absurd (omega arith)
      go false h = refl

  -- the frames that are held: so many, of the kinds 0, 1, 2
  pub data Held : List (List ℕ) → ℕ → Type 0 where
    none : Held [] 0
    one : (a : List ℕ) → is_frame y 0 a ≡ true → Held (a ∷ []) 1
    two : (a b : List ℕ) → is_frame y 0 a ≡ true → is_frame y 1 b ≡ true → Held (a ∷ (b ∷ [])) 2
    three : (a b c : List ℕ) → is_frame y 0 a ≡ true → is_frame y 1 b ≡ true → is_frame y 2 c ≡ true → Held (a ∷ (b ∷ (c ∷ []))) 3

  -- a frame that does not follow them
  pub misfit : {p : List (List ℕ)} {n : ℕ} → Held p n → (f : List ℕ) → is_frame y n f ≡ false → (rest : List (List ℕ))
      → cycles_in y (p ++ (f ∷ rest)) ≡ cycles_in y (f ∷ rest)
  misfit none f e rest = refl
  misfit (one a ka) f e rest = rw (ka, e)
  misfit (two a b ka kb) f e rest = rw (ka, kb, e, later 0 b kb)
  misfit (three a b c ka kb kc) f e rest = rw (ka, kb, kc, e, later 0 b kb, later 1 c kc)

  -- a frame that begins no cycle
  pub begins-none : (f : List ℕ) → is_frame y 0 f ≡ false → (rest : List (List ℕ)) → cycles_in y (f ∷ rest) ≡ cycles_in y rest
  begins-none f e rest = rw e

  -- the fourth of a cycle
  pub made-whole : (a b c : List ℕ) → is_frame y 0 a ≡ true → is_frame y 1 b ≡ true → is_frame y 2 c ≡ true → (f : List ℕ) → is_frame y 3 f ≡ true
      → (rest : List (List ℕ))
      → cycles_in y (a ∷ (b ∷ (c ∷ (f ∷ rest)))) ≡ joined_frames (a ∷ (b ∷ (c ∷ (f ∷ [])))) ∷ cycles_in y rest
  made-whole a b c ka kb kc f kf rest = rw (ka, kb, kc, kf, later 0 b kb, later 1 c kc, later 2 f kf)

  -- fewer than four give no cycle
  pub held-gives_none : {p : List (List ℕ)} {n : ℕ} → Held p n → cycles_in y p ≡ []
  held-gives_none none = refl
  held-gives_none (one a ka) = rw ka
  held-gives_none (two a b ka kb) = rw (ka, kb, later 0 b kb)
  held-gives_none (three a b c ka kb kc) = rw (ka, kb, kc, later 0 b kb, later 1 c kc)

  pub none-held : {p : List (List ℕ)} {n : ℕ} → Held p n → n ≡ 0 → p ≡ []
  none-held none e = refl
  none-held (one a ka) e = absurd (omega arith)
  none-held (two a b ka kb) e = absurd (omega arith)
  none-held (three a b c ka kb kc) e = absurd (omega arith)
