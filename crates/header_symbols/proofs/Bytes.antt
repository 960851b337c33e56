-- A header's bytes and the number of its symbols. Assumes nothing.
use mathlib.Core.Path.{◌≡◌, refl, sym, ap, ap₂, ◌∙◌, subst}
use mathlib.Core.List.{List, [], ◌∷◌, ◌++◌}
use Prim.Native.Nat.{ℕ, ◌+◌, ◌*◌, ◌/◌, ◌%◌, ◌^◌, ◌<◌}
use native.Mathlib.Omega.{arith}
use lib.ListN.{length, get_or, set}
use borrow.Author.Tests.{eq-eqb, ne_eqb}
use Rattle.base.specs.Lists.{concat_map}
use Rattle.base.proofs.Lists.{spelled}
use Rattle.header_code.specs.Symbols.{symbols_of}
use Rattle.header_code.proofs.Symbols.{symbols-byte}
use Rattle.header_symbols.specs.Header.{halves, symbols, placed, put_after}

-- ---- from the bytes to the number
pub packed-symbols : (a b c d e : ℕ) → a < 256 → b < 256 → c < 256 → d < 256 → e < 256
    → symbols_of 10 ((((a * 256 + b) * 256 + c) * 256 + d) * 256 + e) ≡ concat_map halves (a ∷ b ∷ c ∷ d ∷ e ∷ [])
unfolding symbols_of
packed-symbols a b c d e ha hb hc hd he =
    symbols-byte 8 (((a * 256 + b) * 256 + c) * 256 + d) e he
    ∙ ap (λ (w : List ℕ). w ++ halves e) (symbols-byte 6 ((a * 256 + b) * 256 + c) d hd
    ∙ ap (λ (w : List ℕ). w ++ halves d) (symbols-byte 4 (a * 256 + b) c hc
    ∙ ap (λ (w : List ℕ). w ++ halves c) (symbols-byte 2 a b hb ∙ ap (λ (w : List ℕ). w ++ halves b) (first a ha))))
  where
    first : (a : ℕ) → a < 256 → symbols_of 2 a ≡ halves a
    first a h = ap₂ ◌∷◌ (omega arith) (ap₂ ◌∷◌ (omega arith) refl)

pub header_symbols_lem : (h : List ℕ) (a b c d e r : ℕ) → ((i : ℕ) → get_or h i 0 < 256)
    → a ≡ get_or h 0 0 → b ≡ get_or h 1 0 → c ≡ get_or h 5 0 → d ≡ get_or h 6 0 → e ≡ get_or h 7 0
    → r ≡ (((a * 256 + b) * 256 + c) * 256 + d) * 256 + e → symbols_of 10 r ≡ symbols h
header_symbols_lem h a b c d e r bytes ea eb ec ed ee er =
    ap (symbols_of 10) (rw (er, ea, eb, ec, ed, ee))
    ∙ packed-symbols (get_or h 0 0) (get_or h 1 0) (get_or h 5 0) (get_or h 6 0) (get_or h 7 0) (bytes 0) (bytes 1) (bytes 5) (bytes 6) (bytes 7)

-- ---- from the number to the bytes
put-eight : (x b0 b1 b2 b3 b4 b5 b6 b7 : ℕ)
    → (x / 2 ^ 32 % 256) ∷ (x / 2 ^ 24 % 256) ∷ b2 ∷ b3 ∷ b4 ∷ (x / 2 ^ 16 % 256) ∷ (x / 2 ^ 8 % 256) ∷ (x % 256) ∷ []
    ≡ placed (symbols_of 10 x) (b0 ∷ b1 ∷ b2 ∷ b3 ∷ b4 ∷ b5 ∷ b6 ∷ b7 ∷ [])
unfolding symbols_of
put-eight x b0 b1 b2 b3 b4 b5 b6 b7 =
    ap₂ ◌∷◌ (omega arith)
    (ap₂ ◌∷◌ (omega arith) (ap (λ (w : List ℕ). b2 ∷ b3 ∷ b4 ∷ w) (ap₂ ◌∷◌ (omega arith) (ap₂ ◌∷◌ (omega arith) (ap₂ ◌∷◌ (omega arith) refl)))))

pub put-placed : (x : ℕ) (h : List ℕ) → length h ≡ 8
    → set (set (set (set (set h 0 (x / 2 ^ 32 % 256)) 1 (x / 2 ^ 24 % 256)) 5 (x / 2 ^ 16 % 256)) 6 (x / 2 ^ 8 % 256)) 7 (x % 256)
    ≡ placed (symbols_of 10 x) h
put-placed x h l =
    let at : ℕ → ℕ = λ i. get_or h i 0 in
    subst
    (λ (k : List ℕ). set (set (set (set (set k 0 (x / 2 ^ 32 % 256)) 1 (x / 2 ^ 24 % 256)) 5 (x / 2 ^ 16 % 256)) 6 (x / 2 ^ 8 % 256)) 7 (x % 256)
    ≡ placed (symbols_of 10 x) k)
    (sym (spelled h 8 l)) (put-eight x (at 0) (at 1) (at 2) (at 3) (at 4) (at 5) (at 6) (at 7))

-- ---- eight bytes, and others
module _ (w h : List ℕ) where
  pub put-header : length h ≡ 8 → placed w h ≡ put_after w h
  put-header e = rw (eq-eqb (length h) 8 e)

  pub put_other : (length h ≡ 8 → ⊥) → h ≡ put_after w h
  put_other e = rw (ne_eqb (length h) 8 e)
