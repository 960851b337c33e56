-- A header's bytes and its symbols. Assumes nothing.
use mathlib.Core.Path.{◌≡◌, refl, sym, ap, ap₂, ◌∙◌}
use mathlib.Core.List.{List, [], ◌∷◌, ◌++◌}
use Prim.Native.Nat.{ℕ, suc, ◌+◌, ◌*◌, ◌/◌, ◌%◌, ◌^◌, ◌<◌}
use native.Mathlib.Omega.{arith}
use lib.ListN.{length, get_or, set, take}
use Rattle.base.proofs.Lists.{spelled}
use Rattle.header_code.specs.Code.{Word, end, symbol}
use Rattle.header_code.specs.Symbols.{symbols_of}
use Rattle.vcdu_header.specs.Header.{halves, symbols, placed}

-- the symbols of bytes are symbols
pub symbols-word : (h : List ℕ) → ((i : ℕ) → get_or h i 0 < 256) → Word 10 (symbols h)
symbols-word h B = two 0 (two 1 (two 5 (two 6 (two 7 end))))
  where
    two : (i : ℕ) {n : ℕ} {w : List ℕ} → Word n w → Word (suc (suc n)) (halves (get_or h i 0) ++ w)
    two i r =
        let high : get_or h i 0 / 16 < 16 = omega (arith, B i) in
        let low : get_or h i 0 % 16 < 16 = omega arith in
        symbol high (symbol low r)

-- the symbols of a header are those placed in it
pub symbols-placed : {w : List ℕ} (h : List ℕ) → Word 10 w → symbols (placed w h) ≡ w
symbols-placed h (symbol _ (symbol b (symbol _ (symbol d (symbol _ (symbol f (symbol _ (symbol i (symbol _ (symbol k end)))))))))) =
    pair b (pair d (pair f (pair i (pair k refl))))
  where
    pair : {a b : ℕ} {v w : List ℕ} → b < 16 → v ≡ w → halves (a * 16 + b) ++ v ≡ a ∷ b ∷ w
    pair {a} {b} h e =
        let high : (a * 16 + b) / 16 ≡ a = omega arith in
        let low : (a * 16 + b) % 16 ≡ b = omega arith in
        ap₂ ◌∷◌ high (ap₂ ◌∷◌ low e)

-- a header with its own symbols, and with other check symbols z, is what it was but for the last two bytes
module _ (h : List ℕ) (l : length h ≡ 8) where
  whole-byte : (b : ℕ) → b / 16 * 16 + b % 16 ≡ b
  whole-byte b = omega arith

  pub placed-self : placed (symbols h) h ≡ h
  placed-self = eight ∙ sym (spelled h 8 l)
    where
      at : ℕ → ℕ
      at i = get_or h i 0

      eight : placed (symbols h) h ≡ at 0 ∷ at 1 ∷ at 2 ∷ at 3 ∷ at 4 ∷ at 5 ∷ at 6 ∷ at 7 ∷ []
      eight =
          ap₂ ◌∷◌ (whole-byte (at 0)) (ap₂ ◌∷◌ (whole-byte (at 1)) (ap (λ (w : List ℕ). at 2 ∷ at 3 ∷ at 4 ∷ w)
          (ap₂ ◌∷◌ (whole-byte (at 5)) (ap₂ ◌∷◌ (whole-byte (at 6)) (ap₂ ◌∷◌ (whole-byte (at 7)) refl)))))

  pub checks-placed : (z : ℕ) → z < 65536 → set (set h 6 (z / 256)) 7 (z % 256) ≡ placed (take 6 (symbols h) ++ symbols_of 4 z) h
  unfolding symbols_of
  checks-placed z small = ap (λ (k : List ℕ). set (set k 6 (z / 256)) 7 (z % 256)) (spelled h 8 l) ∙ sym eight
    where
      at : ℕ → ℕ
      at i = get_or h i 0

      upper : z / 16 ^ 3 % 16 * 16 + z / 16 ^ 2 % 16 ≡ z / 256
      upper = omega arith

      lower : z / 16 ^ 1 % 16 * 16 + z / 16 ^ 0 % 16 ≡ z % 256
      lower = omega arith

      eight : placed (take 6 (symbols h) ++ symbols_of 4 z) h ≡ at 0 ∷ at 1 ∷ at 2 ∷ at 3 ∷ at 4 ∷ at 5 ∷ z / 256 ∷ z % 256 ∷ []
      eight =
          ap₂ ◌∷◌ (whole-byte (at 0)) (ap₂ ◌∷◌ (whole-byte (at 1)) (ap (λ (w : List ℕ). at 2 ∷ at 3 ∷ at 4 ∷ w)
          (ap₂ ◌∷◌ (whole-byte (at 5)) (ap₂ ◌∷◌ upper (ap₂ ◌∷◌ lower refl)))))
