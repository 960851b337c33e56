-- The table of syndromes: what is added up of it for a word's symbols are the word's values at the four roots. Assumes nothing.
use mathlib.Core.Path.{◌≡◌, refl, sym, subst}
use mathlib.Core.List.{List}
use Prim.Native.Nat.{ℕ, zero, suc, ◌+◌, ◌-◌, ◌*◌, ◌≤◌, ◌<◌}
use native.Mathlib.Omega.{arith}
use lib.ListN.{get_or}
use Rattle.header_code.specs.Field.{◌⊕◌, times_x, times, power}
use Rattle.header_code.specs.Code.{Word, end, symbol, value, CodeWord, add}
use Rattle.header_code.specs.Symbols.{combined, packed}
use Rattle.header_code.specs.Decoder.{syndromes}
use Rattle.header_patterns.proofs.Every.{same2}
use Rattle.header_code.proofs.Field.{times-lt}
use Rattle.header_code.proofs.Words.{length-word, value-lt, value-add}
use Rattle.header_code.proofs.Symbols.{packed-sum}

abbrev pub syndrome : List ℕ → ℕ
syndrome w = packed (value 6 w) (value 7 w) (value 8 w) (value 9 w)

-- the values of one symbol c with n symbols after it
abbrev column : ℕ → ℕ → ℕ
column n c = packed (times c (power (6 * n))) (times c (power (7 * n))) (times c (power (8 * n))) (times c (power (9 * n)))

table-rule : (n c : ℕ) → n < 10 → c < 16 → get_or syndromes (n * 16 + c) 0 ≡ column n c
unfolding syndromes times_x times
table-rule = same2 10 16 (λ n c. get_or syndromes (n * 16 + c) 0) column tt

pub is_syndrome : {n : ℕ} {w : List ℕ} → Word n w → n ≤ 10 → combined syndromes w ≡ syndrome w
is_syndrome end h = refl
is_syndrome (symbol {n = n} {c = c} {w = w} hc r) h =
    rw (length-word r, table-rule n c (omega arith) hc, is_syndrome r (omega arith))
    (packed-sum (times c (power (6 * n))) (times c (power (7 * n))) (times c (power (8 * n))) (times c (power (9 * n)))
    (value 6 w) (value 7 w) (value 8 w) (value 9 w) (times-lt c (power (7 * n)) hc) (times-lt c (power (8 * n)) hc)
    (times-lt c (power (9 * n)) hc) (value-lt 7 r) (value-lt 8 r) (value-lt 9 r))

pub syndrome-add : {n : ℕ} {v w : List ℕ} → Word n v → Word n w → syndrome (add v w) ≡ syndrome v ⊕ syndrome w
syndrome-add {v = v} {w = w} x y =
    rw (value-add 6 x y, value-add 7 x y, value-add 8 x y, value-add 9 x y)
    (sym (packed-sum (value 6 v) (value 7 v) (value 8 v) (value 9 v) (value 6 w) (value 7 w) (value 8 w) (value 9 w)
    (value-lt 7 x) (value-lt 8 x) (value-lt 9 x) (value-lt 7 y) (value-lt 8 y) (value-lt 9 y)))

-- a code word is one whose syndrome is 0
pub code_syndrome : {w : List ℕ} → CodeWord w → syndrome w ≡ 0
code_syndrome g =
    omega (
      arith,
      g.vanishes 6 (omega arith) (omega arith),
      g.vanishes 7 (omega arith) (omega arith),
      g.vanishes 8 (omega arith) (omega arith),
      g.vanishes 9 (omega arith) (omega arith),
    )

pub syndrome-code : {w : List ℕ} → Word 10 w → syndrome w ≡ 0 → CodeWord w
syndrome-code {w} x e =
    record {
      word = x;
      vanishes = λ k l h. let same : 6 + (k - 6) ≡ k = omega arith in subst (λ (m : ℕ). value m w ≡ 0) same (at (k - 6) (omega arith));
    }
  where
    at : (j : ℕ) → j ≤ 3 → value (6 + j) w ≡ 0
    at zero h = omega arith
    at (suc zero) h = omega arith
    at (suc (suc zero)) h = omega arith
    at (suc (suc (suc zero))) h = omega arith
    at (suc (suc (suc (suc j)))) h = absurd (omega arith)
