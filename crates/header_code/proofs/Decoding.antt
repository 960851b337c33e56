-- What the computed test says of words: a word of at most two symbols that are not 0 is found from its syndrome. Assumes nothing.
use mathlib.Core.Path.{◌≡◌, refl, ap, ◌∙◌}
use mathlib.Core.Bool.{Bool, cond}
use mathlib.Core.List.{List, [], ◌∷◌}
use Prim.Native.Nat.{ℕ, zero, suc, ◌+◌, ◌*◌, ◌^◌, ◌≤◌, ◌<◌}
use native.Mathlib.Omega.{arith}
use native.Mathlib.Nat.{pow-succ', add-mul, mul_assoc, add_assoc}
use lib.Bits.{xor_comm, xor_zero_r}
use lib.Dec.{T, eqb, eqb→eq, eqb-suc-zero}
use lib.Ieee.Fits.{and_l, and_r}
use lib.ListN.{length, get_or}
use Rattle.header_code.specs.Field.{◌⊕◌}
use Rattle.header_code.specs.Code.{Word, end, symbol, weight}
use Rattle.header_code.specs.Symbols.{number_of, combined}
use Rattle.header_code.specs.Decoder.{syndromes, located}
use Rattle.header_patterns.proofs.Every.{all, each}
use Rattle.header_patterns.proofs.Patterns.{found, all_found}
use Rattle.header_code.proofs.Sums.{assoc}
use Rattle.header_code.proofs.Words.{length-word}
use Rattle.header_code.proofs.Syndromes.{syndrome, is_syndrome}

-- a symbol that is 0 adds nothing to the syndrome
right_entry : (n : ℕ) → n < 10 → get_or syndromes (n * 16 + 0) 0 ≡ 0
unfolding syndromes
right_entry n h = eqb→eq (get_or syndromes (n * 16 + 0) 0) 0 (each 10 (λ n. eqb (get_or syndromes (n * 16 + 0) 0) 0) tt n h)

right_symbol : {n : ℕ} {w : List ℕ} → Word n w → n < 10 → combined syndromes (0 ∷ w) ≡ combined syndromes w
right_symbol {n = n} r h = rw (length-word r, right_entry n h)

one_more : (c m k : ℕ) → cond (eqb (suc c) 0) 0 1 + m ≤ k → suc m ≤ k
one_more c m k h = let one = rw (eqb-suc-zero c) at h in omega arith

-- one digit more in front
shifted : (a c m n : ℕ) → (a * 16 + c) * m + n ≡ a * (16 * m) + (c * m + n)
shifted a c m n = rw (add-mul (a * 16) c m, mul_assoc a 16 m, add_assoc)

-- one entry more in front
moved : (g c s : ℕ) → g ⊕ c ⊕ s ≡ c ⊕ (g ⊕ s)
moved g c s = ap (λ (x : ℕ). x ⊕ s) (xor_comm g c) ∙ assoc c g s

record Nothing (w : List ℕ) : Type 0 where
  no_sum : combined syndromes w ≡ 0
  no_number : number_of w ≡ 0

nothing : {n : ℕ} {w : List ℕ} → Word n w → n ≤ 10 → weight w ≤ 0 → Nothing w
nothing end hn hw = record { no_sum = refl; no_number = refl }
nothing (symbol {c = zero} hc r) hn hw =
    let rest = nothing r (omega arith) (omega arith) in
    record { no_sum = right_symbol r (omega arith) ∙ rest.no_sum; no_number = omega (arith, rest.no_number) }
nothing (symbol {c = suc c} {w = w} hc r) hn hw = absurd (omega (arith, one_more c (weight w) 0 hw))

-- what the test says where one more symbol is right, and where it is wrong by c + 1
module _ (k n sofar s : ℕ) where
  abbrev wrong : ℕ → Bool
  wrong c = found k n (sofar * 16 + suc c) (get_or syndromes (n * 16 + suc c) 0 ⊕ s)

  if_right : T (found (suc k) (suc n) sofar s) → T (found (suc k) n (sofar * 16) s)
  unfolding found
  if_right t = and_l (found (suc k) n (sofar * 16) s) (all 15 wrong) t

  if_wrong : T (found (suc k) (suc n) sofar s) → (c : ℕ) → c < 15 → T (wrong c)
  unfolding found
  if_wrong t c h = each 15 wrong (and_r (found (suc k) n (sofar * 16) s) (all 15 wrong) t) c h

-- the number that is located, where the symbols so far and their sum are given
abbrev Located : ℕ → ℕ → ℕ → List ℕ → Type 0
Located n sofar s w = located (combined syndromes w ⊕ s) ≡ sofar * 16 ^ n + number_of w

at-end : (sofar s : ℕ) → T (eqb (located s) sofar) → Located 0 sofar s []
at-end sofar s t = eqb→eq (located s) sofar t ∙ omega arith

right_more : {n : ℕ} {w : List ℕ} (sofar s : ℕ) → Word n w → n < 10 → Located n (sofar * 16) s w → Located (suc n) sofar s (0 ∷ w)
right_more {n} {w} sofar s r h e = rw (right_symbol r h, pow-succ' 16 n) (e ∙ number)
  where
    number : sofar * 16 * 16 ^ n + number_of w ≡ sofar * (16 * 16 ^ n) + (0 * 16 ^ length w + number_of w)
    number = rw (mul_assoc sofar 16 (16 ^ n)) (omega arith)

wrong-more : {n : ℕ} {w : List ℕ} (c sofar s : ℕ) → Word n w → Located n (sofar * 16 + c) (get_or syndromes (n * 16 + c) 0 ⊕ s) w
    → Located (suc n) sofar s (c ∷ w)
wrong-more {n} {w} c sofar s r e =
    rw (length-word r, moved (get_or syndromes (n * 16 + c) 0) (combined syndromes w) s, pow-succ' 16 n) (e ∙ shifted sofar c (16 ^ n) (number_of w))

decoded-from : (k : ℕ) {n : ℕ} {w : List ℕ} (sofar s : ℕ) → n ≤ 10 → T (found k n sofar s) → Word n w → weight w ≤ k → Located n sofar s w
unfolding found
decoded-from zero sofar s hn t end hw = at-end sofar s t
decoded-from (suc k) sofar s hn t end hw = at-end sofar s t
decoded-from zero {w = w} sofar s hn t (symbol {n = n} hc r) hw =
    let none = nothing (symbol hc r) hn hw in
    rw (none.no_sum, none.no_number) (eqb→eq (located s) (sofar * 16 ^ suc n) t ∙ omega arith)
decoded-from (suc k) sofar s hn t (symbol {n = n} {c = zero} hc r) hw =
    right_more sofar s r (omega arith) (decoded-from (suc k) (sofar * 16) s (omega arith) (if_right k n sofar s t) r (omega arith))
decoded-from (suc k) sofar s hn t (symbol {n = n} {c = suc c} {w = w} hc r) hw =
    wrong-more (suc c) sofar s r
    (decoded-from k (sofar * 16 + suc c) (get_or syndromes (n * 16 + suc c) 0 ⊕ s) (omega arith) (if_wrong k n sofar s t c (omega arith)) r
    (omega (arith, one_more c (weight w) (suc k) hw)))

pub decoded : {w : List ℕ} → Word 10 w → weight w ≤ 2 → located (syndrome w) ≡ number_of w
decoded {w} x h =
    rw (← is_syndrome x (omega arith), ← xor_zero_r (combined syndromes w)) (decoded-from 2 0 0 (omega arith) all_found x h ∙ omega arith)
