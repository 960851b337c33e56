-- At most one code word lies within two symbols of a word, and it is the one that is located: the values are linear, so the sum of the word
-- and the code word has the word's syndrome, and it has at most two symbols that are not 0. Assumes nothing.
use mathlib.Core.Path.{◌≡◌, refl, sym, ap, ◌∙◌}
use mathlib.Core.Bool.{Bool, true, false, cond}
use mathlib.Core.List.{List, [], ◌∷◌}
use Prim.Native.Nat.{ℕ, zero, suc, ◌+◌, ◌≤◌}
use native.Mathlib.Omega.{arith}
use lib.Bits.{xor_zero_r}
use lib.Dec.{eqb}
use lib.ListN.{take}
use borrow.Author.Tests.{eq-eqb}
use Rattle.header_code.specs.Code.{Word, end, symbol, CodeWord, distance, add}
use Rattle.header_code.specs.Symbols.{symbols_of, number_of}
use Rattle.header_code.specs.Decoder.{located}
use Rattle.header_code.proofs.Words.{add-word, add-undo, weight-add}
use Rattle.header_code.proofs.Symbols.{number-symbols}
use Rattle.header_code.proofs.Syndromes.{syndrome, syndrome-add, code_syndrome}
use Rattle.header_code.proofs.Decoding.{decoded}

-- a code word adds nothing to a syndrome
pub same-syndrome : {w c : List ℕ} → Word 10 w → CodeWord c → syndrome (add w c) ≡ syndrome w
same-syndrome {w} x g = syndrome-add x g.word ∙ rw (code_syndrome g) (xor_zero_r (syndrome w))

-- the sum of a word and the code word within two symbols of it is located
pub difference : {w c : List ℕ} → Word 10 w → CodeWord c → distance w c ≤ 2 → located (syndrome w) ≡ number_of (add w c)
difference {w} {c} x g h = rw (← same-syndrome x g) (decoded (add-word x g.word) (omega (arith, weight-add x g.word)))

pub unique : {w c d : List ℕ} → Word 10 w → CodeWord c → CodeWord d → distance w c ≤ 2 → distance w d ≤ 2 → c ≡ d
unique {w} {c} {d} x g g' h h' =
    let numbers : number_of (add w c) ≡ number_of (add w d) = sym (difference x g h) ∙ difference x g' h' in
    let sums : add w c ≡ add w d =
    sym (number-symbols (add-word x g.word)) ∙ ap (symbols_of 10) numbers ∙ number-symbols (add-word x g'.word) in
    sym (add-undo x g.word) ∙ ap (add w) sums ∙ add-undo x g'.word

-- ---- two code words with the same first six symbols are the same: a word lies within two symbols of both

-- the first n symbols of one word, and the others of another
abbrev mixed : ℕ → List ℕ → List ℕ → List ℕ
mixed zero v w = w
mixed (suc n) [] w = []
mixed (suc n) (c ∷ v) [] = []
mixed (suc n) (c ∷ v) (d ∷ w) = c ∷ mixed n v w

mixed-word : (n : ℕ) {m : ℕ} {v w : List ℕ} → Word m v → Word m w → Word m (mixed n v w)
mixed-word zero x y = y
mixed-word (suc n) end end = end
mixed-word (suc n) (symbol h x) (symbol i y) = symbol h (mixed-word n x y)

at_most_one : (t : Bool) → cond t 0 1 ≤ 1
at_most_one true = omega arith
at_most_one false = omega arith

same_here : (c d : ℕ) → c ≡ d → ◌≡◌ {A = ℕ} (cond (eqb c d) 0 1) 0
same_here c d e = rw (eq-eqb c d e)

-- how far it is from each of them
from_first : (n : ℕ) {m : ℕ} {v w : List ℕ} → Word m v → Word m w → n ≤ m → distance (mixed n v w) v + n ≤ m
from_first zero end end h = omega arith
from_first zero (symbol {c = c} _ x) (symbol {c = d} _ y) h = omega (arith, at_most_one (eqb d c), from_first zero x y (omega arith))
from_first (suc n) end end h = absurd (omega arith)
from_first (suc n) (symbol {c = c} _ x) (symbol _ y) h = omega (arith, same_here c c refl, from_first n x y (omega arith))

from_second : (k n : ℕ) {m : ℕ} {v w : List ℕ} → Word m v → Word m w → k ≤ n → n ≤ m → take k v ≡ take k w → distance (mixed n v w) w + k ≤ n
from_second zero zero end end l h e = omega arith
from_second zero zero (symbol _ x) (symbol {c = d} _ y) l h e = omega (arith, same_here d d refl, from_second zero zero x y l (omega arith) refl)
from_second zero (suc n) end end l h e = absurd (omega arith)
from_second zero (suc n) (symbol {c = c} _ x) (symbol {c = d} _ y) l h e =
    omega (arith, at_most_one (eqb c d), from_second zero n x y (omega arith) (omega arith) refl)
from_second (suc k) zero x y l h e = absurd (omega arith)
from_second (suc k) (suc n) end end l h e = absurd (omega arith)
from_second (suc k) (suc n) (symbol {c = c} {w = v} _ x) (symbol {c = d} {w = w} _ y) l h e =
    let first : c ≡ d = cc in
    let rest : take k v ≡ take k w = cc in
    omega (arith, same_here c d first, from_second k n x y (omega arith) (omega arith) rest)

pub same-six : {c d : List ℕ} → CodeWord c → CodeWord d → take 6 c ≡ take 6 d → c ≡ d
same-six g g' e =
    let x = g.word in
    let y = g'.word in
    unique (mixed-word 8 x y) g g' (omega (arith, from_first 8 x y (omega arith))) (omega (arith, from_second 6 8 x y (omega arith) (omega arith) e))
