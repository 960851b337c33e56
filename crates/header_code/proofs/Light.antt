-- What is located has at most two symbols that are not 0. Assumes nothing.
use mathlib.Core.Path.{sym, subst}
use mathlib.Core.Bool.{Bool, true, false, cond}
use mathlib.Core.List.{List}
use Prim.Native.Nat.{ℕ, ◌*◌, ◌/◌, ◌%◌, ◌^◌, ◌≤◌, ◌<◌}
use native.Mathlib.Omega.{arith}
use native.Mathlib.Nat.{mod-lt}
use lib.Dec.{eqb, leb, leb→le, lit<}
use lib.ListN.{get_or}
use Rattle.header_code.specs.Field.{◌⊕◌}
use Rattle.header_code.specs.Code.{weight}
use Rattle.header_code.specs.Symbols.{symbols_of}
use Rattle.header_code.specs.Decoder.{cell, products, quotients, roots, sixths, places, lifted, one, both, from_root, from_sums, two, by_determinant}
use Rattle.header_code.specs.Decoder.{from_values, located}
use Rattle.header_patterns.proofs.Every.{each, each2}
use Rattle.header_code.proofs.Field.{sum_lt}
use Rattle.header_code.proofs.Words.{weight-add_le}
use Rattle.header_code.proofs.Symbols.{symbols-word, symbols-sum}

-- an entry of a table is a symbol
pub cell-lt : (rows : List ℕ) (a b : ℕ) → cell rows a b < 16
cell-lt rows a b = mod-lt (get_or rows a 0 / 2 ^ (4 * b)) (lit< tt)

-- at most so many of the ten symbols of a number are not 0
abbrev pub Light : ℕ → ℕ → Type 0
Light n x = weight (symbols_of 10 x) ≤ n

lifted-light : (x f : ℕ) → x < 16 → f < 16 → Light 1 (lifted x f)
unfolding symbols_of lifted products sixths places
lifted-light x f hx hf = leb→le _ _ (each2 16 16 (λ x f. leb (weight (symbols_of 10 (lifted x f))) 1) tt x f hx hf)

both-light : (p f x y : ℕ) → p < 16 → f < 16 → x < 16 → y < 16 → Light 2 (both p f x y)
unfolding both
both-light p f x y hp hf hx hy =
    let u = lifted x f in
    let v = lifted y (p ⊕ f) in
    subst (λ (w : List ℕ). weight w ≤ 2) (sym (symbols-sum 10 u v))
    (omega (arith, weight-add_le (symbols-word 10 u) (symbols-word 10 v), lifted-light x f hx hf, lifted-light y (p ⊕ f) hy (sum_lt p f hp hf)))

two-light : (p q r s d : ℕ) → p < 16 → Light 2 (two p q r s d)
unfolding two from_sums from_root
two-light p q r s d hp =
    let t = cell quotients (cell products p s ⊕ cell products q r) d in
    let u = cell quotients (cell products q s ⊕ cell products r r) d in
    let x = cell roots t u in
    let y = t ⊕ x in
    let ht = cell-lt quotients (cell products p s ⊕ cell products q r) d in
    let hx = cell-lt roots t u in
    both-light p (cell quotients (q ⊕ cell products p y) t) x y hp (cell-lt quotients (q ⊕ cell products p y) t) hx (sum_lt t x ht hx)

one-light : (p q : ℕ) → p < 16 → Light 2 (one p q)
unfolding one
one-light p q hp = let x = cell quotients q p in omega (arith, lifted-light x p (cell-lt quotients q p) hp)

by_determinant-light : (p q r s d : ℕ) → p < 16 → Light 2 (by_determinant p q r s d)
unfolding by_determinant
by_determinant-light p q r s d h = by_case (eqb d 0)
  where
    by_case : (t : Bool) → Light 2 (cond t (one p q) (two p q r s d))
    by_case true = one-light p q h
    by_case false = two-light p q r s d h

pub located-light : (s : ℕ) → s < 65536 → Light 2 (located s)
unfolding located from_values
located-light s h = by_determinant-light (s / 4096) (s / 256 % 16) (s / 16 % 16) (s % 16) _ (omega arith)

-- a lifted symbol fits a number of 64 bits
pub place-fits : (x : ℕ) → x < 16 → get_or places x 0 ≤ 16 ^ 14
unfolding places
place-fits x h = leb→le (get_or places x 0) (16 ^ 14) (each 16 (λ x. leb (get_or places x 0) (16 ^ 14)) tt x h)
