-- Words and their sums: the values are linear, and the distance of two words is the weight of their sum. Assumes nothing.
use mathlib.Core.Path.{◌≡◌, refl, ap, ap₂}
use mathlib.Core.Bool.{Bool, true, false, cond}
use mathlib.Core.List.{List, [], ◌∷◌}
use Prim.Native.Nat.{ℕ, zero, suc, ◌+◌, ◌*◌, ◌≤◌, ◌<◌}
use native.Mathlib.Omega.{arith}
use lib.Dec.{eqb, eqb-suc-zero}
use lib.ListN.{length}
use borrow.Author.Tests.{eq-eqb}
use Rattle.header_code.specs.Field.{◌⊕◌, times, power}
use Rattle.header_code.specs.Code.{Word, end, symbol, value, distance, add, weight}
use Rattle.header_patterns.proofs.Every.{same2}
use Rattle.header_code.proofs.Sums.{swap, undo}
use Rattle.header_code.proofs.Field.{sum_lt, times-lt, times-sum}

pub length-word : {n : ℕ} {w : List ℕ} → Word n w → length w ≡ n
length-word end = refl
length-word (symbol h r) = ap suc (length-word r)

pub add-word : {n : ℕ} {v w : List ℕ} → Word n v → Word n w → Word n (add v w)
add-word end end = end
add-word (symbol {c = c} h r) (symbol {c = d} i s) = symbol (sum_lt c d h i) (add-word r s)

pub add-undo : {n : ℕ} {v w : List ℕ} → Word n v → Word n w → add v (add v w) ≡ w
add-undo end end = refl
add-undo (symbol {c = c} h r) (symbol {c = d} i s) = ap₂ ◌∷◌ (undo c d) (add-undo r s)

pub value-lt : (k : ℕ) {n : ℕ} {w : List ℕ} → Word n w → value k w < 16
value-lt k end = omega arith
value-lt k (symbol {c = c} {w = w} h r) = sum_lt (times c (power (k * length w))) (value k w) (times-lt c (power (k * length w)) h) (value-lt k r)

pub value-add : (k : ℕ) {n : ℕ} {v w : List ℕ} → Word n v → Word n w → value k (add v w) ≡ value k v ⊕ value k w
value-add k end end = refl
value-add k (symbol {n = n} {c = c} {w = v} h r) (symbol {c = d} {w = w} i s) =
    rw (length-word (add-word r s), length-word r, length-word s, times-sum c d (power (k * n)) h i, value-add k r s)
    (swap (times c (power (k * n))) (times d (power (k * n))) (value k v) (value k w))

pub weight-add : {n : ℕ} {v w : List ℕ} → Word n v → Word n w → weight (add v w) ≡ distance v w
weight-add end end = refl
weight-add (symbol {c = c} h r) (symbol {c = d} i s) =
    ap₂ ◌+◌ (same2 16 16 (λ c d. cond (eqb (c ⊕ d) 0) 0 1) (λ c d. cond (eqb c d) 0 1) tt c d h i) (weight-add r s)

-- a symbol of the sum is 0 where both are
symbol_weight : (c d : ℕ) → cond (eqb (c ⊕ d) 0) 0 1 ≤ cond (eqb c 0) 0 1 + cond (eqb d 0) 0 1
symbol_weight zero d = omega arith
symbol_weight (suc c) d = rw (eqb-suc-zero c) (go (eqb (suc c ⊕ d) 0) (eqb d 0))
  where
    go : (s t : Bool) → cond s 0 1 ≤ 1 + cond t 0 1
    go true t = omega arith
    go false t = omega arith

pub weight-add_le : {n : ℕ} {v w : List ℕ} → Word n v → Word n w → weight (add v w) ≤ weight v + weight w
weight-add_le end end = omega arith
weight-add_le (symbol {c = c} h r) (symbol {c = d} i s) = omega (arith, symbol_weight c d, weight-add_le r s)

pub distance_self : (w : List ℕ) → distance w w ≡ 0
distance_self [] = refl
distance_self (c ∷ w) = rw (eq-eqb c c refl) (omega (arith, distance_self w))
