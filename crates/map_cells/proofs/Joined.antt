-- A cell of twice the length has the higher class of the two cells that it joins: so a map whose cells are joined in pairs is the map that cells of twice
-- the length give. Assumes nothing.
use mathlib.Core.Path.{◌≡◌, refl, sym, ap, ◌∙◌}
use mathlib.Core.Bool.{Bool, true, false}
use mathlib.Core.List.{List, [], ◌∷◌, ◌++◌}
use Prim.Native.Nat.{ℕ, ◌+◌, ◌*◌}
use native.Mathlib.Omega.{arith}
use lib.Dec.{leb}
use lib.ListN.{take, drop}
use lib.Seq.{take-add, drop-drop}
use borrow.Author.Tests.{le-leb, lt-leb, leb-true, leb-false}
use Rattle.map_cells.specs.Cells.{higher, highest, cell_of}

higher-nothing : (a : ℕ) → higher 0 a ≡ a
higher-nothing a = simp (le-leb 0 a (omega arith))

higher-assoc : (a b c : ℕ) → higher a (higher b c) ≡ higher (higher a b) c
higher-assoc a b c = go (leb a b) (leb b c) refl refl
  where
    go : (p q : Bool) → leb a b ≡ p → leb b c ≡ q → higher a (higher b c) ≡ higher (higher a b) c
    go true true e f = simp (e, f, le-leb a c (omega (arith, leb-true a b e, leb-true b c f)))
    go true false e f = simp (e, f)
    go false true e f = simp (e, f)
    go false false e f = simp (e, f, lt-leb a c (omega (arith, leb-false a b e, leb-false b c f)))

highest-append : (xs ys : List ℕ) → highest (xs ++ ys) ≡ higher (highest xs) (highest ys)
highest-append [] ys = sym (higher-nothing (highest ys))
highest-append (x ∷ xs) ys = ap (λ (h : ℕ). higher x h) (highest-append xs ys) ∙ higher-assoc x (highest xs) (highest ys)

pub cell-twice : (n k : ℕ) (classes : List ℕ) → cell_of (2 * n) classes k ≡ higher (cell_of n classes (2 * k)) (cell_of n classes (2 * k + 1))
cell-twice n k classes =
    let two : 2 * n ≡ n + n = omega arith in
    let first : k * (2 * n) ≡ 2 * k * n = omega arith in
    let second : 2 * k * n + n ≡ (2 * k + 1) * n = omega arith in
    let begun = drop (2 * k * n) classes in
    ap (λ (s : ℕ). highest (take (2 * n) (drop s classes))) first
    ∙ ap (λ (s : ℕ). highest (take s begun)) two
    ∙ ap highest (take-add n n begun)
    ∙ highest-append (take n begun) (take n (drop n begun))
    ∙ ap (λ (l : List ℕ). higher (highest (take n begun)) (highest (take n l))) (drop-drop n (2 * k * n) classes)
    ∙ ap (λ (s : ℕ). higher (highest (take n begun)) (highest (take n (drop s classes)))) second
