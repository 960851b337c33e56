-- The instants of a book's entries, put into a list one by one. Assumes nothing.
use mathlib.Core.Path.{◌≡◌, refl, sym, ap, ◌∙◌}
use mathlib.Core.List.{List, [], ◌∷◌, ◌++◌}
use Prim.Native.Nat.{ℕ, zero, suc, ◌+◌, ◌≤◌, ◌<◌}
use native.Mathlib.Numerals.{add-one}
use native.Mathlib.Omega.{arith}
use lib.ListN.{length, take, set, length-set}
use lib.Seq.{take-suc-set}
use Rattle.base.specs.Ranges.{tabulate}
use Rattle.book.specs.Faults.{view_refusal}
use Rattle.book.specs.Layout.{cycles_said, instant_at}
use Rattle.book.specs.Header.{count_of}
use Rattle.book.proofs.Headers.{count-is, few_cycles}
use Rattle.book.proofs.Holding.{has_size_lem}
use Rattle.command.proofs.TextLaws.{counted}
use Rattle.pcd_find.specs.Answers.{InstantsPromise}

-- one value more at the end
tabulate-end : (f : ℕ → ℕ) (i n : ℕ) → tabulate f i (suc n) ≡ tabulate f i n ++ (f (i + n) ∷ [])
tabulate-end f i zero = let z : i ≡ i + 0 = omega arith in ap (λ (k : ℕ). f k ∷ []) z
tabulate-end f i (suc n) =
    let z : suc i + n ≡ i + suc n = omega arith in
    ap (λ (r : List ℕ). f i ∷ r) (tabulate-end f (suc i) n ∙ ap (λ (k : ℕ). tabulate f (suc i) n ++ (f k ∷ [])) z)

-- an accepted book has as many cycles as it says, 255 at most
module _ (b : List ℕ) (accepted : view_refusal b ≡ 0) (r : ℕ) (e : r ≡ count_of b) where
  pub cycles_are : r ≡ cycles_said b
  cycles_are = count-is b (has_size_lem b accepted) r e

  pub few : r ≤ 255
  few = omega (arith, cycles_are, few_cycles b (has_size_lem b accepted))

-- the instants of the first i entries are put
pub record Put (b list : List ℕ) (i : ℕ) : Type 0 where
  pub size_is : length list ≡ 255
  pub instants_are : take i list ≡ tabulate (instant_at b) 0 i

module _ (b list : List ℕ) where
  pub none-put : length list ≡ 255 → Put b list 0
  none-put h = record { size_is = h; instants_are = refl }

  pub one_more : (i v : ℕ) → i < 255 → v ≡ instant_at b i → Put b list i → Put b (set list i v) (i + 1)
  one_more i v h e p =
      let z : 0 + i ≡ i = omega arith in
      let grown = tabulate-end (instant_at b) 0 i ∙ ap (λ (k : ℕ). tabulate (instant_at b) 0 i ++ (instant_at b k ∷ [])) z in
      record {
        size_is = length-set list i v ∙ p.size_is;
        instants_are = rw (add-one, take-suc-set list i v (omega (arith, p.size_is)), p.instants_are, e) (sym grown);
      }

  pub all-put : (n i : ℕ) → n ≡ cycles_said b → n ≤ 255 → i ≤ n → n ≤ i → Put b list i → InstantsPromise b list n
  all-put n i e few within end p =
      let same : i ≡ n = omega arith in
      record {
        count-is = e;
        instants_are = rw same at p.instants_are;
        counts = counted list n (omega (arith, p.size_is));
      }
