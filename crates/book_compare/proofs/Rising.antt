-- The instants of an accepted book's cycles strictly rise. Assumes nothing.
use mathlib.Core.Path.{◌≡◌}
use mathlib.Core.Bool.{Bool, true, false, not, ◌&&◌, ◌||◌}
use mathlib.Core.List.{List}
use Prim.Native.Nat.{ℕ, zero, suc, ◌+◌, ◌-◌, ◌≤◌, ◌<◌}
use native.Mathlib.Omega.{arith}
use lib.Dec.{eqb, leb, ltb}
use borrow.Author.Tests.{lt-ltb, leb-false}
use Rattle.base.specs.Ranges.{tabulate}
use Rattle.book.specs.Layout.{cycles_said, instant_at}
use Rattle.book.specs.Faults.{falls, bad_instant, view_refusal}
use Rattle.book.proofs.Holding.{sound}
use Rattle.book_compare.specs.Differences.{cycle_at, cycles_in, AllAfter, StrictlyRises}
use Rattle.book_compare.specs.Merge.{cycle_instants}

module _ (b : List ℕ) (accepted : view_refusal b ≡ 0) where
  rises_at : (i : ℕ) → suc i < cycles_said b → instant_at b i < instant_at b (suc i)
  unfolding bad_instant falls
  rises_at i h = go (not (eqb (instant_at b (suc i)) _)) ((sound b accepted).instants (suc i) h)
    where
      go : (other : Bool) → (other || (ltb 0 (suc i) && leb (instant_at b (suc i)) (instant_at b (suc i - 1)))) ≡ false → instant_at b i < instant_at b (suc i)
      go true e = let z : ◌≡◌ {A = ℕ} 0 1 = cc in absurd (omega arith)
      go false e =
          let before : suc i - 1 ≡ i = omega arith in
          leb-false (instant_at b (suc i)) (instant_at b i) (rw (lt-ltb 0 (suc i) (omega arith), before) at e)

  -- the n cycles from i on
  after-from : (t i n : ℕ) → i + n ≤ cycles_said b → ((n ≡ 0 → ⊥) → t < instant_at b i)
      → AllAfter t (cycle_instants (tabulate (cycle_at b) i n))
  after-from t i zero h first = tt
  after-from t i (suc n) h first =
      let l : t < instant_at b i = first (λ e. omega arith) in
      (l, after-from t (suc i) n (omega arith) (λ some. let u = rises_at i (omega arith) in omega arith))

  rises_from : (i n : ℕ) → i + n ≤ cycles_said b → StrictlyRises (cycle_instants (tabulate (cycle_at b) i n))
  rises_from i zero h = tt
  rises_from i (suc n) h =
      (after-from (instant_at b i) (suc i) n (omega arith) (λ some. rises_at i (omega arith)), rises_from (suc i) n (omega arith))

  pub instants-rise : StrictlyRises (cycle_instants (cycles_in b))
  instants-rise = rises_from 0 (cycles_said b) (omega arith)
