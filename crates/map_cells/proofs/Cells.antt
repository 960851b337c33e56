-- Cells that are rewritten one after the other, and what a cell of twice the length is. Assumes nothing.
use mathlib.Core.Path.{◌≡◌, refl, sym, ap, ◌∙◌}
use mathlib.Core.Bool.{Bool, true, false}
use mathlib.Core.List.{List}
use Prim.Native.Nat.{ℕ, ◌+◌, ◌≤◌, ◌<◌}
use native.Mathlib.Omega.{arith}
use lib.Dec.{leb}
use lib.ListN.{length, get_or}
use lib.Seq.{ext_get_or}
use borrow.Author.Tests.{lt-leb, leb-true, leb-false}
use Rattle.base.specs.Ranges.{tabulate}
use Rattle.base.proofs.Ranges.{tabulate-length, tabulate-at}
use Rattle.map_cells.specs.Cells.{raised_at}

-- ---- cells that are rewritten in order

-- those before place i are as f says, and the others as they were
pub record Upto (f : ℕ → ℕ) (old cells : List ℕ) (i : ℕ) : Type 0 where
  pub size_is : length cells ≡ length old
  pub done : (k : ℕ) → k < i → get_or cells k 0 ≡ f k
  pub rest : (k : ℕ) → i ≤ k → get_or cells k 0 ≡ get_or old k 0

module _ (f : ℕ → ℕ) (old : List ℕ) where
  pub upto_end : (cells : List ℕ) (i : ℕ) → ((k : ℕ) → i ≤ k → k < length old → f k ≡ get_or old k 0) → Upto f old cells i
      → cells ≡ tabulate f 0 (length old)
  upto_end cells i h u = ext_get_or 0 cells (tabulate f 0 (length old)) (u.size_is ∙ sym (tabulate-length f 0 (length old))) each
    where
      as_said : (k : ℕ) → k < length old → get_or cells k 0 ≡ f k
      as_said k l = go (leb i k) refl
        where
          go : (b : Bool) → leb i k ≡ b → get_or cells k 0 ≡ f k
          go true e = u.rest k (leb-true i k e) ∙ sym (h k (leb-true i k e) l)
          go false e = u.done k (leb-false i k e)

      each : (k : ℕ) → k < length cells → get_or cells k 0 ≡ get_or (tabulate f 0 (length old)) k 0
      each k l =
          let within : k < length old = omega (arith, l, u.size_is) in
          let same : k ≡ 0 + k = omega arith in
          as_said k within ∙ ap f same ∙ sym (tabulate-at f 0 (length old) k 0 within)

-- ---- raised cells

module _ (old : List ℕ) (from to class : ℕ) where
  pub not_behind : (k : ℕ) → to < k → raised_at old from to class k ≡ get_or old k 0
  not_behind k h = go (leb from k) refl
    where
      go : (b : Bool) → leb from k ≡ b → raised_at old from to class k ≡ get_or old k 0
      go true e = rw (e, lt-leb k to h)
      go false e = rw e

-- ---- equal cells

-- the cells from one place on are equal as far as place i
pub record Alike (cells : List ℕ) (from end i : ℕ) : Type 0 where
  pub beyond : from ≤ i
  pub within : from ≤ end → i ≤ end
  pub equal : (k : ℕ) → from ≤ k → k < i → get_or cells k 0 ≡ get_or cells from 0
