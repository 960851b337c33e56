-- The frames of a cycle: what a loop over them has found, and the kind of a column that was gathered. Assumes nothing.
use mathlib.Core.Path.{◌≡◌, refl, sym, ap, ◌∙◌}
use mathlib.Core.Bool.{Bool, true, false, ◌&&◌}
use mathlib.Core.List.{List}
use Prim.Native.Nat.{ℕ, ◌+◌, ◌*◌, ◌-◌, ◌<◌}
use native.Mathlib.Omega.{arith}
use lib.Dec.{eqb}
use lib.ListN.{length, take, drop}
use borrow.Author.Tests.{ne_eqb, eqb-true}
use Rattle.base.specs.Ranges.{each}
use Rattle.base.specs.Rows.{row}
use Rattle.base.proofs.Ranges.{each-true, each-false}
use Rattle.base.proofs.Rows.{row_is}
use Rattle.word72_column.specs.Columns.{gathered, gather_after, column_kind}
use Rattle.std.proofs.Common.{Result}
use Rattle.base.specs.declared.refusal.Refusal.{Refusal}
use Rattle.cycle.specs.Cycle.{is_numbered, all_numbered, answers_kind, is_kind, is_major, is_cycle}

-- a test of the rows of a frame or of a body, told of one row by its start and end
module _ (w : ℕ) (l : List ℕ) (test : List ℕ → ℕ → Bool) where
  pub of_row : (k : ℕ) (r b : Bool) → r ≡ test (take (w * k + w - w * k) (drop (w * k) l)) k → r ≡ b → test (row w l k) k ≡ b
  of_row k r b e f = ap (λ (m : List ℕ). test m k) (sym (row_is w l k)) ∙ sym e ∙ f

  pub one-false : (n k : ℕ) → k < n → test (row w l k) k ≡ false → each (λ i. test (row w l i) i) 0 n ≡ false
  one-false n k h e = each-false (λ i. test (row w l i) i) 0 n k (omega arith) (omega arith) e

  pub all_true : (n : ℕ) → ((k : ℕ) → k < n → test (row w l k) k ≡ true) → each (λ i. test (row w l i) i) 0 n ≡ true
  all_true n h = each-true (λ i. test (row w l i) i) 0 n (λ k a b. h k (omega arith))

-- ---- the minor frames of a major frame
module _ (frame : List ℕ) where
  pub one-unnumbered : (m : ℕ) → m < 128 → is_numbered (row 128 frame m) m ≡ false → false ≡ all_numbered frame
  unfolding all_numbered
  one-unnumbered m h e = sym (one-false 128 frame is_numbered 128 m h e)

  pub every-numbered : ((m : ℕ) → m < 128 → is_numbered (row 128 frame m) m ≡ true) → true ≡ all_numbered frame
  unfolding all_numbered
  every-numbered h = sym (all_true 128 frame is_numbered 128 h)

-- ---- the major frames of a body
module _ (y : ℕ) (body : List ℕ) where
  -- major frame k is of kind k
  abbrev pub is_kth : List ℕ → ℕ → Bool
  is_kth frame k = is_major y k frame

  pub other_length : (length body ≡ 65536 → ⊥) → false ≡ is_cycle y body
  unfolding is_cycle
  other_length h = rw (ne_eqb (length body) 65536 h)

  module _ (long : length body ≡ 65536) where
    pub one-other : (k : ℕ) → k < 4 → is_kth (row 16384 body k) k ≡ false → false ≡ is_cycle y body
    unfolding is_cycle
    one-other k h e = rw (long, one-false 16384 body is_kth 4 k h e)

    pub every-major : ((k : ℕ) → k < 4 → is_kth (row 16384 body k) k ≡ true) → true ≡ is_cycle y body
    unfolding is_cycle
    every-major h = rw (long, all_true 16384 body is_kth 4 h)

-- ---- the kind of a gathered column
pub gathers : (area column : List ℕ) → length area ≡ 16384 → length column ≡ 128 → gather_after area column ≡ gathered area
gathers area column a b = rw (a, b)

pub kind_is : (y k : ℕ) (frame column : List ℕ) (r : Result ℕ Refusal) → column ≡ gathered frame → r ≡ column_kind y column → answers_kind k r ≡ is_kind y k frame
unfolding is_kind
kind_is y k frame column r e f = ap (answers_kind k) (f ∙ ap (column_kind y) e)

-- a cycle has its length
pub cycle_length : (y : ℕ) (body : List ℕ) → is_cycle y body ≡ true → length body ≡ 65536
unfolding is_cycle
cycle_length y body = go (eqb (length body) 65536) refl
  where
    go : (b : Bool) → eqb (length body) 65536 ≡ b → (b && each (λ k. is_major y k (row 16384 body k)) 0 4) ≡ true → length body ≡ 65536
    go true e f = eqb-true (length body) 65536 e
    go false e f = let z : ◌≡◌ {A = ℕ} 0 1 = cc in omega arith
