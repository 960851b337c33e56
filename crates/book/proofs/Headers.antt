-- The header of a book: what its size tells, and each way out of the entries that say what it holds. Assumes nothing.
use Rattle.std.proofs.Common.{◌≡◌, refl, sym, ap, ◌∙◌, Bool, true, false, cond, not, ◌&&◌, List, ℕ, ◌≤◌, ◌<◌, Ok, Err}
use native.Mathlib.Omega.{arith}
use lib.Dec.{leb}
use lib.ListN.{length}
use borrow.Author.Tests.{leb-true, le-leb, lt-leb}
use Rattle.base.specs.declared.refusal.Refusal.{Refusal}
use Rattle.base.specs.declared.refusal.Refusal.TheVariants.{WrongBookLength}
use Rattle.base.specs.Refusals.{answered, Answers}
use Rattle.base.proofs.Lines.{told}
use Rattle.book.specs.declared.header.Header.{Header}
use Rattle.book.specs.Layout.{cycles_said, year_said}
use Rattle.book.specs.Faults.{contents, is_sized}
use Rattle.book.specs.Header.{has_size, header_lines, header_of, header_refusal, count_of, year_of}
use Rattle.book.specs.Sought.{Sized}
use Rattle.book.proofs.Said.{sized}

-- ---- the size
pub record Sizes (b : List ℕ) : Type 0 where
  pub header : 4 ≤ length b
  pub size : Sized b (cycles_said b)

pub sizes : (b : List ℕ) → has_size b ≡ true → Sizes b
unfolding has_size
sizes b = go (leb 4 (length b)) refl
  where
    go : (p : Bool) → leb 4 (length b) ≡ p → (p && is_sized (contents b)) ≡ true → Sizes b
    go true e f = record { header = leb-true 4 (length b) e; size = sized b f }
    go false e f = let z : ◌≡◌ {A = ℕ} 0 1 = cc in absurd (impossible z)
      where
        impossible : ◌≡◌ {A = ℕ} 0 1 → ⊥
        impossible z = omega arith

module _ (b : List ℕ) where
  pub too_short : length b < 4 → false ≡ has_size b
  unfolding has_size
  too_short h = rw (lt-leb 4 (length b) h)

  pub long_enough : 4 ≤ length b → is_sized (contents b) ≡ has_size b
  unfolding has_size
  long_enough h = rw (le-leb 4 (length b) h)

  -- ---- what it says
  module _ (t : has_size b ≡ true) where
    pub has_header : 4 ≤ length b
    has_header = (sizes b t).header

    pub header_there : Answers (header_lines b) (header_of b) (Ok (header_of b))
    header_there = told (header_lines b) (header_of b) (Ok (header_of b)) (rw t)

    pub said : (n y : ℕ) → n ≡ cycles_said b → y ≡ year_said b → Answers (header_lines b) (header_of b) (Ok (record { cycles = n; year = y }))
    said n y e f = rw (e, f) header_there

    pub count-there : cycles_said b ≡ count_of b
    unfolding count_of
    count-there = rw t

    pub year_there : year_said b ≡ year_of b
    unfolding year_of
    year_there = rw t

  module _ (f : has_size b ≡ false) where
    pub header_refused : Answers (header_lines b) (header_of b) (Err WrongBookLength)
    header_refused = told (header_lines b) (header_of b) (Err WrongBookLength) (rw f)

    pub count-refused : 0 ≡ count_of b
    unfolding count_of
    count-refused = rw f

    pub year_refused : 0 ≡ year_of b
    unfolding year_of
    year_refused = rw f

  -- ---- by the answer that gives the header
  pub count_given : (h : Header) → answered Err (header_lines b) (Ok (header_of b)) ≡ Ok h → h.cycles ≡ count_of b
  count_given h = go (has_size b) refl
    where
      go : (p : Bool) → has_size b ≡ p → cond (not p) (Err WrongBookLength) (Ok (header_of b)) ≡ Ok h → h.cycles ≡ count_of b
      go true t e = let same : header_of b ≡ h = cc in sym (ap (λ (x : Header). x.cycles) same) ∙ count-there t
      go false f e = cc

  pub year_given : (h : Header) → answered Err (header_lines b) (Ok (header_of b)) ≡ Ok h → h.year ≡ year_of b
  year_given h = go (has_size b) refl
    where
      go : (p : Bool) → has_size b ≡ p → cond (not p) (Err WrongBookLength) (Ok (header_of b)) ≡ Ok h → h.year ≡ year_of b
      go true t e = let same : header_of b ≡ h = cc in sym (ap (λ (x : Header). x.year) same) ∙ year_there t
      go false f e = cc

  pub count_none : (r : Refusal) → answered Err (header_lines b) (Ok (header_of b)) ≡ Err r → 0 ≡ count_of b
  count_none r = go (has_size b) refl
    where
      go : (p : Bool) → has_size b ≡ p → cond (not p) (Err WrongBookLength) (Ok (header_of b)) ≡ Err r → 0 ≡ count_of b
      go true t e = cc
      go false f e = count-refused f

  pub year_none : (r : Refusal) → answered Err (header_lines b) (Ok (header_of b)) ≡ Err r → 0 ≡ year_of b
  year_none r = go (has_size b) refl
    where
      go : (p : Bool) → has_size b ≡ p → cond (not p) (Err WrongBookLength) (Ok (header_of b)) ≡ Err r → 0 ≡ year_of b
      go true t e = cc
      go false f e = year_refused f

  -- a header that is not refused has its size
  pub header_size : header_refusal b ≡ 0 → has_size b ≡ true
  unfolding header_refusal
  header_size = go (has_size b)
    where
      go : (p : Bool) → ◌≡◌ {A = ℕ} (cond (not p) 16 0) 0 → p ≡ true
      go true e = refl
      go false e = absurd (omega arith)

-- ---- the header that is told
module _ (b : List ℕ) (t : has_size b ≡ true) where
  pub count-is : (r : ℕ) → r ≡ count_of b → r ≡ cycles_said b
  count-is r e = e ∙ sym (count-there b t)

  pub year_is : (r : ℕ) → r ≡ year_of b → r ≡ year_said b
  year_is r e = e ∙ sym (year_there b t)

  -- a book that has its length has at most 255 cycles
  pub few_cycles : cycles_said b ≤ 255
  few_cycles = (sizes b t).size.few
