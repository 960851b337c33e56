-- The first byte by which two bodies differ: by what it is known, and that bodies in which none differs are the same. Assumes nothing.
use mathlib.Core.Path.{◌≡◌, refl, sym, ap, ◌∙◌}
use mathlib.Core.Bool.{Bool, true, false, not}
use mathlib.Core.List.{List}
use Prim.Native.Nat.{ℕ, ◌+◌, ◌-◌, ◌≤◌, ◌<◌}
use native.Mathlib.Omega.{arith}
use lib.Dec.{eqb, ltb}
use lib.ListN.{length, get_or}
use lib.Seq.{ext_get_or}
use borrow.Author.Tests.{not-false, ltb-true, ltb-false, eq-eqb, ne_eqb, eqb-true}
use Rattle.base.proofs.Ranges.{lowest-le, stopped, searched, holds-none}
use Rattle.book_compare.specs.Differences.{first_differing}
use Rattle.book_compare.specs.Merge.{Alike, AlikeFrom}

module _ (c d : List ℕ) where
  abbrev differ : ℕ → Bool
  differ k = not (eqb (get_or c k 0) (get_or d k 0))

  same_at : (k : ℕ) → get_or c k 0 ≡ get_or d k 0 → differ k ≡ false
  same_at k e = ap not (eq-eqb (get_or c k 0) (get_or d k 0) e)

  -- a search that stopped, and one that came to the end
  pub differs_at : (at : ℕ) → at < length c → Alike c d at → (get_or c at 0 ≡ get_or d at 0 → ⊥) → at ≡ first_differing c d
  unfolding first_differing
  differs_at at h alike other =
      stopped differ (length c) at h (λ k l. same_at k (alike.equal k l)) (ap not (ne_eqb (get_or c at 0) (get_or d at 0) other))

  pub differs_not : (at : ℕ) → length c ≤ at → Alike c d at → at ≡ first_differing c d
  unfolding first_differing
  differs_not at h alike =
      let w = alike.within in
      let e : at ≡ length c = omega arith in
      e ∙ searched differ (length c) at e (λ k l. same_at k (alike.equal k l))

  pub differing_le : first_differing c d ≤ length c
  unfolding first_differing
  differing_le = let l = lowest-le differ 0 (length c) in omega arith

  pub same-list : length c ≡ length d → length c ≤ first_differing c d → c ≡ d
  unfolding first_differing
  same-list l none =
      ext_get_or 0 c d l
      (λ k h. eqb-true (get_or c k 0) (get_or d k 0) (not-false (eqb (get_or c k 0) (get_or d k 0)) (holds-none differ (length c) none k h)))

  -- ---- a block more
  pub alike-none : Alike c d 0
  alike-none = record { within = omega arith; equal = λ k h. absurd (omega arith) }

  pub alike-more : (at width : ℕ) → Alike c d at → at + width ≤ length c → AlikeFrom c d at width → Alike c d (at + width)
  alike-more at width before fits block = record { within = fits; equal = λ k h. go k h (ltb k at) refl }
    where
      go : (k : ℕ) → k < at + width → (b : Bool) → ltb k at ≡ b → get_or c k 0 ≡ get_or d k 0
      go k h true e = before.equal k (ltb-true k at e)
      go k h false e =
          let n = ltb-false k at e in
          let s : at + (k - at) ≡ k = omega arith in
          ap (λ (m : ℕ). get_or c m 0) (sym s) ∙ block (k - at) (omega arith) ∙ ap (λ (m : ℕ). get_or d m 0) s

pub differs_nowhere : (c : List ℕ) → first_differing c c ≡ length c
differs_nowhere c = sym (differs_not c c (length c) (omega arith) (record { within = omega arith; equal = λ k h. refl }))

pub differing_same : {c d e f : List ℕ} → c ≡ e → d ≡ f → first_differing c d ≡ first_differing e f
differing_same p q = rw (p, q)
