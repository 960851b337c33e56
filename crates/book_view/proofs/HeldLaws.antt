-- What a view holds, and the parts that are handed out through it. Assumes nothing.
use Rattle.std.proofs.Common.{◌≡◌, refl, sym, ap, ◌∙◌, Bool, true, false, cond, List, [], ℕ, Result, Ok, Err}
use native.Mathlib.Omega.{arith}
use lib.Dec.{eqb}
use lib.ListN.{length, take}
use lib.Seq.{take-length}
use denote.Ref.{Bor}
use borrow.Author.Tests.{eq-eqb, ne_eqb}
use borrow.Rule.Slice.Shared.{by_byte}
use Rattle.base.specs.declared.refusal.Refusal.{Refusal}
use Rattle.book_parts.specs.declared.Place.{Place}
use Rattle.book.specs.Layout.{bytes_at}
use Rattle.book.specs.Faults.{view_refusal}
use Rattle.book_parts.specs.Parts.{place, nowhere, IsPart, HandsOut}
use Rattle.book_view.specs.Held.{held_place, held_of}

-- ---- what is held
pub all_held : (b : List ℕ) → view_refusal b ≡ 0 → held_place b ≡ place 0 (length b)
unfolding held_place
all_held b e = ap (λ (t : Bool). cond t (place 0 (length b)) nowhere) (eq-eqb (view_refusal b) 0 e)

pub none-held : (b : List ℕ) → (view_refusal b ≡ 0 → ⊥) → held_place b ≡ nowhere
unfolding held_place
none-held b h = ap (λ (t : Bool). cond t (place 0 (length b)) nowhere) (ne_eqb (view_refusal b) 0 h)

-- the part from the start on
pub from_start : (r s : Bor (List ℕ)) (p : Place) (n : ℕ) → p ≡ place 0 n → r.now ≡ take n s.now → r.ref_ptr.0 ≡ s.ref_ptr.0 → r.ref_ptr.1 ≡ s.ref_ptr.1 → IsPart r s p
from_start r s p n e contents block offset =
    rw e (record { contents_are = contents; block = block; offset = omega arith })

pub whole : (l : List ℕ) → l ≡ take (length l) l
whole l = sym (take-length l)

pub at-start : (o : ℕ) → by_byte 0 o ≡ o
at-start o = omega arith

-- ---- through a view

-- the bytes that are held
held-is : (b : List ℕ) → bytes_at (held_place b).start (held_place b).length b ≡ held_of b
unfolding held_place held_of
held-is b = go (eqb (view_refusal b) 0)
  where
    go : (t : Bool) → let p = cond t (place 0 (length b)) nowhere in bytes_at p.start p.length b ≡ cond t b []
    go true = take-length b
    go false = refl

starts_at : (b : List ℕ) → (held_place b).start ≡ 0
unfolding held_place
starts_at b = go (eqb (view_refusal b) 0)
  where
    go : (t : Bool) → (cond t (place 0 (length b)) nowhere).start ≡ 0
    go true = refl
    go false = refl

pub now-held : (w s : Bor (List ℕ)) → IsPart w s (held_place s.now) → w.now ≡ held_of s.now
now-held w s h = h.contents_are ∙ held-is s.now

-- a place that is nowhere if nothing is held
abbrev pub OfHeld : List ℕ → Place → Type 0
OfHeld b p = held_of b ≡ [] → p ≡ nowhere

same_bytes : (b : List ℕ) (p : Place) → OfHeld b p
    → bytes_at p.start p.length (held_of b) ≡ bytes_at p.start p.length b
unfolding held_of
same_bytes b p = go (eqb (view_refusal b) 0)
  where
    go : (t : Bool) → (cond t b [] ≡ [] → p ≡ nowhere)
        → bytes_at p.start p.length (cond t b []) ≡ bytes_at p.start p.length b
    go true none = refl
    go false none = rw (none refl)

-- a part of what is held is a part of the slice
part_of-slice : (r w s : Bor (List ℕ)) (p : Place) → IsPart w s (held_place s.now)
    → OfHeld s.now p → IsPart r w p → IsPart r s p
part_of-slice r w s p h none e =
    record {
      contents_are =
          e.contents_are
          ∙ ap (λ (l : List ℕ). bytes_at p.start p.length l) (now-held w s h)
          ∙ same_bytes s.now p none;
      block = e.block ∙ h.block;
      offset =
          let a = e.offset in
          let b = h.offset in
          let start = starts_at s.now in
          omega (arith, a, b, start);
    }

-- the place of a part is nowhere if nothing is held
pub part-through : (P : List ℕ → Place) → P [] ≡ nowhere → (r w s : Bor (List ℕ))
    → IsPart w s (held_place s.now) → IsPart r w (P w.now) → IsPart r s (P (held_of s.now))
part-through P none r w s h e =
    let then_nowhere : OfHeld s.now (P w.now) = λ held. ap P (now-held w s h ∙ held) ∙ none in
    rw (now-held w s h) at (part_of-slice r w s (P w.now) h then_nowhere e)

-- a part that may be refused has no place if nothing is held
pub tried-through : (P : List ℕ → Result Place Refusal) (why : Refusal) → P [] ≡ Err why
    → (r : Result (Bor (List ℕ)) Refusal) (w s : Bor (List ℕ))
    → IsPart w s (held_place s.now) → HandsOut r w (P w.now) → HandsOut r s (P (held_of s.now))
tried-through P why none r w s h e = rw (now-held w s h) at (go r (P w.now) refl e)
  where
    go : (r : Result (Bor (List ℕ)) Refusal) (p : Result Place Refusal)
        → P w.now ≡ p → HandsOut r w p → HandsOut r s p
    go (Err f) (Err g) is e = e
    go (Err f) (Ok p) is e = e
    go (Ok r) (Err g) is e = e
    go (Ok r) (Ok p) is e =
        part_of-slice r w s p h (λ held. let given = ap P (now-held w s h ∙ held) ∙ none in cc) e
