-- The parts of a book: each way out of the entries that hand out parts or tell where they lie. Assumes nothing.
use Rattle.std.proofs.Common.{◌≡◌, refl, sym, ap, ◌∙◌, Bool, true, false, cond, not, List, length}
use Rattle.std.proofs.Common.{ℕ, ◌+◌, ◌*◌, ◌≤◌, ◌<◌, leb, Result, Ok, Err, IsOk, IfOk}
use Rattle.std.specs.Result.{result_unwrap_or}
use native.Mathlib.Omega.{arith}
use borrow.Author.Tests.{leb-false, le-leb, lt-leb, not-false}
use borrow.Rule.Slice.Shared.{by_byte}
use denote.Ref.{Bor}
use Rattle.base.specs.declared.refusal.Refusal.{Refusal}
use Rattle.base.specs.declared.refusal.Refusal.TheVariants.{WrongBookLength, NoSuchEntry}
use Rattle.base.specs.Refusals.{Line, answered}
use Rattle.base.proofs.Lines.{ok-none, answered-of}
use Rattle.book.specs.declared.header.Header.{Header}
use Rattle.book.specs.Layout.{entry_start, body_start, cycles_said}
use Rattle.book.specs.Header.{has_size, header_lines, header_of}
use Rattle.book.specs.Sought.{Sized}
use Rattle.book.proofs.Answered.{stops}
use Rattle.book.proofs.Headers.{sizes}
use Rattle.book_parts.specs.declared.Place.{Place}
use Rattle.book_parts.specs.Parts.{part_lines, place, nowhere, IsPart, PlacePromise}
use Rattle.book_parts.specs.Parts.{try_entry_place, try_body_place, HandsOut, TryPlacePromise}

-- ---- whether there is an entry i

-- the number of cycles, where there is one
abbrev pub past : List ℕ → ℕ → Result ℕ Refusal
past b i = answered Err (part_lines b i) (Ok (cycles_said b))

-- what is known where there is an entry i
pub record There (b : List ℕ) (i : ℕ) : Type 0 where
  pub header : 4 ≤ length b
  pub size : Sized b (cycles_said b)
  pub below : i < cycles_said b
  pub tested : has_size b ≡ true

module _ (b : List ℕ) (i : ℕ) where
  pub no_header : (e : Refusal) → answered Err (header_lines b) (Ok (header_of b)) ≡ Err e → Err e ≡ past b i
  no_header e = go (has_size b)
    where
      go : (p : Bool) → cond (not p) (Err WrongBookLength) (Ok (header_of b)) ≡ Err e
          → Err e ≡ cond (not p) (Err WrongBookLength) (cond (leb (cycles_said b) i) (Err NoSuchEntry) (Ok (cycles_said b)))
      go true h = cc
      go false h = cc

  module _ (h : Header) (is : answered Err (header_lines b) (Ok (header_of b)) ≡ Ok h) where
    sized : has_size b ≡ true
    sized = not-false (has_size b) (ok-none (header_lines b) (header_of b) h is).0.0

    count : cycles_said b ≡ h.cycles
    count = ap (λ (x : Header). x.cycles) (ok-none (header_lines b) (header_of b) h is).1

    pub no_entry : h.cycles ≤ i → Err NoSuchEntry ≡ past b i
    no_entry l = let n = count in rw (sized, le-leb (cycles_said b) i (omega arith))

    pub an_entry : i < h.cycles → Ok h.cycles ≡ past b i
    an_entry l = let n = count in rw (sized, lt-leb (cycles_said b) i (omega arith)) (ap Ok (sym count))

  pub there : (n : ℕ) → past b i ≡ Ok n → There b i
  there n e =
      let none = (ok-none (part_lines b i) (cycles_said b) n e).0 in
      let t = not-false (has_size b) none.0 in
      let s = sizes b t in
      record { header = s.header; size = s.size; below = leb-false (cycles_said b) i none.1.0; tested = t }

  pub counted : (n : ℕ) → past b i ≡ Ok n → cycles_said b ≡ n
  counted n e = (ok-none (part_lines b i) (cycles_said b) n e).1

-- ---- places
module _ (b : List ℕ) (i : ℕ) where
  module _ (e : Refusal) (no : past b i ≡ Err e) where
    pub entry-refused : TryPlacePromise b (try_entry_place b i) (Err e)
    unfolding try_entry_place
    entry-refused = record { is = sym (stops (part_lines b i) (cycles_said b) e no Err (Ok (place (entry_start i) 12))); within = tt }

    pub body_refused : TryPlacePromise b (try_body_place b i) (Err e)
    unfolding try_body_place
    body_refused = record { is = sym (stops (part_lines b i) (cycles_said b) e no Err (Ok (place (body_start (cycles_said b) i) 65536))); within = tt }

  module _ (t : There b i) where
    pub entry-there : TryPlacePromise b (try_entry_place b i) (Ok (place (4 + 12 * i) 12))
    unfolding try_entry_place
    entry-there =
        let s = t.size in
        let l = t.below in
        record { is = rw (t.tested, lt-leb (cycles_said b) i l); within = omega arith }

    pub body-there : (start : ℕ) → start ≡ body_start (cycles_said b) i → TryPlacePromise b (try_body_place b i) (Ok (place start 65536))
    unfolding try_body_place
    body-there start e =
        let s = t.size in
        let l = t.below in
        record { is = rw (e, t.tested, lt-leb (cycles_said b) i l); within = omega arith }

-- the place, or nowhere where it is refused
abbrev or_nowhere : Result Place Refusal → Place
or_nowhere r = result_unwrap_or r nowhere

-- a refused place is nowhere, and a given one is the place
pub placed : (b : List ℕ) (ls : List Line) (given : Place) (r : Result Place Refusal) (q : Place)
    → TryPlacePromise b (answered Err ls (Ok given)) r → q ≡ or_nowhere r
    → PlacePromise b (answered (λ n. nowhere) ls given) q
placed b ls given r q h e = record {
  is = e ∙ ap or_nowhere h.is ∙ answered-of or_nowhere Err ls (Ok given);
  within = rw e (go r h.within);
}
  where
    go : (r : Result Place Refusal) → IfOk r (λ p. p.start + p.length ≤ length b)
        → let p = or_nowhere r in p.start + p.length ≤ length b
    go (Ok p) h = h
    go (Err f) h = omega arith

-- ---- what is handed out
module _ (s : Bor (List ℕ)) where
  pub refused_place : (p : Result Place Refusal) (e : Refusal) → HandsOut (Err e) s p → p ≡ Err e
  refused_place (Ok q) e = λ h. absurd h
  refused_place (Err f) e = λ h. ap Err (sym h)

  pub given_place : (p : Result Place Refusal) (r : Bor (List ℕ)) → HandsOut (Ok r) s p → (q : Place) × (p ≡ Ok q) × IsPart r s q
  given_place (Ok q) r = λ h. (q, refl, h)
  given_place (Err e) r = λ h. absurd h

  -- where there is a place, a part is handed out
  pub is_given : (p : Result Place Refusal) (q : Place) (r : Result (Bor (List ℕ)) Refusal) → p ≡ Ok q → HandsOut r s p → IsOk r
  is_given (Ok p) q (Ok r) = λ e h. refl
  is_given (Ok p) q (Err f) = λ e h. absurd h
  is_given (Err p) q (Ok r) = λ e h. absurd h
  is_given (Err p) q (Err f) = λ e h. cc

-- the pointer of a part that starts k on
pub starts : (k o : ℕ) → by_byte k o ≡ o + k
starts k o = omega arith
