-- The parts that a book hands out (02, request 7): where entry i and body i stand, and when they are refused. Definitions only.
use Rattle.std.specs.Prelude.{◌≡◌, true, not, List, [], ◌∷◌, ℕ, ◌+◌, ◌≤◌, ◌<◌, leb, length, Result, Ok, Err, IfOk}
use Rattle.std.specs.Borrow.{Bor}
use Rattle.base.specs.declared.refusal.Refusal.{Refusal}
use Rattle.base.specs.declared.refusal.Refusal.TheVariants.{WrongBookLength, NoSuchEntry}
use Rattle.base.specs.Refusals.{Line, ◌when◌, answered, refusal}
use Rattle.cycle.specs.Cycle.{cycle_length}
use Rattle.book.specs.Layout.{entry_length, entry_start, body_start, bytes_at, cycles_said, instant_at}
use Rattle.book.specs.Header.{has_size}
use Rattle.book_parts.specs.declared.Place.{Place}

-- 16, as of the header; then 20: no entry i
abbrev pub part_lines : List ℕ → ℕ → List Line
part_lines b i = WrongBookLength when not (has_size b) ∷ NoSuchEntry when leb (cycles_said b) i ∷ []

unfoldable pub part_refusal : List ℕ → ℕ → ℕ
part_refusal b i = refusal (part_lines b i)

-- the instant that entry i holds, 0 where it is refused
unfoldable pub instant_told : List ℕ → ℕ → ℕ
instant_told b i = answered (λ n. 0) (part_lines b i) (instant_at b i)

-- a book that has its length has an entry i
pub record Entered (b : List ℕ) (i : ℕ) : Type 0 where
  pub sized : has_size b ≡ true
  pub below : i < cycles_said b

-- ---- places

abbrev pub place : ℕ → ℕ → Place
place start length = record { start = start; length = length }

-- nothing is handed out
abbrev pub nowhere : Place
nowhere = place 0 0

unfoldable pub entry_place : List ℕ → ℕ → Place
entry_place b i = answered (λ n. nowhere) (part_lines b i) (place (entry_start i) entry_length)

unfoldable pub body_place : List ℕ → ℕ → Place
body_place b i = answered (λ n. nowhere) (part_lines b i) (place (body_start (cycles_said b) i) cycle_length)

-- the same, with the reason where there is no place
unfoldable pub try_entry_place : List ℕ → ℕ → Result Place Refusal
try_entry_place b i = answered Err (part_lines b i) (Ok (place (entry_start i) entry_length))

unfoldable pub try_body_place : List ℕ → ℕ → Result Place Refusal
try_body_place b i = answered Err (part_lines b i) (Ok (place (body_start (cycles_said b) i) cycle_length))

-- r is the part of s at this place: it reads as those bytes, and is the caller's own memory, from the place's start on
pub record IsPart (r s : Bor (List ℕ)) (p : Place) : Type 0 where
  pub contents_are : r.now ≡ bytes_at p.start p.length s.now
  pub block : r.ref_ptr.0 ≡ s.ref_ptr.0
  pub offset : r.ref_ptr.1 ≡ s.ref_ptr.1 + p.start

-- r hands out the part of s at this place, and is refused where the place is, alike
abbrev pub HandsOut : Result (Bor (List ℕ)) Refusal → Bor (List ℕ) → Result Place Refusal → Type 0
HandsOut (Ok r) s (Ok p) = IsPart r s p
HandsOut (Ok r) s (Err e) = ⊥
HandsOut (Err e) s (Ok p) = ⊥
HandsOut (Err e) s (Err f) = e ≡ f

-- a place that is told of the book b: it is this one, and lies within the book
pub record PlacePromise (b : List ℕ) (p r : Place) : Type 0 where
  pub is : r ≡ p
  pub within : r.start + r.length ≤ length b

-- the same of a place or its refusal
pub record TryPlacePromise (b : List ℕ) (p r : Result Place Refusal) : Type 0 where
  pub is : r ≡ p
  pub within : IfOk r (λ q. q.start + q.length ≤ length b)
