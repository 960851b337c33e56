-- The entries and bodies that a book hands out: their lengths, and the instant that an entry holds. Assumes nothing.
use Rattle.std.proofs.Common.{◌≡◌, refl, sym, ap, ◌∙◌, List, ℕ, ◌+◌, ◌*◌, ◌<◌, length, take, drop}
use Rattle.std.proofs.Common.{Result, Ok, Err, IsOk}
use native.Mathlib.Omega.{arith}
use lib.ListN.{length-drop}
use lib.Seq.{take-take, length-take-le}
use borrow.Author.Tests.{lt-leb, leb-false, not-false}
use denote.Ref.{Bor}
use Rattle.base.specs.declared.refusal.Refusal.{Refusal}
use Rattle.base.specs.Numbers.{big_endian, NumberOf}
use Rattle.base.proofs.Numbers.{short-take}
use Rattle.base.proofs.Lines.{NoneHolds, ok-none}
use Rattle.book.specs.Layout.{bytes_at, entry_start, body_start, cycles_said, instant_at, body_at}
use Rattle.book.specs.Faults.{view_refusal}
use Rattle.book.specs.Header.{has_size}
use Rattle.book.proofs.Answered.{stops}
use Rattle.book.proofs.Headers.{sizes}
use Rattle.book.proofs.Holding.{has_size_lem}
use Rattle.book_parts.specs.Parts.{part_lines, place, instant_told, body_place, Entered, IsPart}
use Rattle.book_parts.specs.Parts.{try_entry_place, try_body_place, HandsOut}
use Rattle.book_parts.proofs.Places.{There, body-there, refused_place, given_place, is_given}

-- an accepted book has the entries that it says
pub entered : (b : List ℕ) → view_refusal b ≡ 0 → (i : ℕ) → i < cycles_said b → Entered b i
entered b accepted i h = record { sized = has_size_lem b accepted; below = h }

-- ---- what is handed out
module _ (s : Bor (List ℕ)) (i : ℕ) where
  module _ (r : Bor (List ℕ)) (h : HandsOut (Ok r) s (try_entry_place s.now i)) where
    told : NoneHolds (part_lines s.now i) × (place (entry_start i) 12 ≡ (given_place s (try_entry_place s.now i) r h).0)
    unfolding try_entry_place
    told = ok-none (part_lines s.now i) (place (entry_start i) 12) _ (given_place s (try_entry_place s.now i) r h).1

    pub entry_is : Entered s.now i
    entry_is = record { sized = not-false (has_size s.now) told.0.0; below = leb-false (cycles_said s.now) i told.0.1.0 }

    pub entry-part : IsPart r s (place (entry_start i) 12)
    entry-part = rw told.1 (given_place s (try_entry_place s.now i) r h).2

  pub instant-refused : (e : Refusal) → HandsOut (Err e) s (try_entry_place s.now i) → 0 ≡ instant_told s.now i
  unfolding instant_told try_entry_place
  instant-refused e h =
      sym (stops (part_lines s.now i) (place (entry_start i) 12) e (refused_place s (try_entry_place s.now i) e h) (λ n. 0) (instant_at s.now i))

pub instant-there : (b : List ℕ) (i : ℕ) → Entered b i → instant_told b i ≡ instant_at b i
unfolding instant_told
instant-there b i e = rw (e.sized, lt-leb (cycles_said b) i e.below)

-- ---- an entry
module _ (b : List ℕ) (i : ℕ) (e : Entered b i) where
  pub is_there : There b i
  is_there = let s = sizes b e.sized in record { header = s.header; size = s.size; below = e.below; tested = e.sized }

  -- the entry that is handed out: it is long enough, and its first eight bytes are the instant
  module _ (l : List ℕ) (part : l ≡ bytes_at (entry_start i) 12 b) where
    pub entry_length : length l ≡ 12
    entry_length =
        let s = is_there.size in
        let h = e.below in
        ap length part ∙ length-take-le 12 (drop (4 + 12 * i) b) (omega (arith, length-drop (4 + 12 * i) b))

    pub instant-is : (r : ℕ) → NumberOf (take 8 l) r → r ≡ instant_at b i
    unfolding instant_at
    instant-is r p =
        let first = take 8 (drop (4 + 12 * i) b) in
        let eight : take 8 l ≡ first = ap (λ (m : List ℕ). take 8 m) part ∙ take-take 8 12 (drop (4 + 12 * i) b) (omega arith) in
        p.whole (short-take 8 l) ∙ ap big_endian eight

  pub body-length : length (body_at b i) ≡ 65536
  unfolding body_at
  body-length =
      let s = is_there.size in
      let h = e.below in
      let start = body_start (cycles_said b) i in
      length-take-le 65536 (drop start b) (omega (arith, length-drop start b))

  -- the body that is handed out
  pub body_bytes : (l : List ℕ) → l ≡ bytes_at (body_place b i).start (body_place b i).length b → l ≡ body_at b i
  unfolding body_at body_place
  body_bytes l part = rw (e.sized, lt-leb (cycles_said b) i e.below) at part

-- ---- a body that may be refused
module _ (s : Bor (List ℕ)) (i : ℕ) (e : Entered s.now i) where
  body_is : try_body_place s.now i ≡ Ok (place (body_start (cycles_said s.now) i) 65536)
  body_is = sym (body-there s.now i (is_there s.now i e) (body_start (cycles_said s.now) i) refl).is

  pub body-given : (r : Result (Bor (List ℕ)) Refusal) → HandsOut r s (try_body_place s.now i) → IsOk r
  body-given r = is_given s (try_body_place s.now i) (place (body_start (cycles_said s.now) i) 65536) r body_is

  pub try_body_bytes : (r : Bor (List ℕ)) → HandsOut (Ok r) s (try_body_place s.now i) → r.now ≡ body_at s.now i
  unfolding body_at
  try_body_bytes r h = (rw body_is at h).contents_are
