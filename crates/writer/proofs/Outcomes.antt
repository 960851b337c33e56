-- The ways out of the two entries: each answers and leaves what the refusal table says. Assumes nothing.
use Rattle.std.proofs.Common.{◌≡◌, ap, ◌∙◌, true, false, List, ℕ, ◌+◌, ◌*◌, ◌-◌, ◌≤◌, ◌<◌, length, Result, Ok, Err}
use native.Mathlib.Omega.{arith}
use lib.Dec.{eqb, ltb}
use borrow.Author.Tests.{lt-ltb, le-ltb, eq-eqb, ne_eqb}
use Rattle.base.specs.declared.refusal.Refusal.{Refusal}
use Rattle.base.specs.declared.refusal.Refusal.TheVariants.{WrongLength, SpacingTooWide, NotAMinorFrame}
use Rattle.base.specs.Refusals.{number_of, permitted}
use Rattle.base.proofs.Lines.{numbered}
use Rattle.writer.specs.Stream.{stream, lead_in, is_writable, lead_in_lines, lead_in_after, minor_frame_lines, minor_frame_after}
use Rattle.writer.specs.Promise.{LeadInPromise, MinorFramePromise}
use Rattle.writer.proofs.ReadingBack.{reel-promise}

-- ---- a lead-in

module _ (f : ℕ) (old : List ℕ) where
  -- an answer by the lines, and what is left
  abbrev LeadIn : List ℕ → Result Unit Refusal → Type 0
  LeadIn new r = record { answer : r ≡ permitted (lead_in_lines f old); promise : LeadInPromise f old new (number_of r) }

  lead_in-by : (new : List ℕ) (r : Result Unit Refusal) → r ≡ permitted (lead_in_lines f old) → new ≡ lead_in_after f old → LeadIn new r
  lead_in-by new r e after =
      record { answer = e; promise = record { answer = ap number_of e ∙ numbered (lead_in_lines f old) tt; after = after; reel = reel-promise } }

  pub lead_in-too_wide : 60 < f → LeadIn old (Err SpacingTooWide)
  lead_in-too_wide h = let wide = lt-ltb 60 f h in lead_in-by old (Err SpacingTooWide) (rw wide) (rw wide)

  module _ (fits : f ≤ 60) where
    pub lead_in-wrong_length : (length old ≡ 3 * (4 + f) → ⊥) → LeadIn old (Err WrongLength)
    lead_in-wrong_length h =
        let narrow = le-ltb 60 f fits in
        let other = ne_eqb (length old) (3 * (4 + f)) h in
        lead_in-by old (Err WrongLength) (rw (narrow, other)) (rw (narrow, other))

    pub lead_in-written : (new : List ℕ) → length old ≡ 3 * (4 + f) → new ≡ stream (4 + f - 4) lead_in → LeadIn new (Ok tt)
    lead_in-written new h e =
        let narrow = le-ltb 60 f fits in
        let room = eq-eqb (length old) (3 * (4 + f)) h in
        let f-is : 4 + f - 4 ≡ f = omega arith in
        lead_in-by new (Ok tt) (rw (narrow, room)) (rw (narrow, room, e, f-is))

-- ---- a minor frame

module _ (f : ℕ) (frame old : List ℕ) where
  abbrev Frame : List ℕ → Result Unit Refusal → Type 0
  Frame new r = record { answer : r ≡ permitted (minor_frame_lines f frame old); promise : MinorFramePromise f frame old new (number_of r) }

  frame-by : (new : List ℕ) (r : Result Unit Refusal) → r ≡ permitted (minor_frame_lines f frame old) → new ≡ minor_frame_after f frame old → Frame new r
  frame-by new r e after =
      record { answer = e; promise = record { answer = ap number_of e ∙ numbered (minor_frame_lines f frame old) tt; after = after } }

  pub frame-too_wide : 60 < f → Frame old (Err SpacingTooWide)
  frame-too_wide h = let wide = lt-ltb 60 f h in frame-by old (Err SpacingTooWide) (rw wide) (rw wide)

  module _ (fits : f ≤ 60) where
    abbrev narrow : ltb 60 f ≡ false
    narrow = le-ltb 60 f fits

    pub frame-wrong_length : (length frame ≡ 128 → ⊥) → Frame old (Err WrongLength)
    frame-wrong_length h =
        let other = ne_eqb (length frame) 128 h in
        frame-by old (Err WrongLength) (rw (narrow, other)) (rw (narrow, other))

    module _ (whole : length frame ≡ 128) where
      abbrev whole_so : eqb (length frame) 128 ≡ true
      whole_so = eq-eqb (length frame) 128 whole

      pub out-wrong_length : (length old ≡ 128 * (4 + f) → ⊥) → Frame old (Err WrongLength)
      out-wrong_length h =
          let other = ne_eqb (length old) (128 * (4 + f)) h in
          frame-by old (Err WrongLength) (rw (narrow, whole_so, other)) (rw (narrow, whole_so, other))

      module _ (room : length old ≡ 128 * (4 + f)) where
        abbrev room_so : eqb (length old) (128 * (4 + f)) ≡ true
        room_so = eq-eqb (length old) (128 * (4 + f)) room

        pub frame-not_writable : is_writable frame ≡ false → Frame old (Err NotAMinorFrame)
        frame-not_writable w = frame-by old (Err NotAMinorFrame) (rw (narrow, whole_so, room_so, w)) (rw (narrow, whole_so, room_so, w))

        pub frame-written : (new : List ℕ) → is_writable frame ≡ true → new ≡ stream (4 + f - 4) frame → Frame new (Ok tt)
        frame-written new w e =
            let f-is : 4 + f - 4 ≡ f = omega arith in
            frame-by new (Ok tt) (rw (narrow, whole_so, room_so, w)) (rw (narrow, whole_so, room_so, w, e, f-is))
