-- The writer's refusals by the tests of its code, and its promise on each way out. The code tests before it writes, so the list of faults is asked
-- of the bodies in the caller's bytes: an instant is its body's own and an offset is where its body starts, so that 18 comes only where an instant
-- does not rise, and 19 never. Assumes nothing.
use Rattle.std.proofs.Common.{◌≡◌, refl, sym, ap, ◌∙◌, Bool, true, false, not, List, [], ℕ, ◌*◌, ◌-◌, ◌/◌, ◌%◌, ◌≤◌, ◌<◌, eqb, leb, ltb, length, get_or, Option, Result, Ok, Err, is_some}
use native.Mathlib.Omega.{arith}
use lib.Dec.{lit<}
use borrow.Author.Tests.{eq-eqb, ne_eqb, le-leb, lt-leb, le-ltb, eqb-true, leb-true}
use Rattle.base.specs.declared.refusal.Refusal.{Refusal}
use Rattle.base.specs.declared.refusal.Refusal.TheVariants.{WrongLength, YearOutsideSpan, WrongBookLength, NotACycle, WrongInstant}
use Rattle.base.specs.Ranges.{lowest}
use Rattle.base.specs.Refusals.{number as number_in_papers, Line, refusal, number_of, permitted}
use Rattle.base.specs.Rows.{row}
use Rattle.base.proofs.Ranges.{none-holds}
use Rattle.base.proofs.Lines.{positive, refused-is, given_is, numbered}
use Rattle.base.proofs.Rows.{rows-length, rows_at}
use Rattle.time_code.specs.Calendar.{in_span}
use Rattle.cycle.specs.Cycle.{is_cycle, instant_of}
use Rattle.book.specs.Layout.{body_start, book_length, book, year_said, cycles_of}
use Rattle.book.specs.Faults.{Contents, contents_of, is_sized, bad_body, falls, bad_instant, bad_offset, view_refusal}
use Rattle.book_writer.specs.Writing.{bodies_in, write_lines, write_refusal, write_after}
use Rattle.book_writer.specs.Promise.{WritePromise, WriteAnswers}
use Rattle.book.specs.Sought.{first_such, bad_row}
use Rattle.book_writer.specs.Sought.{row_instant, falling_row}
use Rattle.book.proofs.Searches.{found-same, found-some}
use Rattle.book.proofs.Ways.{answer, permitted-none, none-sound}
use Rattle.book_writer.proofs.Accepted.{accepted, year_is, cycles_are}

-- ---- the faults of a year and n bodies end to end
module _ (y : ℕ) (bodies : List ℕ) (n : ℕ) (whole : length bodies ≡ 65536 * n) where
  abbrev c : Contents
  c = contents_of y (bodies_in bodies)

  many : length (bodies_in bodies) ≡ n
  many = rows-length 65536 bodies n (lit< tt) whole

  body_is : (i : ℕ) → i < n → get_or (bodies_in bodies) i [] ≡ row 65536 bodies i
  body_is i h = rows_at 65536 bodies n (lit< tt) whole i h

  same_body : (i : ℕ) → i < n → bad_body c i ≡ bad_row y bodies i
  unfolding bad_body bad_row
  same_body i h = ap (λ (l : List ℕ). not (is_cycle y l)) (body_is i h)

  -- an instant is its body's own, so that it can but fall
  same-instant : (i : ℕ) → i < n → bad_instant c i ≡ falling_row y bodies i
  unfolding bad_instant falls falling_row row_instant
  same-instant i h =
      let own = instant_of y (row 65536 bodies i) in
      rw (body_is i h, body_is (i - 1) (omega arith), eq-eqb own own refl)

  -- an offset is where its body starts
  no_offset : (i : ℕ) → i < n → bad_offset c i ≡ false
  unfolding bad_offset
  no_offset i h = let start = body_start (length (bodies_in bodies)) i in rw (eq-eqb start start refl)

  counted : length bodies / 65536 ≡ n
  counted = omega (arith, whole)

  bodies-same : first_such (bad_row y bodies) (length bodies / 65536) ≡ first_such (bad_body c) c.count
  bodies-same =
      let m = many in
      ap (first_such (bad_row y bodies)) (counted ∙ sym many)
      ∙ found-same (bad_row y bodies) c.count (bad_body c) (λ k h. sym (same_body k (omega arith)))

  instants-same : first_such (falling_row y bodies) n ≡ first_such (bad_instant c) c.count
  instants-same =
      let m = many in
      ap (first_such (falling_row y bodies)) (sym many)
      ∙ found-same (falling_row y bodies) c.count (bad_instant c) (λ k h. sym (same-instant k (omega arith)))

  few : n ≤ 255 → is_sized c ≡ true
  unfolding is_sized
  few h = rw many (le-leb n 255 h)

  pub refused-13 : in_span y ≡ false → Err YearOutsideSpan ≡ answer c
  refused-13 s = rw s

  module _ (s : in_span y ≡ true) where
    pub refused-16 : 255 < n → Err WrongBookLength ≡ answer c
    unfolding is_sized
    refused-16 h = rw (s, many, lt-leb n 255 h)

    module _ (h : n ≤ 255) (r : Option ℕ) (e : r ≡ first_such (bad_row y bodies) (length bodies / 65536)) where
      bodies-tested : (t : Bool) → is_some r ≡ t → ltb (lowest (bad_body c) 0 c.count) c.count ≡ t
      bodies-tested t is = sym (found-some (bad_body c) c.count) ∙ ap is_some (sym (e ∙ bodies-same)) ∙ is

      pub refused-17 : is_some r ≡ true → Err NotACycle ≡ answer c
      refused-17 t = rw (s, few h, bodies-tested true t)

      module _ (cycles : is_some r ≡ false) (q : Option ℕ) (f : q ≡ first_such (falling_row y bodies) n) where
        instants-tested : (t : Bool) → is_some q ≡ t → ltb (lowest (bad_instant c) 0 c.count) c.count ≡ t
        instants-tested t is = sym (found-some (bad_instant c) c.count) ∙ ap is_some (sym (f ∙ instants-same)) ∙ is

        pub refused-18 : is_some q ≡ true → Err WrongInstant ≡ answer c
        refused-18 t = rw (s, few h, bodies-tested false cycles) (rw (instants-tested true t))

        pub none-refused : is_some q ≡ false → Ok tt ≡ answer c
        none-refused t =
            let m = many in
            let offsets = le-ltb _ c.count (none-holds (bad_offset c) c.count (λ i b. no_offset i (omega arith))) in
            rw (s, few h, bodies-tested false cycles) (rw (instants-tested false t) (rw offsets))

  -- a year and bodies of which nothing is refused are few
  pub few_cycles : Ok tt ≡ answer c → n ≤ 255
  unfolding is_sized
  few_cycles e = let t = (none-sound c (permitted-none c e)).sized in let m = many in count-few (length (bodies_in bodies)) t m
    where
      count-few : (k : ℕ) → leb k 255 ≡ true → k ≡ n → n ≤ 255
      count-few k t m = let l = leb-true k 255 t in omega arith

-- ---- the promise of the writer
module _ (y : ℕ) (bodies out : List ℕ) where
  abbrev lines : List Line
  lines = write_lines y bodies out

  refused : (r : Refusal) → Err r ≡ permitted lines → WriteAnswers y bodies out out (Err r)
  unfolding write_refusal write_after
  refused r e =
      let n : number_in_papers r ≡ refusal lines = ap number_of e ∙ numbered lines tt in
      record {
        answers = e;
        numbered =
            record {
              answer = n;
              after = sym (refused-is out (book y (bodies_in bodies)) lines (λ z. positive r (n ∙ z)));
              accepted = λ z. absurd (positive r z);
              year_is = λ z. absurd (positive r z);
              cycles_are = λ z. absurd (positive r z);
            };
      }

  pub no_whole : (length bodies % 65536 ≡ 0 → ⊥) → WriteAnswers y bodies out out (Err WrongLength)
  no_whole h = refused WrongLength (rw (ne_eqb (length bodies % 65536) 0 h))

  module _ (n : ℕ) (even : length bodies % 65536 ≡ 0) (count : n ≡ length bodies / 65536) where
    pub whole : length bodies ≡ 65536 * n
    whole = omega arith

    size_is : book_length (length (bodies_in bodies)) ≡ book_length n
    size_is = ap book_length (many y bodies n whole)

    pub no_fit : (r : Bool) → r ≡ eqb (length out) (book_length n) → r ≡ false → WriteAnswers y bodies out out (Err WrongLength)
    no_fit r e f = refused WrongLength (rw (even, size_is, ← e, f))

    module _ (r : Bool) (e : r ≡ eqb (length out) (book_length n)) (t : r ≡ true) where
      pub fits-is : length out ≡ book_length n
      fits-is = eqb-true (length out) (book_length n) (sym e ∙ t)

      answer_is : permitted lines ≡ answer (contents_of y (bodies_in bodies))
      answer_is = rw (even, size_is, ← e, t)

      module _ (a : Result Unit Refusal) (f : a ≡ answer (contents_of y (bodies_in bodies))) where
        pub faulty : (k : Refusal) → a ≡ Err k → WriteAnswers y bodies out out (Err k)
        faulty k z = refused k (sym z ∙ f ∙ sym answer_is)

        pub all-written : (new : List ℕ) → a ≡ Ok tt → new ≡ book y (bodies_in bodies) → WriteAnswers y bodies out new (Ok tt)
        unfolding write_refusal write_after
        all-written new z is =
            let given : Ok tt ≡ permitted lines = sym z ∙ f ∙ sym answer_is in
            let none : refusal lines ≡ 0 = sym (ap number_of given ∙ numbered lines tt) in
            let sound = none-sound (contents_of y (bodies_in bodies)) (permitted-none (contents_of y (bodies_in bodies)) (sym z ∙ f)) in
            record {
              answers = given;
              numbered =
                  record {
                    answer = sym none;
                    after = is ∙ sym (given_is out (book y (bodies_in bodies)) lines none);
                    accepted = λ _. ap view_refusal is ∙ accepted y (bodies_in bodies) sound;
                    year_is = λ _. ap year_said is ∙ year_is y (bodies_in bodies) sound;
                    cycles_are = λ _. ap cycles_of is ∙ cycles_are y (bodies_in bodies) sound;
                  };
            }
