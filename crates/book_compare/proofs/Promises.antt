-- What `compare` promises on each way out. The promise is proved once, of an answer and a table that are the definition's; each way out then shows
-- only that its tests are lines of the refusal table, in the table's order. Assumes nothing.
use Rattle.std.proofs.Common.{◌≡◌, refl, sym, ap, ◌∙◌, Bool, not, List, [], ◌∷◌, ◌++◌, map, ℕ, zero, suc, ◌+◌, ◌-◌, ◌≤◌, eqb, length, Result, Ok, Err}
use native.Mathlib.Omega.{arith}
use borrow.Author.Tests.{not-false, eq-eqb, ne_eqb, eqb-true}
use Rattle.base.specs.declared.refusal.Refusal.{Refusal}
use Rattle.base.specs.declared.refusal.Refusal.TheVariants.{WrongLength, YearsDiffer}
use Rattle.base.specs.Ranges.{tabulate}
use Rattle.base.specs.Refusals.{Line, ◌when◌, answered, refusal}
use Rattle.base.proofs.Numbers.{Bytes}
use Rattle.base.proofs.Lines.{NoneHolds, answered-of, answered-append, answered-given, ok-none}
use Rattle.book.specs.Layout.{book, cycles_said, year_said, body_at, cycles_of}
use Rattle.book.specs.Faults.{accepted, view_refusal}
use Rattle.book.specs.Header.{year_of}
use Rattle.book.proofs.Answered.{stops, passes, none-of, of_none, none-both, none-each}
use Rattle.book.proofs.Ways.{accepted-none}
use Rattle.book_check.proofs.Wholes.{is_book}
use Rattle.book_compare.specs.Differences.{Cycle, cycle_at, cycles_in, Difference, Lists}
use Rattle.book_compare.specs.Answer.{faults_of, compare_lines, listed, values_of}
use Rattle.book_compare.specs.Merge.{merged, cycles_from, merged_from, Placed, PutPromise}
use Rattle.book_compare.specs.Promise.{SameBooks, ComparePromise}
use Rattle.book.proofs.Headers.{year_is}
use Rattle.book.proofs.Holding.{has_size_lem}
use Rattle.book_parts.proofs.Held.{entered, body-length}
use Rattle.book_compare.proofs.Rising.{instants-rise}
use Rattle.book_compare.proofs.Listing.{listed-right, listed-rises, one_list}
use Rattle.book_compare.proofs.Merging.{AllWide, same-cycles, self_none}

-- ---- the cycles of an accepted book
from_start : (b : List ℕ) → cycles_from b 0 ≡ cycles_in b
from_start b = let z : cycles_said b - 0 ≡ cycles_said b = omega arith in ap (λ (n : ℕ). tabulate (cycle_at b) 0 n) z

all-wide : (b : List ℕ) → view_refusal b ≡ 0 → AllWide (cycles_in b)
all-wide b accepted = from-entry 0 (cycles_said b) (omega arith)
  where
    from-entry : (i n : ℕ) → i + n ≤ cycles_said b → AllWide (tabulate (cycle_at b) i n)
    from-entry i zero h = tt
    from-entry i (suc n) h = (body-length b i (entered b accepted i (omega arith)), from-entry (suc i) n (omega arith))

bodies_of : (b : List ℕ) → cycles_of b ≡ map (λ (c : Cycle). c.body) (cycles_in b)
unfolding cycles_of
bodies_of b = from-entry 0 (cycles_said b)
  where
    from-entry : (i n : ℕ) → tabulate (body_at b) i n ≡ map (λ (c : Cycle). c.body) (tabulate (cycle_at b) i n)
    from-entry i zero = refl
    from-entry i (suc n) = ap (λ (r : List (List ℕ)). body_at b i ∷ r) (from-entry (suc i) n)

no_lines : (ls : List Difference) → length ls ≡ 0 → ls ≡ []
no_lines [] e = refl
no_lines (l ∷ ls) e = absurd (omega arith)

module _ (a b : List ℕ) where
  abbrev pub differences : List Difference
  differences = merged (cycles_in a) (cycles_in b)

  pub whole-merge : merged_from a b 0 0 ≡ differences
  whole-merge = rw (from_start a, from_start b)

  lists : view_refusal a ≡ 0 → view_refusal b ≡ 0 → Lists a b differences
  lists va vb =
      let ra = instants-rise a va in
      let rb = instants-rise b vb in
      record { rises = listed-rises (cycles_in a) (cycles_in b) ra rb; each = λ t. listed-right t (cycles_in a) (cycles_in b) ra rb }

  -- an accepted book is its year and its cycles
  same_books : Bytes a → Bytes b → view_refusal a ≡ 0 → view_refusal b ≡ 0 → year_said a ≡ year_said b → differences ≡ [] → a ≡ b
  same_books ba bb va vb years none =
      let cycles = same-cycles (cycles_in a) (cycles_in b) (all-wide a va) (all-wide b vb) none in
      let bodies : cycles_of a ≡ cycles_of b = bodies_of a ∙ ap (map (λ (c : Cycle). c.body)) cycles ∙ sym (bodies_of b) in
      is_book a va ba ∙ ap (λ (y : ℕ). book y (cycles_of a)) years ∙ ap (book (year_said b)) bodies ∙ sym (is_book b vb bb)

-- two accepted books have their lengths, and all of their cycles are to come
pub placed_first : (a b : List ℕ) → view_refusal a ≡ 0 → view_refusal b ≡ 0 → Placed a b 0 0
placed_first a b va vb = record {
  first_sized = has_size_lem a va;
  second_sized = has_size_lem b vb;
  first_within = omega arith;
  second_within = omega arith;
}

-- ---- where nothing is refused
record Clear (a b table : List ℕ) : Type 0 where
  fits : length table ≡ 1530
  first : view_refusal a ≡ 0
  second : view_refusal b ≡ 0
  years : year_said a ≡ year_said b

module _ (a b table : List ℕ) where
  abbrev lines : List Line
  lines = compare_lines a b table

  abbrev years_line : List Line
  years_line = YearsDiffer when not (eqb (year_said a) (year_said b)) ∷ []

  clear_none : Clear a b table → NoneHolds lines
  unfolding view_refusal
  clear_none c = (
    ap not (eq-eqb (length table) 1530 c.fits),
    none-both (faults_of a) (faults_of b ++ years_line) (none-of (faults_of a) c.first)
        (none-both (faults_of b) years_line (none-of (faults_of b) c.second) (ap not (eq-eqb (year_said a) (year_said b) c.years), tt)),
  )

  none-clear : NoneHolds lines → Clear a b table
  unfolding view_refusal
  none-clear n =
      let after-first = none-each (faults_of a) (faults_of b ++ years_line) n.1 in
      let after-second = none-each (faults_of b) years_line after-first.1 in
      record {
        fits = eqb-true _ _ (not-false _ n.0);
        first = of_none (faults_of a) after-first.0;
        second = of_none (faults_of b) after-second.0;
        years = eqb-true _ _ (not-false _ after-second.1.0);
      }

  unrefused : refusal lines ≡ 0 → Clear a b table
  unrefused z = none-clear (none-of lines z)

  -- ---- the promise, of an answer and a table that are the definition's
  module _ (ba : Bytes a) (bb : Bytes b) (new : List ℕ) (r : Result ℕ Refusal) (answer : r ≡ answered Err lines (Ok (length (differences a b))))
      (after : new ≡ answered (λ k. table) lines (listed (differences a b) table)) where
    no_line : r ≡ Ok 0 → SameBooks a b
    no_line e =
        let out = ok-none lines (length (differences a b)) 0 (sym answer ∙ e) in
        let c = none-clear out.0 in
        record {
          first_accepted = c.first;
          second_accepted = c.second;
          equal = same_books a b ba bb c.first c.second c.years (no_lines (differences a b) out.1);
        }

    same-given : length table ≡ 1530 → SameBooks a b → r ≡ Ok 0
    same-given fits s =
        let c : Clear a b table = record { fits = fits; first = s.first_accepted; second = s.second_accepted; years = ap year_said s.equal } in
        let none : differences a b ≡ [] = ap (λ (l : List ℕ). merged (cycles_in a) (cycles_in l)) (sym s.equal) ∙ self_none (cycles_in a) in
        answer ∙ answered-given Err lines (Ok (length (differences a b))) (clear_none c) ∙ ap (λ (ls : List Difference). Ok (length ls)) none

    pub promised : ComparePromise a b table new r
    promised = record {
      differences = differences a b;
      are = λ z. let c = unrefused z in lists a b c.first c.second;
      no_other = λ z ls l.
          let c = unrefused z in
          let own = lists a b c.first c.second in
          one_list ls (differences a b) l.rises own.rises (λ t. l.each t ∙ sym (own.each t));
      answer = answer;
      told = ap values_of answer ∙ answered-of values_of Err lines (Ok (length (differences a b)));
      after = after;
      none_same = no_line;
      same_none = same-given;
    }

  -- ---- the ways out, whatever is made of a refusal
  module _ (fits : length table ≡ 1530) {A : Type 0} (refused : Refusal → A) (given : A) where
    past_table : answered refused lines given ≡ answered refused (faults_of a ++ (faults_of b ++ years_line)) given
    past_table = rw (eq-eqb (length table) 1530 fits)

    first-stops : (k : Refusal) → accepted a ≡ Err k → answered refused lines given ≡ refused k
    unfolding accepted
    first-stops k e =
        past_table ∙ answered-append refused (faults_of a) (faults_of b ++ years_line) given ∙ stops (faults_of a) tt k e refused _

    module _ (va : accepted a ≡ Ok tt) where
      past_first : answered refused lines given ≡ answered refused (faults_of b ++ years_line) given
      unfolding accepted
      past_first =
          past_table ∙ answered-append refused (faults_of a) (faults_of b ++ years_line) given ∙ passes (faults_of a) tt tt va refused _

      second-stops : (k : Refusal) → accepted b ≡ Err k → answered refused lines given ≡ refused k
      unfolding accepted
      second-stops k e = past_first ∙ answered-append refused (faults_of b) years_line given ∙ stops (faults_of b) tt k e refused _

      module _ (vb : accepted b ≡ Ok tt) where
        past_both : answered refused lines given ≡ answered refused years_line given
        unfolding accepted
        past_both = past_first ∙ answered-append refused (faults_of b) years_line given ∙ passes (faults_of b) tt tt vb refused _

        years-stop : (year_said a ≡ year_said b → ⊥) → answered refused lines given ≡ refused YearsDiffer
        years-stop h = past_both ∙ rw (ne_eqb (year_said a) (year_said b) h)

        years_pass : year_said a ≡ year_said b → answered refused lines given ≡ given
        years_pass e = past_both ∙ rw (eq-eqb (year_said a) (year_said b) e)

  module _ (ba : Bytes a) (bb : Bytes b) where
    pub wrong-table : (length table ≡ 1530 → ⊥) → ComparePromise a b table table (Err WrongLength)
    wrong-table h = let e = ne_eqb (length table) 1530 h in promised ba bb table (Err WrongLength) (rw e) (rw e)

    module _ (fits : length table ≡ 1530) where
      pub first-faulty : (k : Refusal) → accepted a ≡ Err k → ComparePromise a b table table (Err k)
      first-faulty k e =
          promised ba bb table (Err k) (sym (first-stops fits Err _ k e)) (sym (first-stops fits (λ n. table) _ k e))

      module _ (va : accepted a ≡ Ok tt) where
        pub second-faulty : (k : Refusal) → accepted b ≡ Err k → ComparePromise a b table table (Err k)
        second-faulty k e =
            promised ba bb table (Err k) (sym (second-stops fits Err _ va k e)) (sym (second-stops fits (λ n. table) _ va k e))

        module _ (vb : accepted b ≡ Ok tt) (y z : ℕ) (ey : y ≡ year_of a) (ez : z ≡ year_of b) where
          first-year : y ≡ year_said a
          first-year = year_is a (has_size_lem a (accepted-none a va)) y ey

          second-year : z ≡ year_said b
          second-year = year_is b (has_size_lem b (accepted-none b vb)) z ez

          pub other-years : (y ≡ z → ⊥) → ComparePromise a b table table (Err YearsDiffer)
          other-years h =
              let n = λ (e : year_said a ≡ year_said b). h (first-year ∙ e ∙ sym second-year) in
              promised ba bb table (Err YearsDiffer) (sym (years-stop fits Err _ va vb n)) (sym (years-stop fits (λ k. table) _ va vb n))

          pub lines-put : (n : ℕ) (new : List ℕ) → y ≡ z → PutPromise a b table new n → ComparePromise a b table new (Ok n)
          lines-put n new h p =
              let same = sym first-year ∙ h ∙ second-year in
              promised ba bb new (Ok n)
              (ap Ok (p.count ∙ ap length (whole-merge a b)) ∙ sym (years_pass fits Err _ va vb same))
              (p.after ∙ ap (λ (ls : List Difference). listed ls table) (whole-merge a b) ∙ sym (years_pass fits (λ k. table) _ va vb same))
