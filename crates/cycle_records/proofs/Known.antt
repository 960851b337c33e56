-- What is known of a cycle that is not refused, and of an instant that is one of its year. Assumes nothing.
use Rattle.std.proofs.Common.{◌≡◌, sym, ◌∙◌, Bool, true, not, List, [], ◌∷◌, ℕ, ◌+◌, ◌*◌, ◌≤◌, Result, Ok, Err, IsErrAnd, length}
use borrow.Author.Tests.{eqb-true, leb-true, not-false}
use Rattle.base.specs.declared.refusal.Refusal.{Refusal}
use Rattle.base.specs.declared.refusal.Refusal.TheVariants.{TimeOutOfRange}
use Rattle.base.specs.Refusals.{Line, ◌when◌, answered, permitted}
use Rattle.base.proofs.Lines.{NoneHolds, ok-none, answered-append}
use Rattle.cycle.specs.Cycle.{is_cycle, instant_of}
use Rattle.time_code.specs.Calendar.{in_span}
use Rattle.cycle_records.specs.Instants.{record_instant, is_writable}
use Rattle.cycle_records.specs.Lines.{cycle_lines, dated_lines}
use Rattle.cycle_records.proofs.Instants.{in_step}
use Rattle.cycle_records.proofs.Refusals.{refused-first, left_over}

module _ (body : List ℕ) (y k : ℕ) where
  pub record Cycle : Type 0 where
    pub sized : length body ≡ 65536
    pub in_span_fact : in_span y ≡ true
    pub frame : k ≤ 3
    pub is_cycle_fact : is_cycle y body ≡ true

  none-cycle : NoneHolds (cycle_lines body y k) → Cycle
  none-cycle none =
      let years = none.1 in
      let frames = years.1 in
      let cycles = frames.1 in
      record {
        sized = eqb-true _ _ (not-false _ none.0);
        in_span_fact = not-false _ years.0;
        frame = leb-true _ _ (not-false _ frames.0);
        is_cycle_fact = not-false _ cycles.0;
      }

  pub to-cycle : {u : Unit {0}} → permitted (cycle_lines body y k) ≡ Ok u → Cycle
  to-cycle e = none-cycle (ok-none (cycle_lines body y k) tt _ e).0

  -- ---- the instant
  abbrev pub i : ℕ
  i = record_instant (instant_of y body) k

  -- as it is answered
  abbrev pub instant_answer : Result ℕ Refusal
  instant_answer = answered Err (dated_lines body y k) (Ok i)

  abbrev late : List Line
  late = TimeOutOfRange when not (is_writable y i) ∷ []

  joined : answered Err (cycle_lines body y k) (answered Err late (Ok i)) ≡ instant_answer
  joined = sym (answered-append Err (cycle_lines body y k) late (Ok i))

  module _ (p : Result Unit Refusal) (is : p ≡ permitted (cycle_lines body y k)) where
    pub dated_first : (r : Refusal) (out : Result ℕ Refusal) → p ≡ Err r → IsErrAnd out (λ (s : Refusal). s ≡ r) → out ≡ instant_answer
    dated_first r out e h = refused-first (cycle_lines body y k) tt (answered Err late (Ok i)) r out (sym is ∙ e) h ∙ joined

    pub dated_last : (t : ℕ) (b : Bool) → p ≡ Ok tt → t ≡ i → b ≡ is_writable y i
        → answered Err (TimeOutOfRange when not b ∷ []) (Ok t) ≡ instant_answer
    dated_last t b e f g = rw (g, f) (left_over (cycle_lines body y k) tt (answered Err late (Ok i)) tt (sym is ∙ e) ∙ joined)

  -- what is known where one is given
  pub record Dated (t : ℕ) : Type 0 where
    pub cycle : Cycle
    pub none : NoneHolds (dated_lines body y k)
    pub is : i ≡ t
    pub writable : is_writable y i ≡ true
    pub in_step_fact : i + 131072 ≡ instant_of y body + 65536 * k

  pub to-dated : (t : ℕ) → instant_answer ≡ Ok t → Dated t
  to-dated t e =
      let given = ok-none (dated_lines body y k) i t e in
      let years = given.0.1 in
      let frames = years.1 in
      let cycles = frames.1 in
      let days = cycles.1 in
      let known = none-cycle (given.0.0, (years.0, (frames.0, (cycles.0, tt)))) in
      record {
        cycle = known;
        none = given.0;
        is = given.1;
        writable = not-false _ days.0;
        in_step_fact = in_step (instant_of y body) y k known.frame (not-false _ days.0);
      }
