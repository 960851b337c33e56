-- What a call in place promises, said of what crosses. Assumes nothing.
use mathlib.Core.Path.{◌≡◌, refl, sym, ap, ◌∙◌}
use mathlib.Core.Bool.{Bool, true, false, ◌&&◌}
use mathlib.Core.List.{List, [], ◌∷◌}
use Prim.Native.Nat.{ℕ, ◌≤◌, ◌<◌}
use native.Mathlib.Omega.{arith}
use borrow.Author.Tests.{ne_eqb}
use Rattle.std.specs.Prelude.{Result, Ok, Err}
use Rattle.base.specs.declared.refusal.Refusal.{Refusal}
use Rattle.base.specs.Refusals.{number, number_of}
use Rattle.base.proofs.Lines.{positive}
use Rattle.base.specs.Lists.{one}
use Rattle.labelling.specs.declared.Tally.{Tally}
use Rattle.labelling.specs.Votes.{rule_vote}
use Rattle.labelling.specs.Operators.{on_duty}
use Rattle.labelling.specs.Machine.{state_of, with_operators}
use Rattle.labelling.specs.Order.{in_order}
use Rattle.labelling.specs.Once.{FreshPromise}
use Rattle.labelling.specs.Calls.{TakeCall, answer, duty_answer, duty_refusal}
use Rattle.labelling.proofs.CallLaws.{duty_not_in_order, no_such_operator, duty_no_refusal, duty_accepted}
use Rattle.own_sync.proofs.Locks.{up_all}
use Rattle.reader.specs.Shapes.{part_of}
use Rattle.tally_numbers.specs.Numbers.{is_tally, tally_of, operators_of, numbers_of}
use Rattle.tally_numbers.proofs.Numbers.{layout}
use Rattle.in_place.specs.declared.Part.{Part}
use Rattle.in_place.specs.Places.{InPlace}
use Rattle.crossing.specs.Crossing.{Lent, lent, call_of, written, take_refused, take_leaves, TakeCrossed, FreshCrossed}
use Rattle.crossing.specs.Crossing.{Places, duty_call_of, tally_places, duty_refused, duty_leaves, DutyCrossed}

pub fresh-crossed : {rule n : ℕ} {t : Tally} → FreshPromise rule n t → FreshCrossed rule n (numbers_of t) t.frame
fresh-crossed p = record {
  refusal_is = p.refusal_is;
  numbers_is = ap numbers_of p.is_fresh;
  frame_is = ap (λ (t : Tally). t.frame) p.is_fresh;
  layout = layout;
}

module _ (l : Lent) (piece : List ℕ) where
  -- what is left by a call that is not refused, and by one that is
  left-written : take_refused l piece ≡ 0 → written (answer (call_of l piece)) ≡ take_leaves l piece
  unfolding take_leaves
  left-written z = rw z

  left-as_lent : (take_refused l piece ≡ 0 → ⊥) → l ≡ take_leaves l piece
  unfolding take_leaves
  left-as_lent h = rw (ne_eqb (take_refused l piece) 0 h)

  -- the call in place
  module _ (r : Result Part Refusal) (numbers frame area : List ℕ) (p : InPlace false (call_of l piece) l.numbers r numbers frame area) where
    refusal-crossed : number_of r ≡ take_refused l piece
    unfolding take_refused
    refusal-crossed = go (is_tally l.numbers) refl
      where
        go : (b : Bool) → is_tally l.numbers ≡ b → number_of r ≡ take_refused l piece
        go true e = rw e (p.refusal_is e)
        go false e = rw e (p.no_tally e)

  -- no lock stops it, so that the part is the piece
  whole : part_of false (call_of l piece) ≡ call_of l piece
  whole = let c = call_of l piece in rw (up_all (rule_vote c.tally.rule) piece (state_of c.tally) c.area)

  pub accepted-crossed : (r : Part) (numbers frame area : List ℕ) → InPlace false (call_of l piece) l.numbers (Ok r) numbers frame area
      → (complete : ℕ) → complete ≡ one r.complete → TakeCrossed l piece 0 (lent numbers frame area (r.taken ∷ complete ∷ []))
  accepted-crossed r numbers frame area p complete b =
      let left = p.accepted refl in
      let told = refusal-crossed (Ok r) numbers frame area p in
      record {
        refusal_is = told;
        left_is =
            rw (b, left.numbers_is, left.frame_is, left.area_is, left.taken_is, left.complete_is)
            (ap (λ (d : TakeCall). written (answer d)) whole ∙ left-written (sym told));
      }

  pub refused-crossed : (e : Refusal) (numbers frame area : List ℕ) → InPlace false (call_of l piece) l.numbers (Err e) numbers frame area
      → TakeCrossed l piece (number e) (lent numbers frame area l.answer)
  refused-crossed e numbers frame area p =
      let kept = p.refused (positive e) in
      let told = refusal-crossed (Err e) numbers frame area p in
      record {
        refusal_is = told;
        left_is = rw (kept.numbers_kept, kept.frame_kept, kept.area_kept) (left-as_lent (λ z. positive e (told ∙ z)));
      }

-- ---- a call that names an operator

module _ (l : Places) (k : ℕ) where
  changed_written : duty_refused l k ≡ 0 → tally_places (duty_answer (duty_call_of l k)) ≡ duty_leaves l k
  unfolding duty_leaves
  changed_written z = rw z

  unchanged : (duty_refused l k ≡ 0 → ⊥) → l ≡ duty_leaves l k
  unfolding duty_leaves
  unchanged h = rw (ne_eqb (duty_refused l k) 0 h)

  pub duty_not_ordered : (is_tally l.numbers && in_order (tally_of l.numbers l.frame)) ≡ false → DutyCrossed l k 1 l
  unfolding duty_refused
  duty_not_ordered e = record { refusal_is = sym number; left_is = unchanged (λ z. omega (arith, number)) }
    where
      number : duty_refused l k ≡ 1
      number = go (is_tally l.numbers) refl
        where
          go : (b : Bool) → is_tally l.numbers ≡ b → duty_refused l k ≡ 1
          go true t = rw t (duty_not_in_order (tally_of l.numbers l.frame) k (rw t at e))
          go false t = rw t

  -- past the test of the order
  module _ (e : is_tally l.numbers ≡ true) (o : in_order (tally_of l.numbers l.frame) ≡ true) where
    refusal-of : duty_refused l k ≡ duty_refusal (duty_call_of l k)
    unfolding duty_refused
    refusal-of = rw e

    pub duty_no_operator : 7 < k → DutyCrossed l k 14 l
    duty_no_operator h =
        let number : duty_refused l k ≡ 14 = refusal-of ∙ no_such_operator (tally_of l.numbers l.frame) k o h in
        record { refusal_is = sym number; left_is = unchanged (λ z. omega (arith, number)) }

    pub duty_changed : k ≤ 7 → (t : Tally) → t ≡ with_operators (on_duty k (operators_of l.numbers)) (tally_of l.numbers l.frame)
        → DutyCrossed l k 0 (tally_places t)
    duty_changed h t same =
        let accepted : duty_refusal (duty_call_of l k) ≡ 0 = duty_no_refusal (tally_of l.numbers l.frame) k o h in
        let number : duty_refused l k ≡ 0 = refusal-of ∙ accepted in
        record {
          refusal_is = sym number;
          left_is = ap tally_places (same ∙ sym (duty_accepted (duty_call_of l k) accepted)) ∙ changed_written number;
        }
