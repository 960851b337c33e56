-- What a step in place promises, said of what crosses; and its calls, as those of `relocking`. Assumes nothing.
use mathlib.Core.Path.{◌≡◌, refl, sym, ap, ◌∙◌}
use mathlib.Core.Bool.{Bool, true, ◌||◌}
use mathlib.Core.List.{List, [], ◌∷◌}
use Prim.Native.Nat.{ℕ}
use Rattle.std.specs.Prelude.{Result, Ok, Err}
use borrow.Author.Tests.{ne_eqb}
use Rattle.base.specs.Lists.{one}
use Rattle.base.specs.declared.refusal.Refusal.{Refusal}
use Rattle.base.specs.Refusals.{number, number_of}
use Rattle.base.proofs.Lines.{positive}
use Rattle.labelling.specs.Calls.{TakeCall, take_refusal, answer}
use Rattle.own_sync.specs.Locks.{to_lock}
use Rattle.own_sync.specs.Relocking.{locked}
use Rattle.relocking.specs.declared.Feeder.{Feeder}
use Rattle.relocking.specs.declared.Relocked.{Relocked}
use Rattle.relocking.specs.Relock.{Move, move, moved, area_moved, ReadsOn, RelockPromise}
use Rattle.relocking.proofs.Relocking.{locked-so, called-so}
use Rattle.tally_numbers.specs.Numbers.{is_tally, tally_of}
use Rattle.in_place.specs.declared.Locked.{Locked}
use Rattle.in_place.specs.Places.{call_in, locked_of, LockedInPlace}
use Rattle.relock_crossing.specs.declared.Step.{Step}
use Rattle.relock_crossing.specs.Relocking.{LentFeeder, lent_feeder, feeder_in, relock_refused, step_written, relock_leaves}
use Rattle.relock_crossing.specs.Relocking.{RelockCrossed, step_made, relocked_of, Moves, StepCrossed}

module _ (l : LentFeeder) (piece : List ℕ) (ends : Bool) where
  abbrev f : Feeder
  f = feeder_in l

  abbrev m : Move
  m = move f piece ends

  -- what is left by a step that is not refused, and by one that is
  step_written_lem : relock_refused l piece ≡ 0 → step_written (moved m f piece l.area) (area_moved m f piece l.area) ≡ relock_leaves l piece ends
  unfolding relock_leaves
  step_written_lem z = rw z

  step_as_lent : (relock_refused l piece ≡ 0 → ⊥) → l ≡ relock_leaves l piece ends
  unfolding relock_leaves
  step_as_lent h = rw (ne_eqb (relock_refused l piece) 0 h)

  -- the step in place
  step_refusal : (s : Result Step Refusal) (numbers frame area : List ℕ)
      → StepCrossed l.numbers l.frame l.feeder piece ends l.area s numbers frame area → number_of s ≡ relock_refused l piece
  unfolding relock_refused
  step_refusal s numbers frame area p = p.refusal_is

  pub step_accepted : (s : Step) (numbers frame area : List ℕ) → StepCrossed l.numbers l.frame l.feeder piece ends l.area (Ok s) numbers frame area
      → (awaits complete more : ℕ) → awaits ≡ one s.awaits → complete ≡ one s.complete → more ≡ one s.more
      → RelockCrossed l piece ends 0 (lent_feeder numbers frame (awaits ∷ s.handed ∷ []) area (s.taken ∷ complete ∷ more ∷ []))
  step_accepted s numbers frame area p awaits complete more w c o =
      let moves = p.accepted refl in
      let q = moves.promised in
      let told = step_refusal (Ok s) numbers frame area p in
      record {
        refusal_is = told;
        left_is =
            rw (w, c, o, moves.holds.numbers_is, moves.holds.frame_is)
            (ap (λ (x : Relocked). step_written x area) (q.answer_is refl)
            ∙ ap (λ (x : List ℕ). step_written (moved m f piece l.area) x) (q.area_is refl) ∙ step_written_lem (sym told));
      }

  pub step_refused : (e : Refusal) (numbers frame area : List ℕ) → StepCrossed l.numbers l.frame l.feeder piece ends l.area (Err e) numbers frame area
      → RelockCrossed l piece ends (number e) (lent_feeder numbers frame l.feeder area l.answer)
  step_refused e numbers frame area p =
      let kept = p.refused (positive e) in
      let told = step_refusal (Err e) numbers frame area p in
      record { refusal_is = told; left_is = rw (kept.0, kept.1, kept.2) (step_as_lent (λ z. positive e (told ∙ z))) }

-- ---- a call of an accepted step

module _ (n frame old part : List ℕ) (awaits : Bool) (handed : ℕ) where
  abbrev c : TakeCall
  c = call_in n frame part old

  abbrev before : Feeder
  before = record { tally = tally_of n frame; awaits = awaits; handed = handed }

  module _ (e : take_refusal c ≡ 0) (t : is_tally n ≡ true) (r : Locked) (numbers left new : List ℕ)
      (q : LockedInPlace c n (Ok r) numbers left new) where
    pub reads_so : (waits : Bool) → ReadsOn before part waits old (relocked_of (step_made r waits handed) (answer (to_lock c)).tally) new
    reads_so waits =
        let p = q.promised refl in
        called-so c e (locked_of c r) new p (waits || r.locked) (waits || locked c) handed
        (ap (λ (x : Bool). waits || x) (locked-so c e (locked_of c r) new p))

    pub moves_so : (waits : Bool) (piece : List ℕ) (ends : Bool)
        → RelockPromise before piece ends old (Ok (relocked_of (step_made r waits handed) (answer (to_lock c)).tally)) new
        → Moves before piece ends old (step_made r waits handed) numbers left new
    moves_so waits piece ends p =
        let kept = q.in_place.accepted refl in
        record {
          tally = (answer (to_lock c)).tally;
          holds = record { numbers_is = kept.numbers_is; frame_is = kept.frame_is };
          promised = p;
        }
