-- What a call in place that also stops where a hunt ends promises, said of what crosses. Assumes nothing.
use mathlib.Core.Path.{◌≡◌, refl, sym, ◌∙◌}
use mathlib.Core.Bool.{Bool, true, false}
use mathlib.Core.List.{List, [], ◌∷◌}
use Prim.Native.Nat.{ℕ, ◌-◌}
use native.Mathlib.Omega.{arith}
use borrow.Author.Tests.{ne_eqb}
use Rattle.std.specs.Prelude.{Result, Ok, Err}
use Rattle.base.specs.declared.refusal.Refusal.{Refusal}
use Rattle.base.specs.Refusals.{number, number_of}
use Rattle.base.proofs.Lines.{positive}
use Rattle.base.specs.Lists.{one}
use Rattle.labelling.specs.Calls.{answer}
use Rattle.own_sync.specs.Locks.{locks, to_lock}
use Rattle.tally_numbers.specs.Numbers.{is_tally}
use Rattle.in_place.specs.declared.Locked.{Locked}
use Rattle.in_place.specs.Places.{LockedInPlace}
use Rattle.crossing.specs.Crossing.{Lent, lent, call_of, take_refused}
use Rattle.crossing.specs.Locking.{lock_written, lock_leaves, LockCrossed}

module _ (l : Lent) (piece : List ℕ) where
  -- what is left by a call that is not refused, and by one that is
  lock_written_lem : take_refused l piece ≡ 0 → lock_written (call_of l piece) ≡ lock_leaves l piece
  unfolding lock_leaves
  lock_written_lem z = rw z

  lock_as_lent : (take_refused l piece ≡ 0 → ⊥) → l ≡ lock_leaves l piece
  unfolding lock_leaves
  lock_as_lent h = rw (ne_eqb (take_refused l piece) 0 h)

  -- the call in place
  refusal-crossed : (r : Result Locked Refusal) (numbers frame area : List ℕ) → LockedInPlace (call_of l piece) l.numbers r numbers frame area
      → number_of r ≡ take_refused l piece
  unfolding take_refused
  refusal-crossed (Ok r) numbers frame area q = go (is_tally l.numbers) refl
    where
      go : (b : Bool) → is_tally l.numbers ≡ b → 0 ≡ take_refused l piece
      go true e = rw e (q.in_place.refusal_is e)
      go false e = rw e (q.in_place.no_tally e)
  refusal-crossed (Err x) numbers frame area q = go (is_tally l.numbers) refl
    where
      go : (b : Bool) → is_tally l.numbers ≡ b → number x ≡ take_refused l piece
      go true e = rw e (q.in_place.refusal_is e)
      go false e = rw e (q.in_place.no_tally e)

  pub lock_accepted : (r : Locked) (numbers frame area : List ℕ) → LockedInPlace (call_of l piece) l.numbers (Ok r) numbers frame area
      → (complete locked : ℕ) → complete ≡ one r.part.complete → locked ≡ one r.locked
      → LockCrossed l piece 0 (lent numbers frame area (r.part.taken ∷ complete ∷ locked ∷ []))
  lock_accepted r numbers frame area q complete locked b k =
      let left = q.in_place.accepted refl in
      let told = refusal-crossed (Ok r) numbers frame area q in
      let c = call_of l piece in
      let ended : locked ≡ locks (answer (to_lock c)).tally.framing - locks c.tally.framing = omega (arith, (q.promised refl).locked-is, k) in
      record {
        refusal_is = told;
        left_is = rw (b, ended, left.numbers_is, left.frame_is, left.area_is, left.taken_is, left.complete_is) (lock_written_lem (sym told));
      }

  pub lock_refused : (e : Refusal) (numbers frame area : List ℕ) → LockedInPlace (call_of l piece) l.numbers (Err e) numbers frame area
      → LockCrossed l piece (number e) (lent numbers frame area l.answer)
  lock_refused e numbers frame area q =
      let kept = q.in_place.refused (positive e) in
      let told = refusal-crossed (Err e) numbers frame area q in
      record {
        refusal_is = told;
        left_is = rw (kept.numbers_kept, kept.frame_kept, kept.area_kept) (lock_as_lent (λ z. positive e (told ∙ z)));
      }
