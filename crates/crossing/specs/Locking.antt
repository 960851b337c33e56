-- A call that also stops where a hunt ends, as it crosses. Definitions only.
use Rattle.std.specs.Prelude.{◌≡◌, cond, List, [], ◌∷◌, ℕ, ◌-◌, eqb}
use Rattle.base.specs.Lists.{one}
use Rattle.labelling.specs.Calls.{TakeCall, answer}
use Rattle.own_sync.specs.Locks.{locks, to_lock}
use Rattle.tally_numbers.specs.Numbers.{numbers_of}
use Rattle.crossing.specs.Crossing.{Lent, lent, call_of, take_refused}

-- the answer as it crosses, of the part of the piece as far as a lock: the tally, the area, the bytes taken, whether a major frame is complete, and
-- whether a hunt has ended: of the hunts that have ended there is one more, or none
abbrev pub lock_written : TakeCall → Lent
lock_written c =
    let a = answer (to_lock c) in
    lent (numbers_of a.tally) a.tally.frame a.area
    (a.taken ∷ one a.complete ∷ (locks a.tally.framing - locks c.tally.framing) ∷ [])

-- what is left: that answer; and after a refusal, which is on the whole piece, all as it was
unfoldable pub lock_leaves : Lent → List ℕ → Lent
lock_leaves l piece = cond (eqb (take_refused l piece) 0) (lock_written (call_of l piece)) l

-- `take_to_lock` of a piece, with these places lent, returns r and leaves them so
pub record LockCrossed (l : Lent) (piece : List ℕ) (r : ℕ) (left : Lent) : Type 0 where
  pub refusal_is : r ≡ take_refused l piece
  pub left_is : left ≡ lock_leaves l piece
