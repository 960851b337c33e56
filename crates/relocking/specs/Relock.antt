-- What a step that locks on a frame's own sync promises. Definitions only.
use Rattle.std.specs.Prelude.{◌≡◌, Bool, true, false, cond, ◌&&◌, ◌||◌, not, List, [], ◌∷◌, ℕ, suc, ◌+◌, ◌/◌, ◌^◌, ◌≤◌, ◌<◌, eqb, leb, ltb, length, get_or, take, Result}
use Rattle.base.specs.Format.{SYNC, sync_word, major_frame}
use Rattle.base.specs.declared.refusal.Refusal.{Refusal}
use Rattle.base.specs.declared.refusal.Refusal.TheVariants.{NotInOrder, WrongLength, TooManyBytes}
use Rattle.base.specs.Refusals.{◌when◌, refusal, number_of, given_or}
use Rattle.labelling.specs.declared.Tally.{Tally}
use Rattle.labelling.specs.Words.{Vote}
use Rattle.labelling.specs.Votes.{rule_vote}
use Rattle.labelling.specs.MinorFrames.{is_word}
use Rattle.labelling.specs.Machine.{fresh}
use Rattle.labelling.specs.Order.{in_order}
use Rattle.labelling.specs.Calls.{TakeCall, take_refusal, answer, Call, paid}
use Rattle.own_sync.specs.Locks.{to_lock}
use Rattle.own_sync.specs.Relocking.{locked, awaits_after, lead_in, after_lead_in, Relocked as RelockedCalls}
use Rattle.reader.specs.Shapes.{call_of}
use Rattle.relocking.specs.declared.Feeder.{Feeder}
use Rattle.relocking.specs.declared.Relocked.{Relocked}

-- ---- a feeder, and when a step is refused

-- a reel begins with the fresh tally of a rule, at no lock
abbrev pub beginning : ℕ → Feeder
beginning rule = record { tally = fresh rule; awaits = false; handed = 0 }

-- a lock that awaits its word stands before place 0, and outside a group
abbrev pub stands_at_lock : Tally → Bool
stands_at_lock t = not t.framing.hunting && eqb t.framing.placed 0 && eqb t.groups.«open» 0

-- the tally is in order, a lock that awaits its word is one, and the tally's bytes have room for the lead-ins
unfoldable pub feeder_in_order : Feeder → Bool
feeder_in_order f = in_order f.tally && (not f.awaits || stands_at_lock f.tally) && leb f.handed (f.tally.groups.bytes / 12)

-- the lengths of the piece and of the area; after the whole piece a lead-in must still fit into 2^40
unfoldable pub relock_refusal : Feeder → ℕ → ℕ → ℕ
relock_refusal f piece area =
    refusal
    (NotInOrder when not (feeder_in_order f) ∷ WrongLength when not (eqb area major_frame)
    ∷ TooManyBytes when ltb (2 ^ 40) (f.tally.groups.bytes + piece + 12) ∷ [])

-- a refused step takes nothing, and its feeder is the one that was given
abbrev pub refused_feeder : Feeder → Relocked
refused_feeder f = record { taken = 0; complete = false; more = false; feeder = f }

-- what has come of a step of the feeder f that answers r
abbrev pub relocked_by : Feeder → Result Relocked Refusal → Relocked
relocked_by f r = given_or (refused_feeder f) r

-- ---- what a step does

-- a call on so many bytes of the piece; the bytes are asked for again; the lead-in, and a call on the piece
pub data Move : Type 0 where
  reads : ℕ → Move
  asks : Move
  leads : Move

-- how many bytes stand before the first SYNC, or all there are
abbrev pub before_group : List ℕ → ℕ
before_group [] = 0
before_group (b ∷ bs) = cond (eqb b SYNC) 0 (suc (before_group bs))

-- the group at the head of the bytes gives FA
abbrev pub gives_first : Vote → List ℕ → Bool
gives_first vote bs = is_word (sync_word 0) (vote (get_or bs 1 0) (get_or bs 2 0) (get_or bs 3 0))

-- a lock awaits its word, and k bytes stand before the SYNC of its group: these come first. Of a group that is not whole the bytes are taken as they
-- are where the stream ends, and where there are none
abbrev pub decision : Vote → ℕ → List ℕ → Bool → Move
decision vote k piece ends =
    cond (ltb 0 k) (reads k)
    (cond (ltb (length piece) 4) (cond (ends || eqb (length piece) 0) (reads (length piece)) asks)
    (cond (gives_first vote piece) (reads (length piece)) leads))

unfoldable pub move : Feeder → List ℕ → Bool → Move
move f piece ends = cond f.awaits (decision (rule_vote f.tally.rule) (before_group piece) piece ends) (reads (length piece))

-- the answer after the call c as far as a lock, which leaves whether a lock awaits its word, and n lead-ins in all
abbrev pub called : TakeCall → Bool → ℕ → Relocked
called c awaits n =
    let a = answer (to_lock c) in
    record { taken = a.taken; complete = a.complete; more = false; feeder = record { tally = a.tally; awaits = awaits; handed = n } }

-- the call of a step on k bytes of the piece
abbrev pub call_on : Feeder → List ℕ → ℕ → List ℕ → TakeCall
call_on f piece k area = call_of f.tally (take k piece) area

-- the whole piece, after the lead-in
abbrev pub call_led : Feeder → List ℕ → List ℕ → TakeCall
call_led f piece area = after_lead_in (call_of f.tally piece area)

-- an accepted step, by its move, from the area `old`
abbrev pub moved : Move → Feeder → List ℕ → List ℕ → Relocked
moved (reads k) f piece old = let c = call_on f piece k old in called c (awaits_after f.awaits c) f.handed
moved asks f piece old = record { taken = 0; complete = false; more = true; feeder = f }
moved leads f piece old = let d = call_led f piece old in called d (locked d) (f.handed + 1)

-- the area that it leaves
abbrev pub area_moved : Move → Feeder → List ℕ → List ℕ → List ℕ
area_moved (reads k) f piece old = (answer (to_lock (call_on f piece k old))).area
area_moved asks f piece old = old
area_moved leads f piece old = (answer (to_lock (call_led f piece old))).area

-- how many lead-ins it hands
abbrev pub led_by : Move → ℕ
led_by (reads k) = 0
led_by asks = 0
led_by leads = 1

-- ---- the promise of a step

-- `relock` of a feeder on a piece answers r; the area is old before it and new afterwards
pub record RelockPromise (f : Feeder) (piece : List ℕ) (ends : Bool) (old : List ℕ) (r : Result Relocked Refusal) (new : List ℕ) : Type 0 where
  pub refusal_is : number_of r ≡ relock_refusal f (length piece) (length old)
  pub refused : (n : ℕ) → number_of r ≡ suc n → (relocked_by f r ≡ refused_feeder f) × (new ≡ old)
  pub answer_is : number_of r ≡ 0 → relocked_by f r ≡ moved (move f piece ends) f piece old
  pub area_is : number_of r ≡ 0 → new ≡ area_moved (move f piece ends) f piece old
  -- it leads on within the piece, or asks for more
  pub within : (relocked_by f r).taken ≤ length piece
  pub onward : number_of r ≡ 0 → (relocked_by f r).more ≡ false → 0 < length piece → 0 < (relocked_by f r).taken
  -- its calls are part of a list that locks on a frame's own sync: they have taken the bytes as far as `taken`
  pub calls : List Call
  pub relocks : number_of r ≡ 0
      → let left = relocked_by f r in
      RelockedCalls f.awaits f.tally old (take left.taken piece) calls left.feeder.awaits left.feeder.tally new (led_by (move f piece ends))
  -- the frame that they pay, if any, is in the area
  pub pays : number_of r ≡ 0 → paid calls ≡ cond (relocked_by f r).complete (new ∷ []) []
  -- a feeder in order is left, unless the stream has ended
  pub stays_ordered : number_of r ≡ 0 → (ends ≡ true → (relocked_by f r).taken < length piece) → feeder_in_order (relocked_by f r).feeder ≡ true

-- ---- its parts

-- the call c as far as a lock is accepted and made: r and the area are left
pub record Called (c : TakeCall) (awaits : Bool) (n : ℕ) (r : Relocked) (new : List ℕ) : Type 0 where
  pub accepted : take_refusal c ≡ 0
  pub answer_is : r ≡ called c awaits n
  pub area_is : new ≡ (answer (to_lock c)).area
  pub within : r.taken ≤ length c.piece
  pub onward : 0 < length c.piece → 0 < r.taken

-- a call on a part of the piece; `waits` says that the lock before it goes on waiting
abbrev pub ReadsOn : Feeder → List ℕ → Bool → List ℕ → Relocked → List ℕ → Type 0
ReadsOn f part waits old r new = let c = call_of f.tally part old in Called c (waits || locked c) f.handed r new

-- the lead-in, and a call on the piece
pub record LeadsIn (f : Feeder) (piece old : List ℕ) (r : Relocked) (new : List ℕ) : Type 0 where
  pub lead-accepted : take_refusal (lead_in (call_of f.tally piece old)) ≡ 0
  pub led : Called (call_led f piece old) (locked (call_led f piece old)) (f.handed + 1) r new
