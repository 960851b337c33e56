-- The reading of a whole reel by steps that lock on a frame's own sync, and what it promises. Definitions only.
use Rattle.std.specs.Prelude.{◌≡◌, true, false, cond, not, List, [], ◌∷◌, ℕ, suc, ◌-◌, ◌^◌, ◌≤◌, eqb, ltb, length, Result}
use Rattle.base.specs.Format.{major_frame}
use Rattle.base.specs.declared.refusal.Refusal.{Refusal}
use Rattle.base.specs.Refusals.{◌when◌, refusal, number_of}
use Rattle.base.specs.declared.refusal.Refusal.TheVariants.{WrongLength, TooManyBytes}
use Rattle.labelling.specs.Machine.{fresh}
use Rattle.labelling.specs.Order.{is_rule}
use Rattle.labelling.specs.Calls.{Call, paid}
use Rattle.labelling.specs.Once.{fresh_refusal, rule_given}
use Rattle.own_sync.specs.OwnOnce.{OwnOnce}
use Rattle.own_sync.specs.Relocking.{Relocked as RelockedCalls}
use Rattle.relocking.specs.declared.Feeder.{Feeder}
use Rattle.relocking.specs.Relock.{beginning}
use Rattle.whole_reel.specs.declared.Reel.{Reel}

-- the most bytes of a reel that always fit into 2^40 with their lead-ins: a lead-in goes with 512 bytes of the reel, but for the first
abbrev pub longest : ℕ
longest = 2 ^ 39 - 12

-- the refusal where a fresh tally is refused n; the lengths of the stream and of the area
abbrev pub refusal_after : ℕ → ℕ → ℕ → ℕ
refusal_after n stream area = cond (eqb n 0) (refusal (WrongLength when not (eqb area major_frame) ∷ TooManyBytes when ltb longest stream ∷ [])) n

-- 15 first
unfoldable pub read_refusal : ℕ → ℕ → ℕ → ℕ
read_refusal rule stream area = refusal_after (fresh_refusal rule) stream area

-- the whole stream is read from the feeder of a rule: its calls have taken the stream's bytes and the lead-ins that r counts
pub record WholeReel (rule : ℕ) (stream old : List ℕ) (r : Reel) (new : List ℕ) : Type 0 where
  pub calls : List Call
  pub relocks : RelockedCalls false (fresh rule) old stream calls r.feeder.awaits r.feeder.tally new r.feeder.handed
  -- the claim
  pub once : OwnOnce rule old stream calls r.feeder.tally new r.feeder.handed
  pub paid-is : r.paid ≡ length (paid calls)

-- nothing is read, and nothing paid: what is given beside a refusal
abbrev pub unread : ℕ → Result Unit Refusal → Reel
unread rule answer = record { answer = answer; paid = 0; feeder = beginning (rule_given rule) }

-- `read` of a stream by a rule answers r; the area is old before it and new afterwards
pub record ReadPromise (rule : ℕ) (stream old : List ℕ) (r : Reel) (new : List ℕ) : Type 0 where
  pub refusal_is : number_of r.answer ≡ read_refusal rule (length stream) (length old)
  pub refused : (n : ℕ) → number_of r.answer ≡ suc n → (r ≡ unread rule r.answer) × (new ≡ old)
  pub accepted : number_of r.answer ≡ 0 → WholeReel rule stream old r new

-- ---- its parts

-- a feeder that begins a reel of so many bytes
pub record Begins (f : Feeder) (stream area : ℕ) : Type 0 where
  pub rule_is : is_rule f.tally.rule ≡ true
  pub begun : f ≡ beginning f.tally.rule
  pub few : stream ≤ longest
  pub whole-area : area ≡ major_frame

pub record ReadAll (f : Feeder) (stream old : List ℕ) (r : Reel) (new : List ℕ) : Type 0 where
  pub no_refusal : number_of r.answer ≡ 0
  pub whole : WholeReel f.tally.rule stream old r new
