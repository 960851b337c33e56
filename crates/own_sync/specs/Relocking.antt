-- Lists of calls that lock on a frame's own sync: each goes as far as the byte that ends a hunt, and there the next word decides. Where it is FA
-- nothing is handed; before any other word a call hands the lead-in, so that the frame's FA F3 20 fill places 0 to 2. Definitions only.
use Rattle.std.specs.Prelude.{◌≡◌, Bool, true, false, ◌&&◌, ◌||◌, List, [], ◌∷◌, ◌++◌, ℕ, suc, ltb, take}
use Rattle.base.specs.Format.{SYNC, sync_word}
use Rattle.labelling.specs.declared.Groups.{Groups}
use Rattle.labelling.specs.declared.Tally.{Tally}
use Rattle.labelling.specs.declared.Word.{Word}
use Rattle.labelling.specs.Words.{Vote, words}
use Rattle.labelling.specs.Votes.{rule_vote}
use Rattle.labelling.specs.MinorFrames.{is_word}
use Rattle.labelling.specs.Calls.{TakeCall, take_refusal, answer, taken, DutyCall, duty_refusal, duty_answer, Call, takes, changes, refusal_of}
use Rattle.own_sync.specs.Locks.{locks, to_lock}
use Rattle.own_sync.specs.OwnCut.{ends_behind}

-- ---- the words of a call

-- the bytes of the group not yet closed: SYNC and its copies so far
abbrev pub open_group : Groups → List ℕ
open_group g = take g.«open» (SYNC ∷ g.first ∷ g.second ∷ [])

-- the words that the bytes bs give, after those of the open group, by the rule of the tally
unfoldable pub words_next : Tally → List ℕ → List Word
words_next t bs = words (rule_vote t.rule) (open_group t.groups ++ bs)

abbrev pub no_word : List Word → Bool
no_word [] = true
no_word (w ∷ ws) = false

-- ---- a lock

-- a hunt ends in the call as far as a lock
unfoldable pub locked : TakeCall → Bool
locked c = ltb (locks c.tally.framing) (locks (answer (to_lock c)).tally.framing)

-- a lock awaits its next word after the call as far as a lock: one is met there, or the one before (w) meets no word in the piece
unfoldable pub awaits_after : Bool → TakeCall → Bool
awaits_after w c = locked c || (w && no_word (words_next c.tally c.piece))

-- ---- the lead-in

-- FA F3 20 as the writer makes them at spacing 0
abbrev pub lead_in_bytes : List ℕ
lead_in_bytes =
    SYNC ∷ sync_word 0 ∷ sync_word 0 ∷ sync_word 0
    ∷ SYNC ∷ sync_word 1 ∷ sync_word 1 ∷ sync_word 1
    ∷ SYNC ∷ sync_word 2 ∷ sync_word 2 ∷ sync_word 2 ∷ []

-- the call that hands it before the call c, and c on what that leaves
abbrev pub lead_in : TakeCall → TakeCall
lead_in c = record { tally = c.tally; piece = lead_in_bytes; area = c.area }

abbrev pub after_lead_in : TakeCall → TakeCall
after_lead_in c = record { tally = (answer (lead_in c)).tally; piece = c.piece; area = (answer (lead_in c)).area }

-- a group stands whole at the head of the bytes, and its word is not FA; a split group has none
pub data OtherWord (vote : Vote) : List ℕ → Type 0 where
  other_word : {rest : List ℕ} (x y z : ℕ) → is_word (sync_word 0) (vote x y z) ≡ false → OtherWord vote (SYNC ∷ x ∷ y ∷ z ∷ rest)

-- ---- a list of calls

-- `Relocked w t a bs cs w' t' a' n`: from t and a, where w says whether a lock awaits its next word, the calls cs have taken the bytes bs of the reel
-- and n lead-ins; w', t' and a' are left. A call may be for any piece of the reel, and a refused one is handed anything
pub data Relocked : Bool → Tally → List ℕ → List ℕ → List Call → Bool → Tally → List ℕ → ℕ → Type 0 where
  done : {w : Bool} {t : Tally} {a : List ℕ} → Relocked w t a [] [] w t a 0
  refused : {w w' : Bool} {t t' : Tally} {a a' bs : List ℕ} {cs : List Call} {n : ℕ} (c : Call) (m : ℕ) → refusal_of c ≡ suc m
      → Relocked w t a bs cs w' t' a' n → Relocked w t a bs (c ∷ cs) w' t' a' n
  changed : {w w' : Bool} {t' : Tally} {a a' bs : List ℕ} {cs : List Call} {n : ℕ} (d : DutyCall) → duty_refusal d ≡ 0
      → Relocked w (duty_answer d) a bs cs w' t' a' n → Relocked w d.tally a bs (changes d ∷ cs) w' t' a' n
  -- a lock that awaits its next word meets FA, or no word yet
  takes_on : {w' : Bool} {t' : Tally} {a' bs : List ℕ} {cs : List Call} {n : ℕ} (w : Bool) (c : TakeCall) → take_refusal c ≡ 0
      → (w ≡ true → ends_behind (words_next c.tally c.piece) ≡ true)
      → Relocked (awaits_after w c) (answer (to_lock c)).tally (answer (to_lock c)).area bs cs w' t' a' n
      → Relocked w c.tally c.area (taken (to_lock c) ++ bs) (takes (to_lock c) ∷ cs) w' t' a' n
  -- it meets another word: the lead-in is handed before that
  leads_in : {w' : Bool} {t' : Tally} {a' bs : List ℕ} {cs : List Call} {n : ℕ} (c : TakeCall) → take_refusal (lead_in c) ≡ 0
      → take_refusal (after_lead_in c) ≡ 0 → c.tally.groups.«open» ≡ 0 → OtherWord (rule_vote c.tally.rule) c.piece
      → Relocked (locked (after_lead_in c)) (answer (to_lock (after_lead_in c))).tally (answer (to_lock (after_lead_in c))).area bs cs w' t' a' n
      → Relocked true c.tally c.area (taken (to_lock (after_lead_in c)) ++ bs) (takes (lead_in c) ∷ takes (to_lock (after_lead_in c)) ∷ cs) w' t' a' (suc n)
