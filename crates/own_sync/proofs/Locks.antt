-- How many hunts have ended, byte by byte, and the part of a piece as far as a lock. What a word does is one of the machine's few events, and a hunt
-- ends at one of them only. Assumes nothing.
use mathlib.Core.Path.{◌≡◌, refl, ap, ◌∙◌}
use mathlib.Core.Bool.{Bool, true, false, cond, ◌&&◌, not}
use mathlib.Core.List.{List, [], ◌∷◌}
use mathlib.Core.Option.{Option, none, some}
use Prim.Native.Nat.{ℕ, zero, suc, ◌+◌, ◌≤◌}
use native.Mathlib.Omega.{arith}
use lib.Dec.{eqb, ltb}
use lib.ListN.{length, take}
use Rattle.base.specs.Lists.{one}
use Rattle.labelling.specs.declared.FrameClass.{FrameClass}
use Rattle.labelling.specs.declared.FrameClass.TheVariants.{Good, Damaged, Unsynced}
use Rattle.labelling.specs.declared.Framing.{Framing}
use Rattle.labelling.specs.declared.Word.{Word}
use Rattle.labelling.specs.Words.{Vote}
use Rattle.labelling.specs.Votes.{rule_vote}
use Rattle.labelling.specs.MinorFrames.{is_word}
use Rattle.labelling.specs.Machine.{ByteEvent, after_byte, hunts, locks, fills, closes_frame, sync_word, synced_bytes, bytes_class, filled, marked}
use Rattle.labelling.specs.Machine.{word_event, after_word, State, state_of, Now, word_step, word_given, byte_event, byte_step}
use Rattle.labelling.specs.Calls.{TakeCall, take_refusal}
use Rattle.labelling.proofs.CallLaws.{no_refusal, passed}
use Rattle.own_sync.specs.Locks.{ends_hunt, locks as lockCount, up_to, to_lock}

-- ---- how many hunts have ended

-- one more where a hunt ends, and none else
abbrev Counted : Framing → Framing → Type 0
Counted f g = lockCount g ≡ lockCount f + one (ends_hunt f g)

locks-word : (f : Framing) (frame : List ℕ) (w : Word) → Counted f (after_word (word_event f frame w) f w)
unfolding word_event
locks-word f frame w = go f.hunting refl (is_word (sync_word f.matched) w) (eqb f.matched 2) (is_word (sync_word 0) w) (ltb f.placed 127)
  where
    closed : (k : FrameClass) → f.hunting ≡ false → Counted f (after_word (closes_frame k) f w)
    closed Good h = rw h (omega arith)
    closed Damaged h = rw h (omega arith)
    closed Unsynced h = rw h (omega arith)

    class : FrameClass
    class = bytes_class (synced_bytes (filled f frame w)) (marked f w)

    go : (h : Bool) → f.hunting ≡ h → (next last first room : Bool)
        → let hunted = cond next (cond last locks (hunts (f.matched + 1))) (cond first (hunts 1) (hunts 0)) in
        Counted f (after_word (cond h hunted (cond room fills (closes_frame class))) f w)
    go true h true true first room = rw h (omega arith)
    go true h true false first room = rw h (omega arith)
    go true h false last true room = rw h (omega arith)
    go true h false last false room = rw h (omega arith)
    go false h next last first true = rw h (omega arith)
    go false h next last first false = closed class h

pub same-mode : (h : Bool) → (h && not h) ≡ false
same-mode true = refl
same-mode false = refl

module _ (vote : Vote) where
  pub locks-byte : (t : State) (a : List ℕ) (b : ℕ) → Counted t.framing (byte_step vote t a b).state.framing
  unfolding byte_step
  locks-byte t a b = go (word_given e)
    where
      e : ByteEvent
      e = byte_event vote t.groups.«open» t.groups b

      go : (m : Option Word) → Counted t.framing (word_step m (after_byte e t.groups b) t a).state.framing
      go none = rw (same-mode t.framing.hunting) (omega arith)
      go (some w) = locks-word t.framing t.frame w

  -- ---- the part of a piece as far as a lock

  -- whether the byte ends a hunt and that stops the call
  abbrev pub stops_at : Bool → State → List ℕ → ℕ → Bool
  stops_at stop t a b = stop && ends_hunt t.framing (byte_step vote t a b).state.framing

  -- the clauses of `up_to`
  module _ (stop : Bool) (t : State) (a : List ℕ) (b : ℕ) (bs : List ℕ) where
    pub up_stop : stops_at stop t a b ≡ true → up_to vote stop t a (b ∷ bs) ≡ b ∷ []
    up_stop e = rw (e, up_to)

    pub up_on : let n = byte_step vote t a b in stops_at stop t a b ≡ false → up_to vote stop t a (b ∷ bs) ≡ b ∷ up_to vote stop n.state n.area bs
    up_on e = rw (e, up_to)

  pub up_shorter : (stop : Bool) (p : List ℕ) (t : State) (a : List ℕ) → length (up_to vote stop t a p) ≤ length p
  up_shorter stop [] t a = omega arith
  up_shorter stop (b ∷ p) t a = go (stops_at stop t a b) refl (up_shorter stop p n.state n.area)
    where
      n : Now
      n = byte_step vote t a b

      go : (l : Bool) → stops_at stop t a b ≡ l → length (up_to vote stop n.state n.area p) ≤ length p
          → length (up_to vote stop t a (b ∷ p)) ≤ length (b ∷ p)
      go true l ih = omega (arith, ap length (up_stop stop t a b p l))
      go false l ih = omega (arith, ap length (up_on stop t a b p l))

  -- no lock stops it
  pub up_all : (p : List ℕ) (t : State) (a : List ℕ) → up_to vote false t a p ≡ p
  up_all [] t a = refl
  up_all (b ∷ p) t a = ap (λ (l : List ℕ). b ∷ l) (up_all p (byte_step vote t a b).state (byte_step vote t a b).area)

  -- what is taken of the part is taken of the piece
  pub up_prefix : (stop : Bool) (p : List ℕ) (t : State) (a : List ℕ) (k : ℕ) → k ≤ length (up_to vote stop t a p)
      → take k (up_to vote stop t a p) ≡ take k p
  up_prefix stop p t a zero h = refl
  up_prefix stop [] t a (suc k) h = refl
  up_prefix stop (b ∷ p) t a (suc k) h = go (stops_at stop t a b) refl (up_prefix stop p n.state n.area k)
    where
      n : Now
      n = byte_step vote t a b

      go : (l : Bool) → stops_at stop t a b ≡ l
          → (k ≤ length (up_to vote stop n.state n.area p) → take k (up_to vote stop n.state n.area p) ≡ take k p)
          → take (suc k) (up_to vote stop t a (b ∷ p)) ≡ take (suc k) (b ∷ p)
      go true l ih =
          let e = up_stop stop t a b p l in
          let none : k ≡ 0 = omega (arith, ap length e) in
          ap (take (suc k)) e ∙ rw none
      go false l ih =
          let e = up_on stop t a b p l in
          ap (take (suc k)) e ∙ ap (λ (r : List ℕ). b ∷ r) (ih (omega (arith, ap length e)))

-- where a call on the whole piece is accepted, so is that on the part
pub part-accepted : (c : TakeCall) → take_refusal c ≡ 0 → take_refusal (to_lock c) ≡ 0
part-accepted c e =
    let q = passed c e in
    let t = state_of c.tally in
    let shorter = up_shorter (rule_vote c.tally.rule) true c.piece t c.area in
    no_refusal c.tally (to_lock c).piece c.area q.ordered_tally q.whole-area (omega (arith, q.fits, shorter))
