-- The three layers joined: what the parts of a word and of a byte gave is what the machine gives. Assumes nothing.
use mathlib.Core.Path.{◌≡◌, refl, sym, ap, ◌∙◌}
use mathlib.Core.Bool.{Bool, true, false, cond}
use mathlib.Core.List.{List}
use mathlib.Core.Option.{none, some}
use Prim.Native.Nat.{ℕ, zero, suc, ◌+◌, ◌≤◌, ◌<◌}
use native.Mathlib.Omega.{arith}
use lib.Dec.{eqb}
use borrow.Author.Tests.{ne_eqb}
use Rattle.base.specs.Format.{sync_word}
use Rattle.labelling.specs.declared.FrameClass.{FrameClass}
use Rattle.labelling.specs.declared.Framing.{Framing}
use Rattle.labelling.specs.declared.Groups.{Groups}
use Rattle.labelling.specs.declared.Runs.{Runs}
use Rattle.labelling.specs.declared.Word.{Word}
use Rattle.labelling.specs.Words.{Vote, weak_copy}
use Rattle.labelling.specs.MinorFrames.{is_word}
use Rattle.labelling.specs.Machine.{closes, after_closing, after_byte, word_given, byte_event, byte_step}
use Rattle.labelling.specs.Machine.{WordEvent, hunts, locks, fills, closes_frame, hunt_event, word_event, after_word, frame_after}
use Rattle.labelling.specs.Machine.{FrameEvent, nothing, closed_event, frame_event, after_frame, area_after, is_complete, Now, word_step}
use Rattle.votes.specs.declared.Voted.{Voted}
use Rattle.votes.specs.Promise.{VotePromise}
use Rattle.layer_steps.specs.declared.major.Ended.{Ended}
use Rattle.std.proofs.Common.{Some, None}
use Rattle.layer_steps.specs.declared.minor.Framed.{Framed}
use Rattle.layer_steps.specs.Shapes.{event_of, PlacePromise, EndPromise}
use Rattle.plain_steps.specs.declared.layers.Layers.{Layers}
use Rattle.plain_steps.specs.Shapes.{state_with, now_of}

-- ---- a word

-- the layers after a word, and after a byte that gives none
abbrev layers_with : Layers → Framing → Runs → Layers
layers_with l f r = record { groups = l.groups; framing = f; runs = r }

abbrev layers_from : Layers → Groups → Layers
layers_from l g = record { groups = g; framing = l.framing; runs = l.runs }

-- a hunted word closes nothing
hunt-quiet : (m : ℕ) (next first : Bool) (bytes : List ℕ) (n : ℕ) → frame_event (hunt_event m next first) bytes n ≡ nothing
hunt-quiet m next first bytes n = go next (eqb m 2) first
  where
    go : (next last first : Bool) → frame_event (cond next (cond last locks (hunts (m + 1))) (cond first (hunts 1) (hunts 0))) bytes n ≡ nothing
    go true true first = refl
    go true false first = refl
    go false last true = refl
    go false last false = refl

module _ (l : Layers) (w : Word) (frame area : List ℕ) where
  abbrev stepped : Now
  stepped = word_step (some w) l.groups (state_with l frame) area

  -- the word's event is v, the frame then holds `bytes`, and the run's event is k
  word-as : (v : WordEvent) (bytes : List ℕ) (k : FrameEvent) → word_event l.framing frame w ≡ v → frame_after l.framing frame w ≡ bytes
      → frame_event v bytes l.runs.building ≡ k
      → now_of (record { layers = layers_with l (after_word v l.framing w) (after_frame k l.runs); complete = is_complete k }) bytes (area_after k bytes area)
      ≡ stepped
  word-as v bytes k ev eb ek = rw (← ek, ← eb, ← ev)

  pub word-hunted : {f : Framing} → l.framing.hunting ≡ true
      → f ≡ after_word (hunt_event l.framing.matched (is_word (sync_word l.framing.matched) w) (is_word (sync_word 0) w)) l.framing w
      → now_of (record { layers = layers_with l f l.runs; complete = false }) frame area ≡ stepped
  unfolding word_event
  word-hunted h e =
      let m = l.framing.matched in
      let next = is_word (sync_word m) w in
      let first = is_word (sync_word 0) w in
      rw e (word-as (hunt_event m next first) frame nothing (rw h) (rw h) (hunt-quiet m next first frame l.runs.building))

  -- a word that is placed
  module _ {new : List ℕ} {r : Framed} (placing : l.framing.hunting ≡ false) (p : PlacePromise l.framing w frame new r) where
    placed-as : (v : WordEvent) → event_of r.closed ≡ v → (k : FrameEvent) → frame_event v new l.runs.building ≡ k
        → now_of (record { layers = layers_with l r.framing (after_frame k l.runs); complete = is_complete k }) new (area_after k new area) ≡ stepped
    placed-as v e k ek =
        let event : word_event l.framing frame w ≡ v = sym p.event_is ∙ e in
        let framed : r.framing ≡ after_word v l.framing w = p.framing_is ∙ ap (λ (x : WordEvent). after_word x l.framing w) event in
        rw framed (word-as v new k event (rw placing (sym p.frame_is)) ek)

    pub word-filled : r.closed ≡ None → now_of (record { layers = layers_with l r.framing l.runs; complete = false }) new area ≡ stepped
    word-filled e = placed-as fills (ap event_of e) nothing refl

    pub word-closed : {k : FrameClass} {area' : List ℕ} {x : Ended} → r.closed ≡ Some k → EndPromise l.runs k new area area' x
        → now_of (record { layers = layers_with l r.framing x.runs; complete = x.complete }) new area' ≡ stepped
    word-closed {k} e q =
        rw (q.counted.runs_is, q.counted.complete_is, q.area_is) (placed-as (closes_frame k) (ap event_of e) (closed_event k new l.runs.building) refl)

-- ---- a byte

no_word : (vote : Vote) (n : ℕ) (g : Groups) (b : ℕ) → n < 3 → word_given (byte_event vote n g b) ≡ none
no_word vote zero g b h = refl
no_word vote (suc zero) g b h = refl
no_word vote (suc (suc zero)) g b h = refl
no_word vote (suc (suc (suc n))) g b h = absurd (omega arith)

third_copy : (vote : Vote) (n : ℕ) (g : Groups) (b : ℕ) → 3 ≤ n
    → byte_event vote n g b ≡ closes (vote g.first g.second b) (weak_copy g.first g.second b)
third_copy vote n g b h = rw (ne_eqb n 0 (λ e. omega arith), ne_eqb n 1 (λ e. omega arith), ne_eqb n 2 (λ e. omega arith))

module _ (vote : Vote) (l : Layers) (frame area : List ℕ) (b : ℕ) where
  abbrev opened : ℕ
  opened = l.groups.«open»

  pub byte_open : {g : Groups} → opened < 3 → g ≡ after_byte (byte_event vote opened l.groups b) l.groups b
      → now_of (record { layers = layers_from l g; complete = false }) frame area ≡ byte_step vote (state_with l frame) area b
  unfolding byte_step
  byte_open h e = rw (e, no_word vote opened l.groups b h)

  pub byte_closed : {v : Voted} {g : Groups} {n : Now} → 3 ≤ opened → VotePromise vote l.groups.first l.groups.second b v
      → g ≡ after_closing v.word v.weak l.groups → n ≡ word_step (some v.word) g (state_with l frame) area
      → n ≡ byte_step vote (state_with l frame) area b
  unfolding byte_step
  byte_closed h p eg e = e ∙ rw (third_copy vote opened l.groups b h, eg, p.word-is, p.weak_is)
