-- Two lists of words side by side: those handed in, which have FA F3 20 once more after each hunt that found a frame, cut as 01 cuts them; and the
-- reel's own. The frame being filled is the same in both, so both close the same frames. Assumes nothing.
use mathlib.Core.Path.{◌≡◌, refl, sym, ap, ◌∙◌}
use mathlib.Core.Bool.{Bool, true, false, ◌&&◌, not, true≢false}
use mathlib.Core.List.{List, [], ◌∷◌, ◌++◌, map, append_assoc, append-nil}
use Prim.Native.Nat.{ℕ, suc, ◌+◌, ◌≤◌, ◌<◌}
use native.Mathlib.Omega.{arith}
use lib.Dec.{ltb}
use lib.ListN.{length, length-append}
use borrow.Author.Tests.{ltb-true, ltb-false}
use Rattle.base.specs.Lists.{concat_map, one}
use Rattle.base.proofs.Lists.{concat_map-append, sum_by-append}
use Rattle.labelling.specs.declared.FrameClass.{FrameClass}
use Rattle.labelling.specs.declared.FrameClass.TheVariants.{Good, Damaged, Unsynced}
use Rattle.labelling.specs.declared.Word.{Word}
use Rattle.labelling.specs.MinorFrames.{is_word, frame_class, same_class, Mode, hunting, placing, mode_after, Piece, hunted, frame, part, pieces, frame_of}
use Rattle.labelling.specs.MinorFrames.{frames}
use Rattle.labelling.specs.Rest.{latest, hunts_after}
use Rattle.labelling.proofs.Residual.{Residual, residual_start, residual_cut, residual_now, sum_by-now, concat_map-now}
use Rattle.labelling.proofs.Latest.{latest-map}
use Rattle.labelling.proofs.IfAny.{if_any, sum_by-if_any, concat_map-if_any, latest-if_any}
use Rattle.labelling.proofs.Pieces.{cuts, hunt-ends, frame-closes, hunt-open, frame-open}
use Rattle.own_sync.specs.OwnCut.{before_sync, OwnMode, seeks, places, finds, own_mode, Own, own_frames, own_found}
use Rattle.own_sync.proofs.OwnCuts.{owns, frames_held, own-frames, found_in, own-found, beginning, as_own, own_frame-closes, own_frame-open, sync}
use Rattle.own_sync.proofs.OwnCuts.{own-hunt_open, own-hunt_behind, own-hunt_before}
use Rattle.own_sync.proofs.OwnHunt.{Found, Sought, still, now, sought, hunts-all, still_hunts, hunt-ended}

-- ---- where the two lists stand

-- in a hunt; in a frame, which a hunt has found by its own sync or not; behind FA F3 20, before the word that decides; the lead-in is handed there
pub data Stage : Type 0 where
  in_hunt : Stage
  in_frame : Bool → Stage
  at-lock : Stage
  led_in : Stage

-- the words p are kept of the reel's own: those of the hunt, or of the frame
abbrev pub own_mode_at : Stage → OwnMode
own_mode_at in_hunt = seeks
own_mode_at (in_frame found) = beginning found
own_mode_at at-lock = seeks
own_mode_at led_in = seeks

abbrev pub mode_at : Stage → Mode
mode_at in_hunt = hunting
mode_at (in_frame found) = placing
mode_at at-lock = placing
mode_at led_in = placing

-- and these of the words handed in
abbrev pub kept_at : Stage → List Word → List Word
kept_at in_hunt p = p
kept_at (in_frame found) p = p
kept_at at-lock p = []
kept_at led_in p = sync

abbrev pub Kept : Stage → List Word → Type 0
Kept in_hunt p = before_sync p ≡ length p
Kept (in_frame found) p = (length p < 128) × (one found ≤ length p)
Kept at-lock p = Found p
Kept led_in p = Found p

abbrev pub hunts : Stage → Bool
hunts in_hunt = true
hunts (in_frame found) = false
hunts at-lock = false
hunts led_in = false

-- the frame under way, if it was found so
abbrev pub found_at : Stage → ℕ
found_at in_hunt = 0
found_at (in_frame found) = one found
found_at at-lock = 0
found_at led_in = 1

-- the words vs are handed in, with n lead-ins among them, and ws are the reel's
pub record Beside (s : Stage) (p vs ws : List Word) (n : ℕ) : Type 0 where
  pub out : List Piece
  pub own : List Own
  pub handed_cut : Residual (cuts hunting) (cuts (mode_at s)) (kept_at s p) out vs
  pub own_cut : Residual (owns seeks) (owns (own_mode_at s)) p own ws
  pub same : frames_held own ≡ concat_map frame_of out
  pub kept : Kept s p
  pub mode_is : latest true (map hunts_after out) ≡ hunts s
  pub found_is : n ≡ found_in own + found_at s

pub beside_start : Beside in_hunt [] [] [] 0
beside_start = record {
  out = [];
  own = [];
  handed_cut = residual_start (cuts hunting);
  own_cut = residual_start (owns seeks);
  same = refl;
  kept = refl;
  mode_is = refl;
  found_is = refl;
}

-- ---- where the lists end

abbrev pub Settled : Stage → Type 0
Settled in_hunt = Unit {0}
Settled (in_frame found) = Unit {0}
Settled at-lock = Unit {0}
Settled led_in = ⊥

-- the pieces that are kept, if any, close no frame: of the words handed in and of the reel's own
record LastPieces (s : Stage) (p : List Word) : Type 0 where
  last : List Piece
  cut_is : cuts (mode_at s) (kept_at s p) ≡ last
  no_frame : concat_map frame_of last ≡ []
  still_so : latest (hunts s) (map hunts_after last) ≡ hunts s
  own_none : frames_held (owns (own_mode_at s) p) ≡ []
  found_last : Settled s → found_in (owns (own_mode_at s) p) ≡ found_at s

-- a hunt whose end is not decided
undecided : (p : List Word) → Found p → owns seeks p ≡ as_own false (hunted p) ∷ []
undecided p f =
    let ended = own-hunt_behind [] f.q (rw (← f.is) (f.first [])) refl in
    rw (append-nil (f.q ++ sync), ← f.is) at ended

in_hunt_last : (p : List Word) → before_sync p ≡ length p → LastPieces in_hunt p
in_hunt_last p e = record {
  last = if_any hunted p;
  cut_is = hunt-open p (hunts-all p e);
  no_frame = concat_map-if_any frame_of hunted p refl;
  still_so = latest-if_any hunts_after true hunted p refl ∙ still_hunts p e;
  own_none = rw (own-hunt_open p e) (concat_map-if_any (λ (o : Own). frame_of o.piece) (λ (l : List Word). as_own false (hunted l)) p refl);
  found_last = λ _. rw (own-hunt_open p e) (sum_by-if_any (λ (o : Own). one o.found) (λ (l : List Word). as_own false (hunted l)) p refl);
}

in_frame_last : (found : Bool) (p : List Word) → length p < 128 → one found ≤ length p → LastPieces (in_frame found) p
in_frame_last found p few some = record {
  last = if_any part p;
  cut_is = frame-open p few;
  no_frame = concat_map-if_any frame_of part p refl;
  still_so = latest-if_any hunts_after false part p refl;
  own_none = rw (own_frame-open found p few) (concat_map-if_any (λ (o : Own). frame_of o.piece) (λ (l : List Word). as_own found (part l)) p refl);
  found_last = λ _. rw (own_frame-open found p few) (last_found found p some);
}
  where
    last_found : (found : Bool) (p : List Word) → one found ≤ length p → found_in (if_any (λ (l : List Word). as_own found (part l)) p) ≡ one found
    last_found true [] some = absurd (omega arith)
    last_found false [] some = refl
    last_found found (w ∷ p) some = omega arith

last_pieces : (s : Stage) (p : List Word) → Kept s p → LastPieces s p
last_pieces in_hunt p k = in_hunt_last p k
last_pieces (in_frame found) p k = in_frame_last found p k.0 k.1
last_pieces at-lock p k = record {
  last = [];
  cut_is = refl;
  no_frame = refl;
  still_so = refl;
  own_none = rw (undecided p k);
  found_last = λ _. rw (undecided p k);
}
last_pieces led_in p k = record {
  last = part sync ∷ [];
  cut_is = frame-open sync (omega arith);
  no_frame = refl;
  still_so = refl;
  own_none = rw (undecided p k);
  found_last = λ no. absurd no;
}

module _ {s : Stage} {p vs ws : List Word} {n : ℕ} (b : Beside s p vs ws n) where
  end : LastPieces s p
  end = last_pieces s p b.kept

  pub frames-now : frames vs ≡ concat_map frame_of b.out
  unfolding frames pieces
  frames-now = concat_map-now frame_of b.handed_cut ∙ rw (end.cut_is, end.no_frame, append-nil)

  pub same-frames : frames vs ≡ own_frames ws
  same-frames =
      let own-now : frames_held (owns seeks ws) ≡ frames_held b.own =
      concat_map-now (λ (o : Own). frame_of o.piece) b.own_cut ∙ rw (end.own_none, append-nil) in
      frames-now ∙ sym b.same ∙ sym own-now ∙ sym (own-frames ws)

  pub hunts-now : latest true (map hunts_after (pieces vs)) ≡ hunts s
  unfolding pieces
  hunts-now = rw (residual_now b.handed_cut, end.cut_is) (latest-map hunts_after true b.out end.last ∙ rw b.mode_is end.still_so)

  pub found-now : Settled s → n ≡ own_found ws
  found-now settled =
      let counted = sum_by-now (λ (o : Own). one o.found) b.own_cut in
      omega (arith, own-found ws, counted, end.found_last settled, b.found_is)

-- ---- one word more, in both

residual_keep : {A B : Type 0} {start cut : List A → List B} {kept : List A} {out : List B} {xs : List A} (more : List A)
    → Residual start cut kept out xs → Residual start cut (kept ++ more) out (xs ++ more)
residual_keep {start = start} {cut = cut} {kept = kept} {out = out} {xs = xs} more r = record {
  goes_on = λ ys.
      ap start (append_assoc xs more ys) ∙ r.goes_on (more ++ ys) ∙ ap (λ l. out ++ cut l) (sym (append_assoc kept more ys));
}

abbrev pub is_at_lock : Stage → Bool
is_at_lock in_hunt = false
is_at_lock (in_frame found) = false
is_at_lock at-lock = true
is_at_lock led_in = false

-- what the word w may be there
abbrev pub Decides : Stage → Word → Type 0
Decides in_hunt w = Unit {0}
Decides (in_frame found) w = Unit {0}
Decides at-lock w = is_word 0xfa w ≡ true
Decides led_in w = is_word 0xfa w ≡ false

pub record Next (s : Stage) (vs ws : List Word) (n : ℕ) (w : Word) : Type 0 where
  pub stage : Stage
  pub rest : List Word
  pub beside : Beside stage rest (vs ++ w ∷ []) (ws ++ w ∷ []) n
  pub settled : Settled stage
  -- a lock is met where a hunt ends, and nowhere else
  pub lock_is : is_at_lock stage ≡ (hunts s && not (hunts stage))
  -- the word after a lead-in closes no frame
  pub no_frame : s ≡ led_in → frames (vs ++ w ∷ []) ≡ frames vs

-- a hunt over p that has found FA F3 20, and the word that decides
module _ (p : List Word) (f : Found p) (w : Word) (ys : List Word) where
  first_found : before_sync ((f.q ++ sync) ++ w ∷ ys) ≡ length f.q
  first_found = rw (← f.is) (f.first (w ∷ ys))

  behind_found : is_word 0xfa w ≡ true → owns seeks (p ++ w ∷ ys) ≡ as_own false (hunted p) ∷ owns places (w ∷ ys)
  behind_found h =
      ap (λ (l : List Word). owns seeks (l ++ w ∷ ys)) f.is ∙ own-hunt_behind (w ∷ ys) f.q first_found h
      ∙ ap (λ (l : List Word). as_own false (hunted l) ∷ owns places (w ∷ ys)) (sym f.is)

  before-found : is_word 0xfa w ≡ false → owns seeks (p ++ w ∷ ys) ≡ if_any (λ l. as_own false (hunted l)) f.q ++ owns finds (sync ++ w ∷ ys)
  before-found h = ap (λ (l : List Word). owns seeks (l ++ w ∷ ys)) f.is ∙ own-hunt_before (w ∷ ys) f.q first_found h

-- frames held and found in two lists joined
frames-both : (os ps : List Own) → frames_held (os ++ ps) ≡ frames_held os ++ frames_held ps
frames-both os ps = concat_map-append (λ (o : Own). frame_of o.piece) os ps

found-both : (os ps : List Own) → found_in (os ++ ps) ≡ found_in os + found_in ps
found-both os ps = sum_by-append (λ (o : Own). one o.found) os ps

module _ (p vs ws : List Word) (n : ℕ) (w : Word) where
  -- the words kept, and the word
  abbrev longer : List Word
  longer = p ++ w ∷ []

  one-longer : length longer ≡ length p + 1
  one-longer = length-append p (w ∷ [])

  -- the word stays in the piece
  stays : (s : Stage) → kept_at s longer ≡ kept_at s p ++ w ∷ [] → (b : Beside s p vs ws n) → Kept s longer → Beside s longer (vs ++ w ∷ []) (ws ++ w ∷ []) n
  stays s e b k = record {
    out = b.out;
    own = b.own;
    handed_cut = rw e (residual_keep (w ∷ []) b.handed_cut);
    own_cut = residual_keep (w ∷ []) b.own_cut;
    same = b.same;
    kept = k;
    mode_is = b.mode_is;
    found_is = b.found_is;
  }

  -- in a hunt
  hunt-word : Beside in_hunt p vs ws n → Next in_hunt vs ws n w
  hunt-word b = go (sought p w b.kept)
    where
      not_led : in_hunt ≡ led_in → ⊥
      not_led e = true≢false (ap hunts e)

      locked : Found longer → Beside at-lock longer (vs ++ w ∷ []) (ws ++ w ∷ []) n
      locked f = record {
        out = b.out ++ hunted longer ∷ [];
        own = b.own;
        handed_cut = residual_cut (cuts placing) [] (hunted longer ∷ []) w b.handed_cut
            (λ ys. ap (cuts hunting) (sym (append_assoc p (w ∷ []) ys)) ∙ hunt-ends longer ys (omega (arith, one-longer)) (f.ends ys));
        own_cut = residual_keep (w ∷ []) b.own_cut;
        same = b.same ∙ sym (concat_map-append frame_of b.out (hunted longer ∷ []) ∙ append-nil (concat_map frame_of b.out));
        kept = f;
        mode_is = latest-map hunts_after true b.out (hunted longer ∷ []) ∙ hunt-ended longer f;
        found_is = b.found_is;
      }

      go : Sought longer → Next in_hunt vs ws n w
      go (still e) = record {
        stage = in_hunt;
        rest = longer;
        beside = stays in_hunt refl b e;
        settled = tt;
        lock_is = refl;
        no_frame = λ e. absurd (not_led e);
      }
      go (now f) = record {
        stage = at-lock;
        rest = longer;
        beside = locked f;
        settled = tt;
        lock_is = refl;
        no_frame = λ e. absurd (not_led e);
      }

  -- in a frame
  module _ (found : Bool) (b : Beside (in_frame found) p vs ws n) where
    not_led : in_frame found ≡ led_in → ⊥
    not_led e = true≢false (ap (λ (s : Stage). elim s [ in_hunt ↦ false | in_frame x ↦ true | at-lock ↦ false | led_in ↦ false ]) e)

    -- the frame closes, and the stage s begins that its class says
    module _ (full : length longer ≡ 128) where
      abbrev out : List Piece
      out = b.out ++ frame longer ∷ []

      abbrev own : List Own
      own = b.own ++ as_own found (frame longer) ∷ []

      handed-on : Residual (cuts hunting) (cuts (mode_after (frame_class longer))) [] out (vs ++ w ∷ [])
      handed-on = residual_cut (cuts (mode_after (frame_class longer))) [] (frame longer ∷ []) w b.handed_cut
          (λ ys. ap (cuts placing) (sym (append_assoc p (w ∷ []) ys)) ∙ frame-closes longer ys full)

      own_on : Residual (owns seeks) (owns (own_mode (mode_after (frame_class longer)))) [] own (ws ++ w ∷ [])
      own_on = residual_cut (owns (own_mode (mode_after (frame_class longer)))) [] (as_own found (frame longer) ∷ []) w b.own_cut
          (λ ys. ap (owns (beginning found)) (sym (append_assoc p (w ∷ []) ys)) ∙ own_frame-closes found longer ys full)

      begins : (s : Stage) → kept_at s [] ≡ [] → mode_after (frame_class longer) ≡ mode_at s → own_mode (mode_after (frame_class longer)) ≡ own_mode_at s → Kept s []
          → same_class Unsynced (frame_class longer) ≡ hunts s → found_at s ≡ 0 → Beside s [] (vs ++ w ∷ []) (ws ++ w ∷ []) n
      begins s e m o k h z = record {
        out = out;
        own = own;
        handed_cut = rw (e, ← m) handed-on;
        own_cut = rw (← o) own_on;
        same = frames-both b.own (as_own found (frame longer) ∷ []) ∙ rw b.same (sym (concat_map-append frame_of b.out (frame longer ∷ [])));
        kept = k;
        mode_is = latest-map hunts_after true b.out (frame longer ∷ []) ∙ h;
        found_is = omega (arith, b.found_is, found-both b.own (as_own found (frame longer) ∷ []));
      }

      frame-again : mode_after (frame_class longer) ≡ placing → same_class Unsynced (frame_class longer) ≡ false → Next (in_frame found) vs ws n w
      frame-again m h = record {
        stage = in_frame false;
        rest = [];
        beside = begins (in_frame false) refl m (ap own_mode m) (omega arith, omega arith) h refl;
        settled = tt;
        lock_is = refl;
        no_frame = λ e. absurd (not_led e);
      }

      closes : (k : FrameClass) → frame_class longer ≡ k → Next (in_frame found) vs ws n w
      closes Good e = frame-again (rw e) (rw e)
      closes Damaged e = frame-again (rw e) (rw e)
      closes Unsynced e = record {
        stage = in_hunt;
        rest = [];
        beside = begins in_hunt refl (rw e) (rw e) refl (rw e) refl;
        settled = tt;
        lock_is = refl;
        no_frame = λ e. absurd (not_led e);
      }

    frame-word : Next (in_frame found) vs ws n w
    frame-word = go (ltb (length p) 127) refl
      where
        go : (room : Bool) → ltb (length p) 127 ≡ room → Next (in_frame found) vs ws n w
        go true e = record {
          stage = in_frame found;
          rest = longer;
          beside = stays (in_frame found) refl b (omega (arith, one-longer, ltb-true (length p) 127 e), omega (arith, one-longer, b.kept.1));
          settled = tt;
          lock_is = refl;
          no_frame = λ e. absurd (not_led e);
        }
        go false e = closes (omega (arith, one-longer, ltb-false (length p) 127 e, b.kept.0)) (frame_class longer) refl

  -- behind FA F3 20 comes FA: a frame begins with it
  lock_word : is_word 0xfa w ≡ true → Beside at-lock p vs ws n → Next at-lock vs ws n w
  lock_word h b = record {
    stage = in_frame false;
    rest = w ∷ [];
    beside = record {
      out = b.out;
      own = b.own ++ as_own false (hunted p) ∷ [];
      handed_cut = residual_keep (w ∷ []) b.handed_cut;
      own_cut = residual_cut (owns places) (w ∷ []) (as_own false (hunted p) ∷ []) w b.own_cut (λ ys. behind_found p b.kept w ys h);
      same = frames-both b.own (as_own false (hunted p) ∷ []) ∙ append-nil (frames_held b.own) ∙ b.same;
      kept = (omega arith, omega arith);
      mode_is = b.mode_is;
      found_is = omega (arith, b.found_is, found-both b.own (as_own false (hunted p) ∷ []));
    };
    settled = tt;
    lock_is = refl;
    no_frame = λ e. absurd (true≢false (ap is_at_lock e));
  }

  -- after the lead-in comes another word: the frame begins with the reel's own FA F3 20
  led_word : is_word 0xfa w ≡ false → Beside led_in p vs ws n → Next led_in vs ws n w
  led_word h b = record {
    stage = in_frame true;
    rest = sync ++ w ∷ [];
    beside = after;
    settled = tt;
    lock_is = refl;
    no_frame = λ e. frames-now after ∙ sym (frames-now b);
  }
    where
      hunt-before : List Own
      hunt-before = if_any (λ (l : List Word). as_own false (hunted l)) b.kept.q

      no_frame_before : frames_held hunt-before ≡ []
      no_frame_before = concat_map-if_any (λ (o : Own). frame_of o.piece) (λ (l : List Word). as_own false (hunted l)) b.kept.q refl

      none_before : found_in hunt-before ≡ 0
      none_before = sum_by-if_any (λ (o : Own). one o.found) (λ (l : List Word). as_own false (hunted l)) b.kept.q refl

      after : Beside (in_frame true) (sync ++ w ∷ []) (vs ++ w ∷ []) (ws ++ w ∷ []) n
      after = record {
        out = b.out;
        own = b.own ++ hunt-before;
        handed_cut = residual_keep (w ∷ []) b.handed_cut;
        own_cut = residual_cut (owns finds) (sync ++ w ∷ []) hunt-before w b.own_cut (λ ys. before-found p b.kept w ys h);
        same = frames-both b.own hunt-before ∙ rw (no_frame_before) (append-nil (frames_held b.own) ∙ b.same);
        kept = (omega arith, omega arith);
        mode_is = b.mode_is;
        found_is = omega (arith, b.found_is, found-both b.own hunt-before, none_before);
      }

pub next_word : (s : Stage) {p vs ws : List Word} {n : ℕ} (w : Word) → Decides s w → Beside s p vs ws n → Next s vs ws n w
next_word in_hunt {p} {vs} {ws} {n} w d b = hunt-word p vs ws n w b
next_word (in_frame found) {p} {vs} {ws} {n} w d b = frame-word p vs ws n w found b
next_word at-lock {p} {vs} {ws} {n} w d b = lock_word p vs ws n w d b
next_word led_in {p} {vs} {ws} {n} w d b = led_word p vs ws n w d b

-- ---- a lead-in

-- FA F3 20 are handed in, and are none of the reel's
pub led : {p vs ws : List Word} {n : ℕ} → Beside at-lock p vs ws n → Beside led_in p (vs ++ sync) ws (suc n)
led b = record {
  out = b.out;
  own = b.own;
  handed_cut = residual_keep sync b.handed_cut;
  own_cut = b.own_cut;
  same = b.same;
  kept = b.kept;
  mode_is = b.mode_is;
  found_is = omega (arith, b.found_is);
}

-- fewer than 128 words behind a lock close no frame
pub few_close_none : {p vs ws : List Word} {n : ℕ} (u : List Word) → length u < 128 → Beside at-lock p vs ws n → frames (vs ++ u) ≡ frames vs
unfolding frames pieces
few_close_none u h b =
    concat_map-now frame_of (residual_keep u b.handed_cut)
    ∙ rw (frame-open u h, concat_map-if_any frame_of part u refl, append-nil) (sym (frames-now b))

-- ---- any words

-- the words ws beside those that are handed in for them
pub record Reached (ws : List Word) : Type 0 where
  pub stage : Stage
  pub rest : List Word
  pub vs : List Word
  pub count : ℕ
  pub beside : Beside stage rest vs ws count
  pub settled : Settled stage

pub reached : (ws : List Word) → Reached ws
reached ws = go [] ws record { stage = in_hunt; rest = []; vs = []; count = 0; beside = beside_start; settled = tt }
  where
    after_next : {s : Stage} {vs ws : List Word} {n : ℕ} (w : Word) → Next s vs ws n w → Reached (ws ++ w ∷ [])
    after_next {vs = vs} {n = n} w x = record { stage = x.stage; rest = x.rest; vs = vs ++ w ∷ []; count = n; beside = x.beside; settled = x.settled }

    at-a_lock : {p vs ws : List Word} {n : ℕ} (w : Word) (b : Bool) → is_word 0xfa w ≡ b → Beside at-lock p vs ws n → Reached (ws ++ w ∷ [])
    at-a_lock w true e b = after_next w (next_word at-lock w e b)
    at-a_lock w false e b = after_next w (next_word led_in w e (led b))

    one_more : (s : Stage) {p vs ws : List Word} {n : ℕ} (w : Word) → Settled s → Beside s p vs ws n → Reached (ws ++ w ∷ [])
    one_more in_hunt w k b = after_next w (next_word in_hunt w tt b)
    one_more (in_frame found) w k b = after_next w (next_word (in_frame found) w tt b)
    one_more at-lock w k b = at-a_lock w (is_word 0xfa w) refl b
    one_more led_in w k b = absurd k

    go : (done rest : List Word) → Reached done → Reached (done ++ rest)
    go done [] r = rw (append-nil done) r
    go done (w ∷ rest) r = rw append_assoc at (go (done ++ w ∷ []) rest (one_more r.stage w r.settled r.beside))
