-- A byte, a stretch, and one part of a call after another, each as a law over plain values. Assumes nothing.
use mathlib.Core.Path.{◌≡◌, refl, sym, ap, ◌∙◌, subst}
use mathlib.Core.Bool.{Bool, true, false, cond, ◌&&◌, ◌||◌, not}
use mathlib.Core.List.{List, [], ◌∷◌}
use mathlib.Core.Option.{Option, none, some}
use Prim.Native.Nat.{ℕ, zero, suc, ◌+◌, ◌*◌, ◌-◌, ◌≤◌, ◌<◌}
use native.Mathlib.Nat.{zero-add, add-zero, add-suc, suc-add}
use native.Mathlib.Numerals.{add-one}
use native.Mathlib.Omega.{arith}
use lib.ListN.{length, drop, get_or, set, length-set, drop_of_length-le}
use lib.Seq.{sets, get_or-set_same, drop-cons}
use Rattle.base.specs.Format.{SYNC}
use Rattle.base.specs.Lists.{one}
use Rattle.labelling.specs.declared.Framing.{Framing}
use Rattle.labelling.specs.declared.Groups.{Groups}
use Rattle.labelling.specs.declared.Runs.{Runs}
use Rattle.labelling.specs.declared.Word.{Word}
use Rattle.labelling.specs.Words.{Vote}
use Rattle.labelling.specs.Votes.{Unanimous, Majority}
use Rattle.labelling.specs.MajorFrames.{value}
use Rattle.labelling.specs.Machine.{ByteEvent, after_byte, State, Now, word_step, word_given, byte_event, byte_step}
use Rattle.labelling.specs.Order.{state_in_order}
use Rattle.labelling.proofs.Ordered.{ordered, in_order_lem, ordered_byte, bytes_byte}
use Rattle.labelling.proofs.Feeding.{feed-more, feed-complete}
use Rattle.own_sync.specs.Locks.{ends_hunt, locks, up_to}
use Rattle.own_sync.proofs.Locks.{same-mode, locks-byte, stops_at, up_stop, up_on}
use Rattle.quiet.specs.Quiet.{Byte, Quiet}
use Rattle.nominal.specs.Stretches.{Stored, Hunted, last_or}
use Rattle.nominal.specs.Effect.{Leads, PlainSteps, stays, byte, with_words, with_quiet, with_placed, with_hunted}
use Rattle.nominal.proofs.Effect.{plain_ordered, plain_bytes, sync-opens, first-opens, group_opens, quiet_plain, placed-plain, hunted_plain}
use Rattle.plain_steps.specs.declared.layers.Layers.{Layers}
use Rattle.plain_steps.specs.Shapes.{state_with}
use Rattle.reader_run.specs.Onward.{Begun, Moment, fed, rest_from, ends_at, locks_at, halts, Onward, Reaches, Words, opened, ByteOr}

-- ---- a byte

frame_byte : (vote : Vote) (t : State) (a : List ℕ) (b : ℕ) → length (byte_step vote t a b).state.frame ≡ length t.frame
unfolding byte_step
frame_byte vote t a b = go (word_given e)
  where
    e : ByteEvent
    e = byte_event vote t.groups.«open» t.groups b

    stored : (h : Bool) (w : Word) → length (cond h t.frame (set t.frame t.framing.placed (value w))) ≡ length t.frame
    stored true w = refl
    stored false w = length-set t.frame t.framing.placed (value w)

    go : (m : Option Word) → length (word_step m (after_byte e t.groups b) t a).state.frame ≡ length t.frame
    go none = refl
    go (some w) = stored t.framing.hunting w

-- where a byte leads: one place on
abbrev after : ℕ → Now → Moment
after i n = record { at = i + 1; state = n.state; area = n.area }

-- ---- the call: its begin, its end, and a byte of it
module _ (vote : Vote) (stop : Bool) (p : List ℕ) where
  pub call-begins : (m : Moment) → m.at ≡ 0 → fed vote stop p m ≡ rest_from vote stop p m
  call-begins m e = rw (e, zero-add)

  pub call_ends : (m : Moment) → length p ≤ m.at → rest_from vote stop p m ≡ ends_at m false
  call_ends m h = rw (drop_of_length-le p {i = m.at} h, add-zero)

  module _ (m : Moment) (h : m.at < length p) where
    abbrev next : ℕ
    next = get_or p m.at 0

    abbrev later : List ℕ
    later = drop (suc m.at) p

    abbrev left : Now
    left = byte_step vote m.state m.area next

    -- the rest of the part after the byte
    abbrev part : List ℕ
    part = up_to vote stop left.state left.area later

    -- whether a major frame is complete, and whether the byte ends a hunt and that stops the call
    byte_rest : (c l : Bool) → left.complete ≡ c → stops_at vote stop m.state m.area next ≡ l
        → rest_from vote stop p m ≡ cond (c || l) (ends_at (after m.at left) c) (rest_from vote stop p (after m.at left))
    byte_rest true true c l =
        rw (drop-cons p m.at 0 h, up_stop vote stop m.state m.area next later l, feed-complete vote m.state m.area next [] c)
    byte_rest true false c l =
        rw (drop-cons p m.at 0 h, up_on vote stop m.state m.area next later l, feed-complete vote m.state m.area next part c)
    byte_rest false true c l =
        rw (drop-cons p m.at 0 h, up_stop vote stop m.state m.area next later l, feed-more vote m.state m.area next [] c)
    byte_rest false false c l =
        rw (
          drop-cons p m.at 0 h,
          up_on vote stop m.state m.area next later l,
          feed-more vote m.state m.area next part c,
          add-one m.at,
          add-one,
          add-suc,
          suc-add,
        )

-- the byte at m leaves n
pub now-onward : {vote : Vote} {p : List ℕ} {m : Moment} {n : Now} → n ≡ byte_step vote m.state m.area (get_or p m.at 0) → Begun p m.at m.state
    → m.at < length p → Onward vote p m (after m.at n) n.complete
now-onward {vote} {p} {m} {n} e b h =
    let t = m.state in
    let x = get_or p m.at 0 in
    let more : (byte_step vote t m.area x).state.groups.bytes ≡ t.groups.bytes + 1 = bytes_byte vote t m.area x in
    let bytes : n.state.groups.bytes ≡ t.groups.bytes + 1 = ap (λ (y : Now). y.state.groups.bytes) e ∙ more in
    let still = in_order_lem (byte_step vote t m.area x).state (ordered_byte vote t m.area x (ordered t b.order)) (omega arith) in
    record {
      rest = λ stop. subst (leads stop) (sym e) (byte_rest vote stop p m h _ _ refl refl);
      order = ap (λ (y : Now). state_in_order y.state) e ∙ still;
      bytes_are = omega arith;
      forward = omega arith;
      within = omega arith;
      frame-length = ap (λ (y : Now). length y.state.frame) e ∙ frame_byte vote t m.area x ∙ b.frame-length;
    }
  where
    leads : Bool → Now → Type 0
    leads stop y =
        let o = after m.at y in
        rest_from vote stop p m ≡ cond (halts stop y.complete (locks_at m o)) (ends_at o y.complete) (rest_from vote stop p o)

-- ---- plain steps

module _ {vote : Vote} {p a : List ℕ} where
  plain_inside : {i j : ℕ} {t u : State} → PlainSteps vote p a i t j u → i ≤ length p → (i ≤ j) × (j ≤ length p)
  plain_inside stays h = (omega arith, h)
  plain_inside (byte l e n) h = let r = plain_inside n (omega arith) in (omega (arith, r.0), r.1)

  plain_frame : {i j : ℕ} {t u : State} → PlainSteps vote p a i t j u → length u.frame ≡ length t.frame
  plain_frame stays = refl
  plain_frame {i} {t = t} (byte l e n) = plain_frame n ∙ sym (ap (λ (x : Now). length x.state.frame) e) ∙ frame_byte vote t a (get_or p i 0)

module _ (vote : Vote) (a : List ℕ) where
  -- a byte ends a hunt or none
  leads_locks : (t u : State) (b : ℕ) → Leads vote a t b u → locks u.framing ≡ locks t.framing + one (ends_hunt t.framing u.framing)
  leads_locks t u b e =
      subst (λ (x : Now). locks x.state.framing ≡ locks t.framing + one (ends_hunt t.framing x.state.framing)) e (locks-byte vote t a b)

  plain_locks : {p : List ℕ} {i j : ℕ} {t u : State} → PlainSteps vote p a i t j u → locks t.framing ≤ locks u.framing
  plain_locks stays = omega arith
  plain_locks {p} {i} {t = t} (byte {u = u} l e n) = omega (arith, plain_locks n, leads_locks t u (get_or p i 0) e)

  never : (stop b : Bool) → one b ≤ 0 → (stop && b) ≡ false
  never stop true h = absurd (omega arith)
  never true false h = refl
  never false false h = refl

  -- where as many hunts have ended at the end as at the start, none has ended on the way, and the call goes on
  plain_rest : {p : List ℕ} {i j : ℕ} {t u : State} (stop : Bool) → PlainSteps vote p a i t j u → locks u.framing ≡ locks t.framing
      → rest_from vote stop p (record { at = i; state = t; area = a }) ≡ rest_from vote stop p (record { at = j; state = u; area = a })
  plain_rest stop stays k = refl
  plain_rest {p} {i} {t = t} stop (byte {u = u} l e n) k =
      let m : Moment = record { at = i; state = t; area = a } in
      let one_on = leads_locks t u (get_or p i 0) e in
      let none : one (ends_hunt t.framing u.framing) ≤ 0 = omega (arith, plain_locks n, one_on) in
      let same : locks u.framing ≡ locks t.framing = omega (arith, one_on) in
      subst
      (λ (x : Now). (stop && ends_hunt t.framing x.state.framing) ≡ false → x.complete ≡ false
      → rest_from vote stop p m ≡ rest_from vote stop p (after i x))
      e (λ z c. byte_rest vote stop p m l false false c z) (never stop _ none) refl
      ∙ plain_rest stop n (k ∙ sym same)

-- nothing is complete and no hunt has ended, so that the call goes on
goes_on : {A : Type 0} (stop l : Bool) (x y : A) → l ≡ false → cond (halts stop false l) x y ≡ y
goes_on true l x y e = rw e
goes_on false l x y e = refl

pub plain_onward : {p : List ℕ} {i j : ℕ} {t u : State} → ((vote : Vote) → Majority vote → (a : List ℕ) → PlainSteps vote p a i t j u)
    → u.framing.unsynced ≡ t.framing.unsynced → u.framing.hunting ≡ t.framing.hunting → Begun p i t → Reaches p i t j u
plain_onward {p} {i} {j} {t} {u} s unsynced mode b = record {
  onward = λ vote same a.
      let n = s vote same a in
      let bytes = plain_bytes n in
      let inside = plain_inside n b.fits.inside in
      record {
        rest = λ stop. plain_rest vote a stop n (rw (unsynced, mode)) ∙ sym (goes_on stop _ _ _ (rw mode (same-mode t.framing.hunting)));
        order = in_order_lem u (plain_ordered n (ordered _ b.order)) (omega (arith, b.fits.limit, inside.0, inside.1));
        bytes_are = bytes;
        forward = inside.0;
        within = inside.1;
        frame-length = plain_frame n ∙ b.frame-length;
      };
  same-mode = mode;
}

-- ---- one part after another

pub none-onward : {p : List ℕ} {i : ℕ} {t : State} → Begun p i t → Reaches p i t i t
none-onward b = plain_onward (λ vote same a. stays) refl refl b

-- after a part in which no hunt ends or begins
pub onward-join : {vote : Vote} {p : List ℕ} {m n o : Moment} {c : Bool} → Onward vote p m n false → n.state.framing.hunting ≡ m.state.framing.hunting
    → Onward vote p n o c → Onward vote p m o c
onward-join {vote} {p} {m} {n} {o} {c} g mode h = record {
  rest = λ stop.
      g.rest stop ∙ goes_on stop _ _ _ (rw mode (same-mode m.state.framing.hunting))
      ∙ subst
      (λ (was : Bool). rest_from vote stop p n ≡ cond (halts stop c (was && not o.state.framing.hunting)) (ends_at o c) (rest_from vote stop p o)) mode
      (h.rest stop);
  order = h.order;
  bytes_are = omega (arith, g.bytes_are, h.bytes_are);
  forward = omega (arith, g.forward, h.forward);
  within = h.within;
  frame-length = h.frame-length;
}

-- one stretch after another
pub reaches_join : {p : List ℕ} {i j k : ℕ} {t u v : State} → Reaches p i t j u → Reaches p j u k v → Reaches p i t k v
reaches_join g h = record {
  onward = λ vote same a. onward-join (g.onward vote same a) g.same-mode (h.onward vote same a);
  same-mode = h.same-mode ∙ g.same-mode;
}

-- the call ends after a part, or goes on
module _ {vote : Vote} {p : List ℕ} {m n : Moment} {c : Bool} (g : Onward vote p m n c) (stop : Bool) where
  pub onward-ends : halts stop c (locks_at m n) ≡ true → rest_from vote stop p m ≡ ends_at n c
  onward-ends e = g.rest stop ∙ rw e

  pub onward-more : halts stop c (locks_at m n) ≡ false → rest_from vote stop p m ≡ rest_from vote stop p n
  onward-more e = g.rest stop ∙ rw e

-- what the next part finds
pub onward-begun : {vote : Vote} {p : List ℕ} {m n : Moment} {c : Bool} → Onward vote p m n c → Begun p m.at m.state → Begun p n.at n.state
onward-begun g b = record {
  order = g.order;
  fits = record { inside = g.within; limit = omega (arith, g.bytes_are, g.forward, g.within, b.fits.limit) };
  frame-length = g.frame-length;
}

-- ---- counts added at once

-- n bytes and w words more, with the first copies f and s
abbrev counted : Groups → ℕ → ℕ → ℕ → ℕ → Groups
counted g n w f s = record {
  bytes = g.bytes + n;
  fill = g.fill + (n - 4 * w);
  stray = g.stray;
  voted = g.voted + w;
  split = g.split;
  weak = g.weak;
  «open» = g.«open»;
  first = f;
  second = s;
}

last_any : (ws : List ℕ) (y z : ℕ) → 0 < length ws → last_or ws y ≡ last_or ws z
last_any [] y z h = absurd (omega arith)
last_any (x ∷ ws) y z h = refl

module _ (g : Groups) (n : ℕ) (ws : List ℕ) (w x : ℕ) (h : Words ws w x) where
  pub no_words : w ≡ 0 → counted g n w g.first g.second ≡ with_words g n ws
  no_words z = rw h.count-is (go ws (sym h.count-is ∙ z))
    where
      go : (vs : List ℕ) → length vs ≡ 0 → counted g n (length vs) g.first g.second ≡ with_words g n vs
      go [] e = refl
      go (v ∷ vs) e = absurd (omega arith)

  pub some_words : (w ≡ 0 → ⊥) → counted g n w x x ≡ with_words g n ws
  some_words z =
      let some : 0 < w = omega (arith, z) in
      let first : x ≡ last_or ws g.first = h.last_is some ∙ last_any ws 0 g.first (omega (arith, h.count-is)) in
      let second : x ≡ last_or ws g.second = h.last_is some ∙ last_any ws 0 g.second (omega (arith, h.count-is)) in
      rw (h.count-is, ← first, ← second)

-- the last of the words stands in the frame
last_stored : (ws f : List ℕ) (q : ℕ) → q + length ws ≤ length f → 0 < length ws → get_or (sets f q ws) (q + length ws - 1) 0 ≡ last_or ws 0
last_stored [] f q h s = absurd (omega arith)
last_stored (x ∷ []) f q h s = let e : q + 1 - 1 ≡ q = omega arith in rw e (get_or-set_same f q x 0 (omega arith))
last_stored (x ∷ y ∷ vs) f q h s =
    let e : q + suc (suc (length vs)) - 1 ≡ suc q + suc (length vs) - 1 = omega arith in
    rw e (last_stored (y ∷ vs) (set f q x) (suc q) (omega (arith, length-set f q x)) (omega arith))

-- ---- stretches

-- three equal copies give their word where two decide
all-agree : {vote : Vote} → Majority vote → Unanimous vote
all-agree decides = record { all_three = λ x. decides.first_two x x }

-- the layers with these parts
abbrev pub layers_of : Groups → Framing → Runs → Layers
layers_of g f r = record { groups = g; framing = f; runs = r }

module _ {l : Layers} {frame p : List ℕ} {i : ℕ} (b : Begun p i (state_with l frame)) where
  pub placed-words : {j q : ℕ} {frame' : List ℕ} (s : Stored p i j l.framing.placed q frame frame') (w x : ℕ) → w ≡ q - l.framing.placed
      → l.framing.placed ≤ 127 → (0 < q → x ≡ get_or frame' (q - 1) 0) → Words s.words w x
  placed-words {q = q} s w x ew h ex = record {
    count-is = omega (arith, s.place_is);
    last_is = λ z.
        let some : 0 < length s.words = omega (arith, s.place_is) in
        let room = s.room h in
        let stored = last_stored s.words frame l.framing.placed (omega (arith, s.place_is, b.frame-length)) some in
        ex (omega (arith, s.place_is)) ∙ rw (s.frame_is, s.place_is) stored;
  }

  -- no group is open
  module _ (closed : l.groups.«open» ≡ 0) where
    abbrev t : State
    t = state_with l frame

    pub place-onward : {j q : ℕ} {frame' : List ℕ} (s : Stored p i j l.framing.placed q frame frame') {g : Groups}
        → l.framing.hunting ≡ false → l.framing.placed ≤ 127 → g ≡ with_words l.groups (j - i) s.words
        → Reaches p i t j (state_with (layers_of g (with_placed l.framing (length s.words)) l.runs) frame')
    place-onward s h r e =
        rw (e, s.frame_is)
        (plain_onward
        (λ vote decides a.
        placed-plain (all-agree decides) {a = a} s.stretch t record { closed = closed; places = h; room = omega (arith, s.place_is, s.room r) }) refl refl b)

    pub hunt-onward : {j w x : ℕ} (s : Hunted p i j w x) {g : Groups} → l.framing.hunting ≡ true → l.framing.matched ≡ 0
        → g ≡ with_words l.groups (j - i) s.words → Reaches p i t j (state_with (layers_of g (with_hunted l.framing w) l.runs) frame)
    hunt-onward s h m e =
        rw (e, s.count-is)
        (plain_onward
        (λ vote decides a.
        hunted_plain (all-agree decides) {a = a} s.stretch t record { closed = closed; hunts = h; unmatched = m; none_begins = s.none_begins }) refl refl b)

    pub quiet_onward : {j k : ℕ} {g : Groups} → Quiet p i j k → g ≡ with_quiet l.groups (j - i) k
        → Reaches p i t j (state_with (layers_of g l.framing l.runs) frame)
    quiet_onward q e = rw e (plain_onward (λ vote same a. quiet_plain q t closed) refl refl b)

    -- SYNC and two copies
    pub opened-onward : {x y : ℕ} → Byte p i SYNC → Byte p (i + 1) x → Byte p (i + 2) y
        → Reaches p i t (i + 3) (state_with (layers_of (opened l.groups 3 x y) l.framing l.runs) frame)
    opened-onward sync x y = plain_onward (λ vote same a. group_opens t closed sync x y) refl refl b

    -- the last n bytes of the piece, which are the first ones of a group
    module _ (sync : Byte p i SYNC) {x y : ℕ} (first : ByteOr p (i + 1) l.groups.first x) (second : ByteOr p (i + 2) l.groups.second y) where
      pub last_onward : (n : ℕ) → length p ≡ i + n → 0 < n → n ≤ 3
          → Reaches p i t (length p) (state_with (layers_of (opened l.groups n x y) l.framing l.runs) frame)
      last_onward zero e h k = absurd (omega arith)
      last_onward (suc zero) e h k =
          let none = first.beyond (omega arith) in
          let nor = second.beyond (omega arith) in
          rw (e, none, nor) (plain_onward (λ vote same a. sync-opens t closed sync) refl refl b)
      last_onward (suc (suc zero)) e h k =
          let one : Byte p (i + 1) x = record { inside = omega arith; is = sym (first.there (omega arith)) } in
          let none = second.beyond (omega arith) in
          rw (e, none) (plain_onward (λ vote same a. first-opens t closed sync one) refl refl b)
      last_onward (suc (suc (suc zero))) e h k =
          let one : Byte p (i + 1) x = record { inside = omega arith; is = sym (first.there (omega arith)) } in
          let two : Byte p (i + 2) y = record { inside = omega arith; is = sym (second.there (omega arith)) } in
          rw e (opened-onward sync one two)
      last_onward (suc (suc (suc (suc n)))) e h k = absurd (omega arith)
