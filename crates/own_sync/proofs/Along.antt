-- The machine along the two lists: a byte of the reel is handed in, and the words of both grow by the word it gives; where it ends a hunt, a lock is
-- met. A call as far as a lock is its bytes. Assumes nothing.
use mathlib.Core.Path.{◌≡◌, refl, sym, ap, ap₂, ◌∙◌}
use mathlib.Core.Bool.{Bool, true, false, ◌&&◌, ◌||◌, not, true≢false, and-true, and-false, and_assoc, or-false}
use mathlib.Core.List.{List, [], ◌∷◌, ◌++◌, append_assoc, append-nil}
use mathlib.Core.Option.{Option, none, some}
use Prim.Native.Nat.{ℕ, ◌+◌, ◌≤◌}
use native.Mathlib.Numerals.{add-one}
use native.Mathlib.Omega.{arith}
use lib.ListN.{length, take, length-append}
use Rattle.base.specs.Lists.{one}
use Rattle.labelling.specs.declared.Word.{Word}
use Rattle.labelling.specs.Words.{Vote, words}
use Rattle.labelling.specs.MinorFrames.{frames}
use Rattle.labelling.specs.MajorFrames.{majors}
use Rattle.labelling.specs.Machine.{ByteEvent, after_byte, State, start, Now, word_step, word_given, byte_event, byte_step}
use Rattle.labelling.specs.Calls.{Progress, and_one, feed}
use Rattle.labelling.specs.Once.{frames_in, majors_in, Pays}
use Rattle.labelling.proofs.ByteLayer.{as_list, words_step}
use Rattle.labelling.proofs.FramingState.{framing_rest}
use Rattle.labelling.proofs.Feeding.{feed-complete, feed-more, WholeInv, inv_start, Grown, inv_byte}
use Rattle.own_sync.specs.Locks.{ends_hunt, locks as lockCount, up_to}
use Rattle.own_sync.specs.OwnCut.{ends_behind}
use Rattle.own_sync.specs.Relocking.{open_group, no_word}
use Rattle.own_sync.proofs.Locks.{same-mode, locks-byte, up_stop, up_on}
use Rattle.own_sync.proofs.OpenGroup.{given, ahead, none_ahead, Pending, pending_of, pending_words, pending_step}
use Rattle.own_sync.proofs.Beside.{Stage, in_hunt, in_frame, at-lock, led_in, hunts, Settled, is_at_lock, Decides, Beside, beside_start}
use Rattle.own_sync.proofs.Beside.{hunts-now, Next, next_word}

-- ---- what may come

-- the words ws come next
abbrev pub Ahead : Stage → List Word → Type 0
Ahead in_hunt ws = Unit {0}
Ahead (in_frame found) ws = Unit {0}
Ahead at-lock ws = ends_behind ws ≡ true
Ahead led_in ws = ends_behind ws ≡ false

ahead_decides : (s : Stage) (w : Word) (ws : List Word) → Ahead s (w ∷ ws) → Decides s w
ahead_decides in_hunt w ws h = tt
ahead_decides (in_frame found) w ws h = tt
ahead_decides at-lock w ws h = h
ahead_decides led_in w ws h = h

-- what is settled and is at no lock may go on with any words
ahead_free : (s : Stage) → Settled s → is_at_lock s ≡ false → (ws : List Word) → Ahead s ws
ahead_free in_hunt k e ws = tt
ahead_free (in_frame found) k e ws = tt
ahead_free at-lock k e ws = absurd (true≢false e)
ahead_free led_in k e ws = absurd k

-- without a word ahead it is settled
ahead_settled : (s : Stage) → Ahead s [] → Settled s
ahead_settled in_hunt h = tt
ahead_settled (in_frame found) h = tt
ahead_settled at-lock h = tt
ahead_settled led_in h = true≢false h

module _ (vote : Vote) (a₀ : List ℕ) where
  -- the bytes js are handed in with n lead-ins among them, and bs are the reel's; the machine has t and the area a
  pub record Along (t : State) (a js bs : List ℕ) (s : Stage) (p : List Word) (n : ℕ) : Type 0 where
    pub inv : WholeInv vote a₀ t a js
    pub pending : Pending vote t.groups bs
    pub beside : Beside s p (words vote js) (words vote bs) n

  pub along_start : length a₀ ≡ 16384 → Along start a₀ [] [] in_hunt [] 0
  unfolding words
  along_start whole =
      let inv = inv_start vote a₀ whole in
      record { inv = inv; pending = pending_of vote inv.in_groups; beside = beside_start }

  -- the words that the bytes ys give after the state t
  abbrev pub comes : State → List ℕ → List Word
  comes t ys = words vote (open_group t.groups ++ ys)

  module _ {t : State} {a js bs : List ℕ} {s : Stage} {p : List Word} {n : ℕ} (i : Along t a js bs s p n) where
    -- whether the machine hunts
    pub hunting_is : t.framing.hunting ≡ hunts s
    hunting_is = (framing_rest t.framing t.frame (words vote js) i.inv.in_framing).hunting_is ∙ hunts-now i.beside

    pub few_open : t.groups.«open» ≤ 3
    few_open = i.inv.in_groups.few_open

  -- where no frame closes, no major frame is complete
  pub none-complete : (c : Bool) (js ys a : List ℕ) (new : List (List (List Word))) → Pays c new a → majors_in vote ys ≡ majors_in vote js ++ new
      → frames_in vote ys ≡ frames_in vote js → c ≡ false
  unfolding majors_in
  none-complete false js ys a new h more same = refl
  none-complete true js ys a new h more same =
      let l : majors (frames_in vote js) ≡ majors (frames_in vote js) ++ new = ap majors (sym same) ∙ more in
      absurd (omega (arith, ap length l, length-append (majors (frames_in vote js)) new, ap length h.1))

  -- ---- a byte of the reel

  module _ (t : State) (a js bs : List ℕ) (s : Stage) (p : List Word) (n b : ℕ) (i : Along t a js bs s p n) where
    abbrev now : Now
    now = byte_step vote t a b

    abbrev AfterByte : Stage → List Word → Type 0
    AfterByte s' p' = Along now.state now.area (js ++ b ∷ []) (bs ++ b ∷ []) s' p' n

    -- after it, where the bytes ys follow
    pub record Onward (ys : List ℕ) : Type 0 where
      pub stage : Stage
      pub rest : List Word
      pub along : AfterByte stage rest
      -- a lock is met
      pub lock : Bool
      pub lock_is : ends_hunt t.framing now.state.framing ≡ lock
      pub at-lock_is : is_at_lock stage ≡ (lock || (is_at_lock s && no_word (comes t (b ∷ []))))
      -- what may come after it; where a major frame is complete, the stage is settled
      pub still_ahead : lock ≡ false → Ahead stage (comes now.state ys)
      pub quiet : now.complete ≡ true → Settled stage
      -- only a word stops the call
      pub without_word : no_word (comes t (b ∷ [])) ≡ true → (lock ≡ false) × (now.complete ≡ false)
      pub more-words : (ys : List ℕ) → comes t (b ∷ ys) ≡ comes t (b ∷ []) ++ comes now.state ys

    abbrev event : ByteEvent
    event = byte_event vote t.groups.«open» t.groups b

    groups_after : now.state.groups ≡ after_byte event t.groups b
    unfolding byte_step
    groups_after = go (word_given event)
      where
        go : (m : Option Word) → (word_step m (after_byte event t.groups b) t a).state.groups ≡ after_byte event t.groups b
        go none = refl
        go (some w) = refl

    -- the two lists after it
    along_with : {s' : Stage} {p' : List Word} → Beside s' p' (words vote (js ++ b ∷ [])) (words vote (bs ++ b ∷ [])) n → AfterByte s' p'
    along_with beside = record {
      inv = (inv_byte vote a₀ t a js b i.inv).inv;
      pending = rw groups_after (pending_step vote t.groups (few_open i) b bs i.pending);
      beside = beside;
    }

    comes-one : comes t (b ∷ []) ≡ as_list (word_given event)
    comes-one = given vote t.groups (few_open i) b

    comes-more : (ys : List ℕ) → comes t (b ∷ ys) ≡ as_list (word_given event) ++ comes now.state ys
    comes-more ys = rw groups_after (ahead vote t.groups (few_open i) b ys)

    lock_now : {s' : Stage} {p' : List Word} → AfterByte s' p' → ends_hunt t.framing now.state.framing ≡ (hunts s && not (hunts s'))
    lock_now x = ap₂ (λ (y z : Bool). y && not z) (hunting_is i) (hunting_is x)

    pub along_byte : (ys : List ℕ) → Ahead s (comes t (b ∷ ys)) → Onward ys
    unfolding frames_in
    along_byte ys h = go (word_given event) refl
      where
        grown : Grown vote a₀ now.state now.area now.complete js (js ++ b ∷ [])
        grown = inv_byte vote a₀ t a js b i.inv

        js_words : words vote (js ++ b ∷ []) ≡ words vote js ++ as_list (word_given event)
        js_words = words_step vote t.groups b js i.inv.in_groups

        bs_words : words vote (bs ++ b ∷ []) ≡ words vote bs ++ as_list (word_given event)
        bs_words = pending_words vote t.groups (few_open i) b bs i.pending

        more-words : (ys : List ℕ) → comes t (b ∷ ys) ≡ comes t (b ∷ []) ++ comes now.state ys
        more-words ys = comes-more ys ∙ ap (λ (l : List Word). l ++ comes now.state ys) (sym comes-one)

        no_word-met : word_given event ≡ none → Onward ys
        no_word-met e = record {
          stage = s;
          rest = p;
          along = x;
          lock = false;
          lock_is = lock_now x ∙ same-mode (hunts s);
          at-lock_is = rw (comes-one, e) (sym (and-true (is_at_lock s)));
          still_ahead = λ _. rw (comes-more ys, e) at h;
          quiet = λ c. absurd (true≢false (sym c ∙ not_complete));
          without_word = λ _. (refl, not_complete);
          more-words = more-words;
        }
          where
            same-js : words vote (js ++ b ∷ []) ≡ words vote js
            same-js = js_words ∙ rw e (append-nil (words vote js))

            same-bs : words vote (bs ++ b ∷ []) ≡ words vote bs
            same-bs = bs_words ∙ rw e (append-nil (words vote bs))

            x : AfterByte s p
            x = along_with (rw (same-js, same-bs) i.beside)

            not_complete : now.complete ≡ false
            not_complete = none-complete now.complete js (js ++ b ∷ []) now.area grown.new grown.holds grown.more (ap frames same-js)

        word-met : (w : Word) → word_given event ≡ some w → Onward ys
        word-met w e = record {
          stage = next.stage;
          rest = next.rest;
          along = x;
          lock = lock;
          lock_is = lock_now x;
          at-lock_is = next.lock_is ∙ rw (comes-one, e, and-false) (sym (or-false lock));
          still_ahead = λ z. ahead_free next.stage next.settled (next.lock_is ∙ z) _;
          quiet = λ c. next.settled;
          without_word = λ z. absurd (true≢false (sym z ∙ rw (comes-one, e)));
          more-words = more-words;
        }
          where
            decides : Decides s w
            decides = ahead_decides s w _ (rw (comes-more ys, e) at h)

            next : Next s (words vote js) (words vote bs) n w
            next = next_word s w decides i.beside

            x : AfterByte next.stage next.rest
            x = along_with (rw (js_words, bs_words, e) next.beside)

            lock : Bool
            lock = hunts s && not (hunts next.stage)

        go : (m : Option Word) → word_given event ≡ m → Onward ys
        go none e = no_word-met e
        go (some w) e = word-met w e

  -- ---- a call as far as a lock

  -- after js and bs, of the part of a piece that the call is for the answer r has taken what it should; s was the stage before, and t the state
  pub record Part (t : State) (js bs : List ℕ) (s : Stage) (n : ℕ) (piece part : List ℕ) (r : Progress) : Type 0 where
    pub stage : Stage
    pub rest : List Word
    pub along : Along r.state r.area (js ++ take r.taken part) (bs ++ take r.taken part) stage rest n
    pub settled : Settled stage
    pub lock : Bool
    pub count : lockCount r.state.framing ≡ lockCount t.framing + one lock
    pub at-lock_is : is_at_lock stage ≡ (lock || (is_at_lock s && no_word (comes t piece)))

  no_word-both : (l m : List Word) → no_word (l ++ m) ≡ (no_word l && no_word m)
  no_word-both [] m = refl
  no_word-both (w ∷ l) m = refl

  module _ (t : State) (a js bs : List ℕ) (s : Stage) (p : List Word) (n b : ℕ) (ys : List ℕ) (i : Along t a js bs s p n)
      (o : Onward t a js bs s p n b i ys) where
    abbrev after : State
    after = (byte_step vote t a b).state

    -- whether the bytes ys and the byte before them give no word
    no_word-more : no_word (comes t (b ∷ ys)) ≡ (no_word (comes t (b ∷ [])) && no_word (comes after ys))
    no_word-more = ap no_word (o.more-words ys) ∙ no_word-both (comes t (b ∷ [])) (comes after ys)

    -- one byte, where the call stops
    part-one : (rest : List ℕ) (c : Bool) → no_word (comes t (b ∷ [])) ≡ false → Settled o.stage
        → let m = byte_step vote t a b in Part t js bs s n (b ∷ ys) (b ∷ rest) (record { state = m.state; area = m.area; taken = 1; complete = c })
    part-one rest c met settled = record {
      stage = o.stage;
      rest = o.rest;
      along = o.along;
      settled = settled;
      lock = o.lock;
      count = locks-byte vote t a b ∙ rw o.lock_is;
      at-lock_is = rw (no_word-more, met) (rw met at o.at-lock_is);
    }

    -- one byte, and then the rest
    part-more : (part : List ℕ) (r : Progress) → o.lock ≡ false → Part after (js ++ b ∷ []) (bs ++ b ∷ []) o.stage n ys part r
        → Part t js bs s n (b ∷ ys) (b ∷ part) (and_one r)
    part-more part r z q = record {
      stage = q.stage;
      rest = q.rest;
      along = rw (add-one, ← append_assoc js (b ∷ []) (take r.taken part), ← append_assoc bs (b ∷ []) (take r.taken part)) q.along;
      settled = q.settled;
      lock = q.lock;
      count = omega (arith, q.count, locks-byte vote t a b, ap one (o.lock_is ∙ z));
      at-lock_is = q.at-lock_is ∙ ap (λ (x : Bool). q.lock || x) same;
    }
      where
        same : (is_at_lock o.stage && no_word (comes after ys)) ≡ (is_at_lock s && no_word (comes t (b ∷ ys)))
        same =
            let was : is_at_lock o.stage ≡ (is_at_lock s && no_word (comes t (b ∷ []))) = o.at-lock_is ∙ rw z in
            ap (λ (x : Bool). x && no_word (comes after ys)) was
            ∙ and_assoc (is_at_lock s) (no_word (comes t (b ∷ []))) (no_word (comes after ys))
            ∙ ap (λ (x : Bool). is_at_lock s && x) (sym no_word-more)

  abbrev FedPart : List ℕ → State → List ℕ → List ℕ → List ℕ → Stage → ℕ → Type 0
  FedPart piece t a js bs s n = Part t js bs s n piece (up_to vote true t a piece) (feed vote t a (up_to vote true t a piece))

  pub fed-part : (piece : List ℕ) (t : State) (a js bs : List ℕ) (s : Stage) (p : List Word) (n : ℕ) → Along t a js bs s p n → Ahead s (comes t piece)
      → FedPart piece t a js bs s n
  fed-part [] t a js bs s p n i h = record {
    stage = s;
    rest = p;
    along = rw (append-nil js, append-nil bs) i;
    settled = ahead_settled s (rw (none_ahead vote t.groups (few_open i)) at h);
    lock = false;
    count = omega arith;
    at-lock_is = rw (none_ahead vote t.groups (few_open i)) (sym (and-true (is_at_lock s)));
  }
  fed-part (b ∷ piece) t a js bs s p n i h = go m.complete refl o.lock refl (no_word (comes t (b ∷ []))) refl (fed-part piece)
    where
      m : Now
      m = byte_step vote t a b

      o : Onward t a js bs s p n b i piece
      o = along_byte t a js bs s p n b i piece h

      more : List ℕ
      more = up_to vote true m.state m.area piece

      at-a_lock : (x : Stage) (c d : Bool) → is_at_lock x ≡ (true || (c && d)) → Settled x
      at-a_lock in_hunt c d e = tt
      at-a_lock (in_frame found) c d e = tt
      at-a_lock at-lock c d e = tt
      at-a_lock led_in c d e = true≢false (sym e)

      go : (c : Bool) → m.complete ≡ c → (l : Bool) → o.lock ≡ l → (q : Bool) → no_word (comes t (b ∷ [])) ≡ q
          → ((t : State) (a js bs : List ℕ) (s : Stage) (p : List Word) (n : ℕ) → Along t a js bs s p n → Ahead s (comes t piece)
          → FedPart piece t a js bs s n)
          → FedPart (b ∷ piece) t a js bs s n
      go true e l z true q ih = absurd (true≢false (sym e ∙ (o.without_word q).1))
      go true e true l false q ih =
          rw (up_stop vote true t a b piece (o.lock_is ∙ l), feed-complete vote t a b [] e) (part-one t a js bs s p n b piece i o [] true q (o.quiet e))
      go true e false l false q ih =
          rw (up_on vote true t a b piece (o.lock_is ∙ l), feed-complete vote t a b more e) (part-one t a js bs s p n b piece i o more true q (o.quiet e))
      go false e true l true q ih = absurd (true≢false (sym l ∙ (o.without_word q).0))
      go false e true l false q ih =
          let settled = at-a_lock o.stage (is_at_lock s) (no_word (comes t (b ∷ []))) (o.at-lock_is ∙ rw l) in
          rw (up_stop vote true t a b piece (o.lock_is ∙ l), feed-more vote t a b [] e) (part-one t a js bs s p n b piece i o [] false q settled)
      go false e false l q z ih =
          rw (up_on vote true t a b piece (o.lock_is ∙ l), feed-more vote t a b more e)
          (part-more t a js bs s p n b piece i o more _ l
          (ih m.state m.area (js ++ b ∷ []) (bs ++ b ∷ []) o.stage o.rest n o.along (o.still_ahead l)))
