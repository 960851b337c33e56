-- A lock that awaits its word: behind the byte that ends a hunt no group is open and the next word is place 0; bytes that give no word leave it so, and
-- stop no call. Assumes nothing.
use mathlib.Core.Path.{◌≡◌, refl, sym, ap, ◌∙◌}
use mathlib.Core.Bool.{Bool, true, false, cond, ◌&&◌, not, true≢false}
use mathlib.Core.List.{List, [], ◌∷◌, ◌++◌}
use mathlib.Core.Option.{Option, none, some}
use Prim.Native.Nat.{ℕ, zero, suc, ◌+◌, ◌≤◌, ◌<◌}
use native.Mathlib.Omega.{arith}
use lib.Dec.{eqb, ltb}
use borrow.Author.Tests.{lt-ltb}
use lib.ListN.{length}
use Rattle.base.specs.Lists.{one}
use Rattle.labelling.specs.declared.FrameClass.{FrameClass}
use Rattle.labelling.specs.declared.Framing.{Framing}
use Rattle.labelling.specs.declared.Groups.{Groups}
use Rattle.labelling.specs.declared.Word.{Word}
use Rattle.labelling.specs.declared.Word.TheVariants.{Voted, Erased}
use Rattle.labelling.specs.Words.{Vote, filling, straying, outside, groups, words}
use Rattle.base.specs.Format.{SYNC, FILL}
use Rattle.labelling.specs.MinorFrames.{is_word}
use Rattle.labelling.specs.Machine.{ByteEvent, outer, first_copy, second_copy, closes, after_byte, WordEvent, hunts, locks, fills, closes_frame}
use Rattle.labelling.specs.Machine.{sync_word, synced_bytes, bytes_class, filled, marked, word_event, after_word, State, Now, word_step, word_given}
use Rattle.labelling.specs.Machine.{byte_event, byte_step}
use Rattle.labelling.specs.Calls.{Progress, feed}
use Rattle.labelling.proofs.ByteLayer.{as_list}
use Rattle.labelling.proofs.Feeding.{feed-complete, feed-more}
use Rattle.labelling.proofs.Ordered.{Ordered, ordered_byte}
use Rattle.own_sync.specs.Locks.{ends_hunt, locks as lockCount, up_to}
use Rattle.own_sync.specs.Relocking.{open_group}
use Rattle.own_sync.proofs.Locks.{same-mode, locks-byte, stops_at, up_stop, up_on}
use Rattle.own_sync.proofs.OpenGroup.{ahead}

-- SYNC stands nowhere in the bytes
abbrev pub NoSync : List ℕ → Type 0
NoSync [] = Unit {0}
NoSync (b ∷ p) = (eqb b SYNC ≡ false) × NoSync p

-- no group is open, and the next word is place 0
pub record Waits (t : State) : Type 0 where
  pub places : t.framing.hunting ≡ false
  pub at_first : t.framing.placed ≡ 0
  pub outside_group : t.groups.«open» ≡ 0

none≢some : {w : Word} → ◌≡◌ {A = Option Word} none (some w) → ⊥
none≢some e = true≢false (ap (λ (o : Option Word). elim o [ none ↦ true | some x ↦ false ]) e)

-- ---- a hunt ends

-- a byte that gives a word leaves no group open
closes_group : (e : ByteEvent) (g : Groups) (b : ℕ) (w : Word) → word_given e ≡ some w → (after_byte e g b).«open» ≡ 0
closes_group (outer k) g b w q = absurd (none≢some q)
closes_group first_copy g b w q = absurd (none≢some q)
closes_group second_copy g b w q = absurd (none≢some q)
closes_group (closes (Voted n) k) g b w q = refl
closes_group (closes Erased k) g b w q = refl

-- a word that ends a hunt: the next is place 0
hunt-locks : (f : Framing) (frame : List ℕ) (w : Word) → (f.hunting ≡ true → f.placed ≡ 0)
    → let g = after_word (word_event f frame w) f w in ends_hunt f g ≡ true → (g.hunting ≡ false) × (g.placed ≡ 0)
unfolding word_event
hunt-locks f frame w empty = go f.hunting refl (is_word (sync_word f.matched) w) (eqb f.matched 2) (is_word (sync_word 0) w) (ltb f.placed 127)
  where
    Locks : WordEvent → Type 0
    Locks v = ends_hunt f (after_word v f w) ≡ true → ((after_word v f w).hunting ≡ false) × ((after_word v f w).placed ≡ 0)

    still : f.hunting ≡ true → (f.hunting && not true) ≡ true → ⊥
    still h z = true≢false (sym z ∙ rw h)

    not_hunting : (b : Bool) → f.hunting ≡ false → (f.hunting && not b) ≡ true → ⊥
    not_hunting b h z = true≢false (sym z ∙ rw h)

    class : FrameClass
    class = bytes_class (synced_bytes (filled f frame w)) (marked f w)

    go : (h : Bool) → f.hunting ≡ h → (next last first room : Bool)
        → let hunted = cond next (cond last locks (hunts (f.matched + 1))) (cond first (hunts 1) (hunts 0)) in
        Locks (cond h hunted (cond room fills (closes_frame class)))
    go true h true true first room = λ z. (refl, empty h)
    go true h true false first room = λ z. absurd (still h z)
    go true h false last true room = λ z. absurd (still h z)
    go true h false last false room = λ z. absurd (still h z)
    go false h next last first true = λ z. absurd (not_hunting false h z)
    go false h next last first false = λ z. absurd (not_hunting (after_word (closes_frame class) f w).hunting h z)

module _ (vote : Vote) where
  lock_waits : (t : State) (a : List ℕ) (b : ℕ) → Ordered t → let n = byte_step vote t a b in ends_hunt t.framing n.state.framing ≡ true
      → Waits n.state
  unfolding byte_step
  lock_waits t a b o = go (word_given e) refl
    where
      e : ByteEvent
      e = byte_event vote t.groups.«open» t.groups b

      go : (m : Option Word) → word_given e ≡ m
          → let n = word_step m (after_byte e t.groups b) t a in ends_hunt t.framing n.state.framing ≡ true → Waits n.state
      go none em z = absurd (true≢false (sym z ∙ same-mode t.framing.hunting))
      go (some w) em z =
          let r = hunt-locks t.framing t.frame w o.in_framing.hunting_unplaced z in
          record { places = r.0; at_first = r.1; outside_group = closes_group e t.groups b w em }

  -- a call as far as a lock, where there was one
  abbrev WaitsAfter : List ℕ → State → List ℕ → Type 0
  WaitsAfter p t a = let r = feed vote t a (up_to vote true t a p) in lockCount t.framing < lockCount r.state.framing → Waits r.state

  pub locked-waits : (p : List ℕ) (t : State) (a : List ℕ) → Ordered t → WaitsAfter p t a
  locked-waits [] t a o = λ z. absurd (omega arith)
  locked-waits (b ∷ p) t a o = go (stops_at vote true t a b) refl n.complete refl (locked-waits p n.state n.area (ordered_byte vote t a b o))
    where
      n : Now
      n = byte_step vote t a b

      more : List ℕ
      more = up_to vote true n.state n.area p

      same : stops_at vote true t a b ≡ false → lockCount n.state.framing ≡ lockCount t.framing
      same l = omega (arith, locks-byte vote t a b, ap one l)

      go : (l : Bool) → stops_at vote true t a b ≡ l → (c : Bool) → n.complete ≡ c → WaitsAfter p n.state n.area → WaitsAfter (b ∷ p) t a
      go true l true e ih = rw (up_stop vote true t a b p l, feed-complete vote t a b [] e) (λ z. lock_waits t a b o l)
      go true l false e ih = rw (up_stop vote true t a b p l, feed-more vote t a b [] e) (λ z. lock_waits t a b o l)
      go false l true e ih = rw (up_on vote true t a b p l, feed-complete vote t a b more e) (λ z. absurd (omega (arith, same l)))
      go false l false e ih = rw (up_on vote true t a b p l, feed-more vote t a b more e) (λ z. ih (omega (arith, same l)))

  -- ---- bytes that give no word

  -- the call takes them all, and the second layer stays
  pub record Passes (t : State) (p : List ℕ) (r : Progress) : Type 0 where
    pub none-complete : r.complete ≡ false
    pub takes_all : r.taken ≡ length p
    pub framing_stays : r.state.framing ≡ t.framing

  -- one of them
  record PassesByte (t : State) (n : Now) (g : Groups) : Type 0 where
    groups_are : n.state.groups ≡ g
    no_complete : n.complete ≡ false
    stays : n.state.framing ≡ t.framing

  passes_byte : (t : State) (a : List ℕ) (b : ℕ) → word_given (byte_event vote t.groups.«open» t.groups b) ≡ none
      → PassesByte t (byte_step vote t a b) (after_byte (byte_event vote t.groups.«open» t.groups b) t.groups b)
  unfolding byte_step
  passes_byte t a b e = rw e (record { groups_are = refl; no_complete = refl; stays = refl })

  no_word : (m : Option Word) (ws : List Word) → as_list m ++ ws ≡ [] → (m ≡ none) × (ws ≡ [])
  no_word none ws e = (refl, e)
  no_word (some w) ws e = absurd (omega (arith, ap length e))

  abbrev PassesAll : List ℕ → State → List ℕ → Type 0
  PassesAll p t a = Passes t p (feed vote t a (up_to vote true t a p))

  pub passes_all : (p : List ℕ) (t : State) (a : List ℕ) → Ordered t → words vote (open_group t.groups ++ p) ≡ [] → PassesAll p t a
  passes_all [] t a o h = record { none-complete = refl; takes_all = refl; framing_stays = refl }
  passes_all (b ∷ p) t a o h = go (passes_all p n.state n.area (ordered_byte vote t a b o))
    where
      n : Now
      n = byte_step vote t a b

      e : ByteEvent
      e = byte_event vote t.groups.«open» t.groups b

      none-given : (word_given e ≡ none) × (words vote (open_group (after_byte e t.groups b) ++ p) ≡ [])
      none-given = no_word (word_given e) _ (sym (ahead vote t.groups o.in_groups.few_open b p) ∙ h)

      byte : PassesByte t n (after_byte e t.groups b)
      byte = passes_byte t a b none-given.0

      no_stop : stops_at vote true t a b ≡ false
      no_stop = rw byte.stays (same-mode t.framing.hunting)

      go : (words vote (open_group n.state.groups ++ p) ≡ [] → PassesAll p n.state n.area) → PassesAll (b ∷ p) t a
      go ih =
          let r = ih (rw byte.groups_are none-given.1) in
          rw (up_on vote true t a b p no_stop, feed-more vote t a b (up_to vote true n.state n.area p) byte.no_complete)
          (record { none-complete = r.none-complete; takes_all = omega (arith, r.takes_all); framing_stays = r.framing_stays ∙ byte.stays })

  -- bytes that are no SYNC leave no group open
  quiet_byte : (n : ℕ) (g : Groups) (b : ℕ) → n ≡ 0 → eqb b SYNC ≡ false
      → let e = byte_event vote n g b in (word_given e ≡ none) × ((after_byte e g b).«open» ≡ 0)
  unfolding outside
  quiet_byte zero g b z h = rw h (go (eqb b FILL))
    where
      go : (f : Bool) → let e = outer (cond f filling straying) in (word_given e ≡ none) × ((after_byte e g b).«open» ≡ 0)
      go true = (refl, refl)
      go false = (refl, refl)
  quiet_byte (suc n) g b z h = absurd (omega arith)

  abbrev QuietAll : List ℕ → State → List ℕ → Type 0
  QuietAll p t a = (feed vote t a (up_to vote true t a p)).state.groups.«open» ≡ 0

  -- SYNC stands nowhere in the bytes
  pub quiet_all : (p : List ℕ) (t : State) (a : List ℕ) → NoSync p → t.groups.«open» ≡ 0 → QuietAll p t a
  quiet_all [] t a q z = z
  quiet_all (b ∷ p) t a q z = go (quiet_all p n.state n.area q.1)
    where
      n : Now
      n = byte_step vote t a b

      e : ByteEvent
      e = byte_event vote t.groups.«open» t.groups b

      given : (word_given e ≡ none) × ((after_byte e t.groups b).«open» ≡ 0)
      given = quiet_byte t.groups.«open» t.groups b z q.0

      byte : PassesByte t n (after_byte e t.groups b)
      byte = passes_byte t a b given.0

      no_stop : stops_at vote true t a b ≡ false
      no_stop = rw byte.stays (same-mode t.framing.hunting)

      go : (n.state.groups.«open» ≡ 0 → QuietAll p n.state n.area) → QuietAll (b ∷ p) t a
      go ih =
          rw (up_on vote true t a b p no_stop, feed-more vote t a b (up_to vote true n.state n.area p) byte.no_complete)
          (ih (ap (λ (g : Groups). g.«open») byte.groups_are ∙ given.1))

  pub quiet_words : (p : List ℕ) → NoSync p → words vote p ≡ []
  unfolding words outside
  quiet_words [] q = refl
  quiet_words (b ∷ p) q = go (eqb b FILL) refl (quiet_words p q.1)
    where
      go : (f : Bool) → eqb b FILL ≡ f → words vote p ≡ [] → words vote (b ∷ p) ≡ []
      go true e ih = rw (q.0, e, groups) ih
      go false e ih = rw (q.0, e, groups) ih

  -- ---- few bytes behind a lock complete nothing

  -- a byte fills one place at most
  record Fills (t : State) (n : Now) : Type 0 where
    no_major : n.complete ≡ false
    still_places : n.state.framing.hunting ≡ false
    one_more : n.state.framing.placed ≤ t.framing.placed + 1

  fills_one : (t : State) (a : List ℕ) (b : ℕ) → t.framing.hunting ≡ false → t.framing.placed < 127 → Fills t (byte_step vote t a b)
  unfolding byte_step word_event
  fills_one t a b h few = go (word_given e)
    where
      e : ByteEvent
      e = byte_event vote t.groups.«open» t.groups b

      go : (m : Option Word) → Fills t (word_step m (after_byte e t.groups b) t a)
      go none = record { no_major = refl; still_places = h; one_more = omega arith }
      go (some w) = rw (h, lt-ltb t.framing.placed 127 few) (record { no_major = refl; still_places = refl; one_more = omega arith })

  pub few_complete_none : (p : List ℕ) (t : State) (a : List ℕ) → t.framing.hunting ≡ false → t.framing.placed + length p ≤ 127
      → (feed vote t a p).complete ≡ false
  few_complete_none [] t a h few = refl
  few_complete_none (b ∷ p) t a h few =
      let x = fills_one t a b h (omega arith) in
      let n = byte_step vote t a b in
      rw (feed-more vote t a b p x.no_major) (few_complete_none p n.state n.area x.still_places (omega (arith, x.one_more)))
