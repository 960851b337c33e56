-- The move of a step is read off the piece, and what it is then. Assumes nothing.
use mathlib.Core.Path.{◌≡◌, refl, sym, ap, ◌∙◌}
use mathlib.Core.Bool.{Bool, true, false, cond, ◌||◌, true≢false}
use mathlib.Core.List.{List, [], ◌∷◌, ◌++◌}
use Prim.Native.Nat.{ℕ, suc, ◌≤◌, ◌<◌}
use native.Mathlib.Omega.{arith}
use lib.Dec.{eqb}
use lib.ListN.{length, get_or, take, drop}
use lib.Seq.{take_all, drop-cons}
use borrow.Author.Tests.{lt-ltb, le-ltb, eqb-true}
use Rattle.std.specs.Prelude.{Ok}
use Rattle.base.specs.Format.{SYNC}
use Rattle.labelling.specs.Words.{Vote, outside, words}
use Rattle.labelling.specs.Votes.{rule_vote}
use Rattle.labelling.specs.Machine.{State, state_of}
use Rattle.labelling.specs.Calls.{take_refusal, answer}
use Rattle.labelling.proofs.CallLaws.{accepted-answer}
use Rattle.labelling.proofs.Ordered.{Ordered, ordered, tally_ordered}
use Rattle.own_sync.specs.Locks.{to_lock}
use Rattle.own_sync.specs.OwnCut.{ends_behind}
use Rattle.own_sync.specs.Relocking.{open_group, words_next, no_word, OtherWord, other_word}
use Rattle.own_sync.proofs.Locks.{part-accepted}
use Rattle.relocking.specs.declared.Feeder.{Feeder}
use Rattle.relocking.specs.declared.Relocked.{Relocked}
use Rattle.relocking.specs.Relock.{relock_refusal, reads, before_group, gives_first, move, call_on, RelockPromise, ReadsOn, LeadsIn}
use Rattle.relocking.proofs.Waiting.{NoSync, Waits, passes_all, quiet_all, quiet_words}
use Rattle.relocking.proofs.Relocking.{accepts, InOrder, feeder_ordered, waits_now, left_is, step_reads, step_asks, step_leads}

-- ---- the bytes before the first SYNC

-- one more that is no SYNC
pub group_later : (p : List ℕ) (i : ℕ) → i < length p → (eqb (get_or p i 0) SYNC ≡ false) → before_group (drop i p) ≡ suc (before_group (drop (suc i) p))
group_later p i h e = rw (drop-cons p i 0 h, e)

pub group_here : (p : List ℕ) (i : ℕ) → i < length p → (eqb (get_or p i 0) SYNC ≡ true) → before_group (drop i p) ≡ 0
group_here p i h e = rw (drop-cons p i 0 h, e)

-- they are none
pub before-quiet : (p : List ℕ) → NoSync (take (before_group p) p)
before-quiet [] = tt
before-quiet (b ∷ p) = go (eqb b SYNC) refl (before-quiet p)
  where
    go : (s : Bool) → eqb b SYNC ≡ s → NoSync (take (before_group p) p) → NoSync (take (cond s 0 (suc (before_group p))) (b ∷ p))
    go true e ih = tt
    go false e ih = (e, ih)

-- a group at the head: whole or not
pub data AtHead : List ℕ → Type 0 where
  no_byte : AtHead []
  sync_alone : AtHead (SYNC ∷ [])
  one_copy : (x : ℕ) → AtHead (SYNC ∷ x ∷ [])
  two_copies : (x y : ℕ) → AtHead (SYNC ∷ x ∷ y ∷ [])
  whole_group : (x y z : ℕ) (rest : List ℕ) → AtHead (SYNC ∷ x ∷ y ∷ z ∷ rest)

pub at_head : (p : List ℕ) → before_group p ≡ 0 → AtHead p
at_head [] e = no_byte
at_head (b ∷ p) e = go (eqb b SYNC) refl e
  where
    by_length : (p : List ℕ) → AtHead (SYNC ∷ p)
    by_length [] = sync_alone
    by_length (x ∷ []) = one_copy x
    by_length (x ∷ y ∷ []) = two_copies x y
    by_length (x ∷ y ∷ z ∷ rest) = whole_group x y z rest

    go : (s : Bool) → eqb b SYNC ≡ s → cond s 0 (suc (before_group p)) ≡ 0 → AtHead (b ∷ p)
    go true s z = rw (eqb-true b SYNC s) (by_length p)
    go false s z = absurd (omega arith)

-- the words that it gives
module _ (vote : Vote) where
  pub part-words : {p : List ℕ} → AtHead p → length p < 4 → words vote p ≡ []
  unfolding words outside
  part-words no_byte h = refl
  part-words sync_alone h = refl
  part-words (one_copy x) h = refl
  part-words (two_copies x y) h = refl
  part-words (whole_group x y z rest) h = absurd (omega arith)

  -- the word that decides comes first
  pub first_word : {p : List ℕ} → AtHead p → 4 ≤ length p → (no_word (words vote p) ≡ false) × (ends_behind (words vote p) ≡ gives_first vote p)
  unfolding words outside
  first_word no_byte h = absurd (omega arith)
  first_word sync_alone h = absurd (omega arith)
  first_word (one_copy x) h = absurd (omega arith)
  first_word (two_copies x y) h = absurd (omega arith)
  first_word (whole_group x y z rest) h = (refl, refl)

  pub other-group : {p : List ℕ} → AtHead p → 4 ≤ length p → gives_first vote p ≡ false → OtherWord vote p
  other-group no_byte h e = absurd (omega arith)
  other-group sync_alone h e = absurd (omega arith)
  other-group (one_copy x) h e = absurd (omega arith)
  other-group (two_copies x y) h e = absurd (omega arith)
  other-group (whole_group x y z rest) h e = other_word x y z e

-- ---- the moves

module _ (f : Feeder) (piece : List ℕ) (ends : Bool) (old : List ℕ) (a : relock_refusal f (length piece) (length old) ≡ 0) where
  abbrev vote : Vote
  vote = rule_vote f.tally.rule

  order : InOrder f
  order = feeder_ordered f (accepts f (length piece) (length old) a).order

  all_of : take (length piece) piece ≡ piece
  all_of = take_all (length piece) piece (omega arith)

  before : Ordered (state_of f.tally)
  before = ordered (state_of f.tally) (tally_ordered f.tally order.in_tally).in_state

  -- no lock awaits its word
  pub reads_all : f.awaits ≡ false → (r : Relocked) (new : List ℕ) → ReadsOn f piece false old r new → RelockPromise f piece ends old (Ok r) new
  unfolding move
  reads_all z r new p =
      step_reads f piece ends old a (length piece) (rw z) (omega arith) (λ h. h) false (rw z) (λ w. absurd (true≢false (sym w ∙ z)))
      (λ e w. absurd (true≢false (sym w))) r new (rw all_of p)

  -- one does
  module _ (z : f.awaits ≡ true) where
    at-lock : Waits (state_of f.tally)
    at-lock = waits_now f order z

    next-is : (p : List ℕ) → words_next f.tally p ≡ words vote p
    unfolding words_next
    next-is p = rw at-lock.outside_group

    -- what a call leaves on bytes that give no word
    passed : (k : ℕ) → words vote (take k piece) ≡ [] → take_refusal (call_on f piece k old) ≡ 0 → let c = call_on f piece k old in
        ((answer (to_lock c)).taken ≡ length (take k piece)) × ((answer (to_lock c)).tally.framing ≡ f.tally.framing)
    passed k none e =
        let c = call_on f piece k old in
        let ahead : words vote (open_group f.tally.groups ++ take k piece) ≡ [] = rw at-lock.outside_group none in
        let x = passes_all vote (take k piece) (state_of f.tally) old before ahead in
        rw (accepted-answer (to_lock c) (part-accepted c e)) (x.takes_all, x.framing_stays)

    still_waits : (k : ℕ) → words vote (take k piece) ≡ [] → (e : take_refusal (call_on f piece k old) ≡ 0)
        → (answer (to_lock (call_on f piece k old))).tally.groups.«open» ≡ 0 → Waits (state_of (answer (to_lock (call_on f piece k old))).tally)
    still_waits k none e outside =
        let x = (passed k none e).1 in
        record { places = rw x at-lock.places; at_first = rw x at-lock.at_first; outside_group = outside }

    -- a call on bytes that give no word: the lock goes on waiting
    goes_on : (k : ℕ) → move f piece ends ≡ reads k → k ≤ length piece → (0 < length piece → 0 < k) → words vote (take k piece) ≡ []
        → (take_refusal (call_on f piece k old) ≡ 0 → (ends ≡ true → (answer (to_lock (call_on f piece k old))).taken < length piece)
        → (answer (to_lock (call_on f piece k old))).tally.groups.«open» ≡ 0)
        → (r : Relocked) (new : List ℕ) → ReadsOn f (take k piece) true old r new → RelockPromise f piece ends old (Ok r) new
    goes_on k m h some none outside r new p =
        step_reads f piece ends old a k m h some true (rw (z, next-is (take k piece), none)) (λ w. rw (next-is (take k piece), none))
        (λ e w not-all. still_waits k none e (outside e not-all)) r new p

    -- bytes that stand before the next SYNC
    pub reads_before : 0 < before_group piece → before_group piece ≤ length piece → (r : Relocked) (new : List ℕ)
        → ReadsOn f (take (before_group piece) piece) true old r new → RelockPromise f piece ends old (Ok r) new
    unfolding move
    reads_before some within =
        let k = before_group piece in
        goes_on k (rw (z, lt-ltb 0 k some)) within (λ h. some) (quiet_words vote (take k piece) (before-quiet piece)) (λ e w. outside e)
      where
        outside : take_refusal (call_on f piece (before_group piece) old) ≡ 0
            → (answer (to_lock (call_on f piece (before_group piece) old))).tally.groups.«open» ≡ 0
        outside e =
            let k = before_group piece in
            let c = call_on f piece k old in
            ap (λ (s : State). s.groups.«open») (left_is c e)
            ∙ quiet_all vote (take k piece) (state_of f.tally) old (before-quiet piece) at-lock.outside_group

    module _ (head : before_group piece ≡ 0) where
      -- a group that is not whole, at the end of the stream; or no byte
      pub reads_part : length piece < 4 → (ends || eqb (length piece) 0) ≡ true → (r : Relocked) (new : List ℕ)
          → ReadsOn f piece true old r new → RelockPromise f piece ends old (Ok r) new
      unfolding move
      reads_part few now r new p =
          goes_on (length piece) (rw (z, head, lt-ltb (length piece) 4 few, now)) (omega arith) (λ h. h) none outside r new (rw all_of p)
        where
          none : words vote (take (length piece) piece) ≡ []
          none = rw all_of (part-words vote (at_head piece head) few)

          by_length : (p : List ℕ) → length p ≡ 0 → p ≡ []
          by_length [] e = refl
          by_length (b ∷ p) e = absurd (omega arith)

          outside : take_refusal (call_on f piece (length piece) old) ≡ 0
              → (ends ≡ true → (answer (to_lock (call_on f piece (length piece) old))).taken < length piece)
              → (answer (to_lock (call_on f piece (length piece) old))).tally.groups.«open» ≡ 0
          outside e not-all = go ends refl now
            where
              go : (b : Bool) → ends ≡ b → (b || eqb (length piece) 0) ≡ true
                  → (answer (to_lock (call_on f piece (length piece) old))).tally.groups.«open» ≡ 0
              go true q w = absurd (omega (arith, not-all q, (passed (length piece) none e).0, ap length all_of))
              go false q w =
                  let c = call_on f piece (length piece) old in
                  let empty : piece ≡ [] = by_length piece (eqb-true _ _ w) in
                  let quiet : NoSync (take (length piece) piece) = rw (all_of, empty) tt in
                  ap (λ (s : State). s.groups.«open») (left_is c e)
                  ∙ quiet_all vote (take (length piece) piece) (state_of f.tally) old quiet at-lock.outside_group

      -- a group that is not whole, and the stream goes on
      pub asks_again : length piece < 4 → (ends || eqb (length piece) 0) ≡ false
          → RelockPromise f piece ends old (Ok (record { taken = 0; complete = false; more = true; feeder = f })) old
      unfolding move
      asks_again few now = step_asks f piece ends old a (rw (z, head, lt-ltb (length piece) 4 few, now))

      module _ (many : 4 ≤ length piece) where
        whole : (no_word (words vote piece) ≡ false) × (ends_behind (words vote piece) ≡ gives_first vote piece)
        whole = first_word vote (at_head piece head) many

        -- FA
        pub reads_frame : gives_first vote piece ≡ true → (r : Relocked) (new : List ℕ) → ReadsOn f piece false old r new
            → RelockPromise f piece ends old (Ok r) new
        unfolding move
        reads_frame fa r new p =
            step_reads f piece ends old a (length piece) (rw (z, head, le-ltb (length piece) 4 many, fa)) (omega arith) (λ h. h) false
            (rw (z, all_of, next-is piece, whole.0)) (λ w. rw (all_of, next-is piece) (whole.1 ∙ fa)) (λ e w. absurd (true≢false (sym w))) r new
            (rw all_of p)

        -- any other word
        pub leads_other : gives_first vote piece ≡ false → (r : Relocked) (new : List ℕ) → LeadsIn f piece old r new → RelockPromise f piece ends old (Ok r) new
        unfolding move
        leads_other another r new p =
            step_leads f piece ends old a (rw (z, head, le-ltb (length piece) 4 many, another)) z
            (other-group vote (at_head piece head) many another) r new p
