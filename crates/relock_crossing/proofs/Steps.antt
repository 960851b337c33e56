-- The ways of a step in place: it is refused, or refused as its one call is; and what its call is where a lock awaits its word or none does. Assumes
-- nothing.
use mathlib.Core.Path.{◌≡◌, refl, sym, ap, subst, ◌∙◌}
use mathlib.Core.Bool.{Bool, true, false, not, ◌&&◌, ◌||◌, true≢false}
use mathlib.Core.List.{List}
use Prim.Native.Nat.{ℕ, zero, suc, ◌+◌, ◌/◌, ◌^◌, ◌≤◌, ◌<◌}
use native.Mathlib.Omega.{arith}
use Rattle.std.specs.Prelude.{Result, Ok, Err}
use Rattle.base.specs.declared.refusal.Refusal.{Refusal}
use Rattle.base.specs.Refusals.{number, number_of}
use Rattle.base.proofs.Lines.{positive}
use lib.Dec.{eqb, ltb}
use lib.ListN.{length, get_or}
use borrow.Author.Tests.{eqb-true, eq-eqb, lt-ltb, ltb-true, not-true}
use Rattle.labelling.specs.Order.{in_order}
use Rattle.labelling.specs.Calls.{TakeCall, take_refusal, answer}
use Rattle.labelling.proofs.CallLaws.{not_in_order, wrong-area, no_refusal, passed as passed-call}
use Rattle.own_sync.specs.Locks.{to_lock}
use Rattle.own_sync.specs.Relocking.{locked, lead_in_bytes}
use Rattle.relocking.specs.declared.Feeder.{Feeder}
use Rattle.relocking.specs.declared.Relocked.{Relocked}
use Rattle.relocking.specs.Relock.{stands_at_lock, feeder_in_order, relock_refusal, call_led, ReadsOn, LeadsIn, RelockPromise}
use Rattle.relocking.proofs.Relocking.{not_in_order as feeder-not-in-order, wrong-area as step-wrong-area, Accepts, accepts, accepted-by}
use Rattle.relocking.proofs.Relocking.{InOrder, feeder_ordered, order_of, locked-so, called-so}
use Rattle.tally_numbers.specs.Numbers.{is_tally, tally_of}
use Rattle.in_place.specs.declared.Locked.{Locked}
use Rattle.in_place.specs.declared.Part.{Part}
use Rattle.in_place.specs.Leading.{LeadFits, LedInPlace}
use Rattle.in_place.specs.Places.{call_in, locked_of, Answered, LockedInPlace}
use Rattle.in_place.proofs.Laws.{both, tally_accepted}
use Rattle.relock_crossing.specs.declared.Step.{Step}
use Rattle.relock_crossing.specs.Relocking.{is_feeder, feeder_of, refused_by, step_by, step_made, step_of, Fits, Waiting, Moves, Asks, StepCrossed}
use Rattle.relock_crossing.proofs.RelockCrossed.{reads_so, moves_so}

-- ---- the order

pub shuffled : (a b d x y : Bool) → ((((a && b) && d) && x) && y) ≡ ((a && d) && ((b && x) && y))
shuffled false b d x y = refl
shuffled true false false x y = refl
shuffled true false true x y = refl
shuffled true true false x y = refl
shuffled true true true x y = refl

feeder_out : (f : Feeder) → in_order f.tally ≡ false → feeder_in_order f ≡ false
unfolding feeder_in_order
feeder_out f o = rw o

pub feeder_tally : (n feeder : List ℕ) → is_feeder n feeder ≡ true → (is_tally n ≡ true) × (get_or feeder 0 0 < 2)
unfolding is_feeder
feeder_tally n feeder e = go (is_tally n) (ltb (get_or feeder 0 0) 2) refl refl e
  where
    go : (a b : Bool) → is_tally n ≡ a → ltb (get_or feeder 0 0) 2 ≡ b → (a && b) ≡ true → (is_tally n ≡ true) × (get_or feeder 0 0 < 2)
    go true true x y z = (x, ltb-true _ _ y)
    go true false x y z = absurd (true≢false (sym z))
    go false b x y z = absurd (true≢false (sym z))

feeder_so : (n feeder : List ℕ) (b : Bool) → get_or feeder 0 0 < 2 → is_tally n ≡ b → is_feeder n feeder ≡ b
unfolding is_feeder
feeder_so n feeder true z e = rw (e, lt-ltb (get_or feeder 0 0) 2 z)
feeder_so n feeder false z e = rw e

-- ---- a call of a step

-- what holds of a feeder before the order of its tally is tested
pub record Ready (n frame feeder : List ℕ) (piece : ℕ) : Type 0 where
  pub flag : get_or feeder 0 0 < 2
  pub at-lock : (not (eqb (get_or feeder 0 0) 1) || stands_at_lock (tally_of n frame)) ≡ true
  pub few : get_or feeder 1 0 ≤ get_or n 0 0 / 12
  pub fits : get_or n 0 0 + piece + 12 ≤ 2 ^ 40

pub ready_none : (n frame feeder : List ℕ) (piece : ℕ) → get_or feeder 0 0 ≡ 0 → get_or feeder 1 0 ≤ get_or n 0 0 / 12 → get_or n 0 0 + piece + 12 ≤ 2 ^ 40
    → Ready n frame feeder piece
ready_none n frame feeder piece none few fits = record { flag = omega (arith, none); at-lock = rw none refl; few = few; fits = fits }

pub ready_waiting : (n frame feeder : List ℕ) (piece : ℕ) → Waiting n frame feeder piece → Ready n frame feeder piece
ready_waiting n frame feeder piece w =
    record { flag = omega (arith, w.awaits); at-lock = rw w.awaits w.stands; few = w.few; fits = w.fits }

-- the lead-in can be handed there
pub lead-fits : (n frame feeder : List ℕ) (piece : ℕ) → Waiting n frame feeder piece → LeadFits n piece
lead-fits n frame feeder piece w =
    let framing = (tally_of n frame).framing in
    let x = both (not framing.hunting && eqb framing.placed 0) (eqb (get_or n 5 0) 0) w.stands in
    let y = both (not framing.hunting) (eqb framing.placed 0) x.0 in
    record { places = not-true _ y.0; at_first = eqb-true _ _ y.1; outside_group = eqb-true _ _ x.1; fits = w.fits }

module _ (n frame feeder piece : List ℕ) (ends : Bool) (old : List ℕ) where
  abbrev f : Feeder
  f = feeder_of n frame feeder

  -- on a part of the piece
  module _ (ready : Ready n frame feeder (length piece)) (part : List ℕ) (short : length part ≤ length piece) where
    abbrev c : TakeCall
    c = call_in n frame part old

    ordered : in_order (tally_of n frame) ≡ true → feeder_in_order f ≡ true
    ordered o = order_of f (record { in_tally = o; at-lock = ready.at-lock; few = ready.few })

    by_area : in_order (tally_of n frame) ≡ true → (b : Bool) → eqb (length old) 16384 ≡ b → take_refusal c ≡ relock_refusal f (length piece) (length old)
    by_area o true e =
        let whole = eqb-true (length old) 16384 e in
        no_refusal (tally_of n frame) part old o whole (omega (arith, ready.fits))
        ∙ sym (accepted-by f (length piece) (length old) (record { order = ordered o; whole-area = whole; fits = ready.fits }))
    by_area o false e =
        let other : length old ≡ 16384 → ⊥ = λ s. true≢false (sym (eq-eqb (length old) 16384 s) ∙ e) in
        wrong-area (tally_of n frame) part old o other ∙ sym (step-wrong-area f (length piece) (length old) (ordered o) other)

    same-refusal : take_refusal c ≡ relock_refusal f (length piece) (length old)
    same-refusal = go (in_order (tally_of n frame)) refl
      where
        go : (b : Bool) → in_order (tally_of n frame) ≡ b → take_refusal c ≡ relock_refusal f (length piece) (length old)
        go true o = by_area o (eqb (length old) 16384) refl
        go false o = not_in_order (tally_of n frame) part old o ∙ sym (feeder-not-in-order f (length piece) (length old) (feeder_out f o))

    -- the step is refused as its call is
    step_called : (d : TakeCall) (s : Result Step Refusal) (r : Result Part Refusal) (numbers left new : List ℕ) → number_of s ≡ number_of r → Answered c d n r numbers left new
        → (is_tally n ≡ true → take_refusal c ≡ 0 → relock_refusal f (length piece) (length old) ≡ 0 → Moves f piece ends old (step_by s) numbers left new)
        → StepCrossed n frame feeder piece ends old s numbers left new
    step_called d s r numbers left new same q moves = record {
      refusal_is = same ∙ told (is_tally n) refl;
      refused = λ h. let k = q.refused (λ z. h (same ∙ z)) in (k.numbers_kept, k.frame_kept, k.area_kept);
      accepted = λ y.
          let z = sym same ∙ y in
          let t = tally_accepted c d n r numbers left new q z in
          let e : take_refusal c ≡ 0 = sym (q.refusal_is t) ∙ z in
          moves t e (sym same-refusal ∙ e);
    }
      where
        told : (b : Bool) → is_tally n ≡ b → number_of r ≡ refused_by n frame feeder (length piece) (length old)
        told true e = rw (feeder_so n feeder true ready.flag e) (q.refusal_is e ∙ same-refusal)
        told false e = rw (feeder_so n feeder false ready.flag e) (q.no_tally e)

    -- a call as far as a lock
    pub step_reads : (waits : Bool) (r : Result Locked Refusal) (numbers left new : List ℕ) → LockedInPlace c n r numbers left new
        → (relock_refusal f (length piece) (length old) ≡ 0 → (x : Relocked) (y : List ℕ) → ReadsOn f part waits old x y
        → RelockPromise f piece ends old (Ok x) y)
        → StepCrossed n frame feeder piece ends old (step_of r waits (get_or feeder 1 0)) numbers left new
    step_reads waits (Err x) numbers left new q promise =
        step_called (to_lock c) (Err x) (Err x) numbers left new refl q.in_place (λ t e a. absurd (positive x (q.in_place.refusal_is t ∙ e)))
    step_reads waits (Ok r) numbers left new q promise =
        step_called (to_lock c) (Ok (step_made r waits (get_or feeder 1 0))) (Ok r.part) numbers left new refl q.in_place
        (λ t e a. moves_so n frame old part (eqb (get_or feeder 0 0) 1) (get_or feeder 1 0) e t r numbers left new q waits piece ends
        (promise a _ new (reads_so n frame old part (eqb (get_or feeder 0 0) 1) (get_or feeder 1 0) e t r numbers left new q waits)))

  -- the lead-in, and a call on the piece
  pub step_leads : Ready n frame feeder (length piece) → (r : Result Locked Refusal) (numbers left new : List ℕ)
      → LedInPlace (call_in n frame piece old) n r numbers left new
      → (relock_refusal f (length piece) (length old) ≡ 0 → (x : Relocked) (y : List ℕ) → LeadsIn f piece old x y
      → RelockPromise f piece ends old (Ok x) y)
      → StepCrossed n frame feeder piece ends old (step_of r false (get_or feeder 1 0 + 1)) numbers left new
  step_leads ready (Err x) numbers left new q promise =
      step_called ready piece (omega arith) (to_lock (call_led f piece old)) (Err x) (Err x) numbers left new refl q.in_place
      (λ t e a. absurd (positive x (q.in_place.refusal_is t ∙ e)))
  step_leads ready (Ok r) numbers left new q promise =
      step_called ready piece (omega arith) (to_lock d) (Ok s) (Ok r.part) numbers left new refl q.in_place moves
    where
      d : TakeCall
      d = call_led f piece old

      s : Step
      s = step_made r false (get_or feeder 1 0 + 1)

      moves : is_tally n ≡ true → take_refusal (call_in n frame piece old) ≡ 0 → relock_refusal f (length piece) (length old) ≡ 0
          → Moves f piece ends old s numbers left new
      moves t e a =
          let held = q.in_place.accepted refl in
          let p = q.promised refl in
          let accepted : take_refusal d ≡ 0 = sym p.refusal_is in
          let k = passed-call (call_in n frame piece old) e in
          let lead-accepted = no_refusal f.tally lead_in_bytes old k.ordered_tally k.whole-area (omega (arith, ready.fits)) in
          let led = called-so d accepted (locked_of d r) new p r.locked (locked d) (f.handed + 1) (locked-so d accepted (locked_of d r) new p) in
          record {
            tally = (answer (to_lock d)).tally;
            holds = record { numbers_is = held.numbers_is; frame_is = held.frame_is };
            promised = promise a _ new (record { lead-accepted = lead-accepted; led = led });
          }

  -- ---- no call

  pub refused-so : (x : Refusal) → number x ≡ refused_by n frame feeder (length piece) (length old)
      → StepCrossed n frame feeder piece ends old (Err x) n frame old
  refused-so x e = record { refusal_is = e; refused = λ z. (refl, refl, refl); accepted = λ z. absurd (positive x z) }

  module _ (e : refused_by n frame feeder (length piece) (length old) ≡ 0) where
    pub passed : (is_feeder n feeder ≡ true) × (relock_refusal f (length piece) (length old) ≡ 0)
    passed = go (is_feeder n feeder) refl
      where
        go : (b : Bool) → is_feeder n feeder ≡ b → (is_feeder n feeder ≡ true) × (relock_refusal f (length piece) (length old) ≡ 0)
        go true y = (y, rw y at e)
        go false y = absurd (let no : 1 ≡ 0 = rw y at e in omega (arith, no))

    -- a step that passes makes a call: by whether a lock awaits its word
    pub called-else : (fit stands : Bool) → Fits (get_or n 0 0) (get_or feeder 1 0) (length piece) fit → stands ≡ stands_at_lock (tally_of n frame)
        → (eqb (get_or feeder 0 0) 0 && fit) ≡ false → ((eqb (get_or feeder 0 0) 1 && fit) && stands) ≡ false → ⊥
    called-else fit stands k at none one = go fit refl (get_or feeder 0 0) refl
      where
        a : Accepts f (length piece) (length old)
        a = accepts f (length piece) (length old) passed.1

        order : InOrder f
        order = feeder_ordered f a.order

        few : get_or feeder 0 0 < 2
        few = (feeder_tally n feeder passed.0).1

        go : (b : Bool) → fit ≡ b → (d : ℕ) → get_or feeder 0 0 ≡ d → ⊥
        go false y d q = k.miss y order.few a.fits
        go true y zero q = true≢false (rw (q, y) at none)
        go true y (suc zero) q = true≢false (sym (rw q at order.at-lock) ∙ sym at ∙ rw (q, y) at one)
        go true y (suc (suc d)) q = omega (arith, few)

    -- the bytes are asked for again
    pub asked-so : (s : Step) (numbers left : List ℕ) → get_or feeder 0 0 ≡ 1 → Asks n frame (get_or feeder 1 0) s numbers left
        → RelockPromise f piece ends old (Ok (record { taken = 0; complete = false; more = true; feeder = f })) old
        → StepCrossed n frame feeder piece ends old (Ok s) numbers left old
    asked-so s numbers left w k p =
        let awaits : eqb (get_or feeder 0 0) 1 ≡ true = eq-eqb (get_or feeder 0 0) 1 w in
        let told : Bool → Relocked = λ x. record {
          taken = 0;
          complete = false;
          more = true;
          feeder = record { tally = tally_of n frame; awaits = x; handed = get_or feeder 1 0 };
        } in
        let promised = subst (λ (x : Bool). RelockPromise f piece ends old (Ok (told x)) old) awaits p in
        record {
          refusal_is = sym e;
          refused = λ h. absurd (h refl);
          accepted = λ z. rw k.step_is (record { tally = tally_of n frame; holds = k.holds; promised = promised });
        }

-- ---- the lines of the refusal

module _ (n frame feeder : List ℕ) (piece area : ℕ) where
  pub order_refused : (is_feeder n feeder && feeder_in_order (feeder_of n frame feeder)) ≡ false → refused_by n frame feeder piece area ≡ 1
  order_refused e = go (is_feeder n feeder) refl
    where
      go : (b : Bool) → is_feeder n feeder ≡ b → refused_by n frame feeder piece area ≡ 1
      go true y = rw y (feeder-not-in-order (feeder_of n frame feeder) piece area (rw y at e))
      go false y = rw y

  pub line : (x : ℕ) → is_feeder n feeder ≡ true → relock_refusal (feeder_of n frame feeder) piece area ≡ x → refused_by n frame feeder piece area ≡ x
  line x y e = rw y e
