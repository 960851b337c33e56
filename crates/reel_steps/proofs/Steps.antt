-- A list of steps is a list of calls that locks on a frame's own sync, and books every major frame to operator 0. So what two lists leave is the same but for
-- the operators, by the law of such lists, and the operators are the same since their counts add up to the major frames. Assumes nothing.
use mathlib.Core.Path.{◌≡◌, refl, sym, ap, ap₂, ◌∙◌}
use mathlib.Core.Bool.{Bool, true, cond}
use mathlib.Core.List.{List, [], ◌∷◌, ◌++◌}
use Prim.Native.Nat.{ℕ, zero, suc, ◌+◌, ◌<◌}
use native.Mathlib.Omega.{arith}
use lib.ListN.{length, get_or, take, replicate}
use lib.Seq.{get_or-set_other, ext_get_or}
use Rattle.base.specs.Lists.{sum_by, one}
use Rattle.labelling.specs.declared.Operators.{Operators}
use Rattle.labelling.specs.declared.Tally.{Tally}
use Rattle.labelling.specs.Operators.{unpaid, paid_to, paid_in_all, booked}
use Rattle.labelling.specs.Machine.{State, fresh}
use Rattle.labelling.specs.Order.{is_rule}
use Rattle.labelling.specs.Calls.{TakeCall, take_refusal, answer, Call, paid}
use Rattle.labelling.proofs.CallLaws.{refused-answer, accepted-operators}
use Rattle.labelling.proofs.Demand.{same-tally}
use Rattle.own_sync.specs.Locks.{to_lock}
use Rattle.own_sync.specs.Relocking.{lead_in, Relocked as RelockedCalls, done}
use Rattle.own_sync.proofs.Relocking.{own-once}
use Rattle.own_reels.specs.AnyCut.{SameLeft}
use Rattle.own_reels.proofs.AnyCut.{any_cut}
use Rattle.reader.specs.Shapes.{call_of}
use Rattle.std.specs.Prelude.{Result}
use Rattle.base.specs.declared.refusal.Refusal.{Refusal}
use Rattle.base.specs.Refusals.{number_of}
use Rattle.relocking.specs.declared.Feeder.{Feeder}
use Rattle.relocking.specs.declared.Relocked.{Relocked}
use Rattle.relocking.specs.Relock.{Move, reads, asks, leads, move, moved, led_by, call_on, call_led, refused_feeder, relocked_by, RelockPromise, beginning}
use Rattle.feeding.proofs.CallLists.{paid-append, paid-none}
use Rattle.relocking.proofs.CallLists.{relocked_append}
use Rattle.reel_steps.specs.Steps.{Steps, no_step, step, AnySteps}

-- ---- the operators

-- operator 0 is on duty, and nothing is booked to another
record OneBooked (o : Operators) : Type 0 where
  duty_is : o.duty ≡ 0
  others : (k : ℕ) → 0 < k → paid_to k o ≡ 0

booked-one : (c : Bool) (o : Operators) → OneBooked o → OneBooked (booked c o)
booked-one c o h = record {
  duty_is = h.duty_is;
  others = λ k some.
      get_or-set_other o.paid o.duty k (paid_to o.duty o + one c) 0 (λ e. absurd (omega (arith, e, h.duty_is))) ∙ h.others k some;
}

answered-one : (c : TakeCall) → OneBooked c.tally.operators → OneBooked (answer c).tally.operators
answered-one c h = go (take_refusal c) refl
  where
    go : (n : ℕ) → take_refusal c ≡ n → OneBooked (answer c).tally.operators
    go zero e = rw (accepted-operators c e) (booked-one (answer c).complete c.tally.operators h)
    go (suc n) e = rw (refused-answer c n e) h

-- the counts are then decided by their sum
first-is : (l : List ℕ) → ((k : ℕ) → 0 < k → get_or l k 0 ≡ 0) → sum_by (λ n. n) l ≡ get_or l 0 0
first-is [] h = refl
first-is (n ∷ l) h = omega (arith, none l (λ k. h (suc k) (omega arith)))
  where
    none : (l : List ℕ) → ((k : ℕ) → get_or l k 0 ≡ 0) → sum_by (λ (n : ℕ). n) l ≡ 0
    none [] h = refl
    none (n ∷ l) h = omega (arith, h 0, none l (λ k. h (suc k)))

same-operators : (o p : Operators) → OneBooked o → OneBooked p → length o.paid ≡ 8 → length p.paid ≡ 8 → paid_in_all p ≡ paid_in_all o → p ≡ o
same-operators o p h g eight eight' sum =
    let firsts : get_or p.paid 0 0 ≡ get_or o.paid 0 0 = sym (first-is p.paid g.others) ∙ sum ∙ first-is o.paid h.others in
    ap₂ (λ (l : List ℕ) (k : ℕ). record { paid = l; duty = k }) (ext_get_or 0 p.paid o.paid (eight' ∙ sym eight) (λ k few. at k firsts))
    (g.duty_is ∙ sym h.duty_is)
  where
    at : (k : ℕ) → get_or p.paid 0 0 ≡ get_or o.paid 0 0 → get_or p.paid k 0 ≡ get_or o.paid k 0
    at zero e = e
    at (suc k) e = g.others (suc k) (omega arith) ∙ sym (h.others (suc k) (omega arith))

begun-one : (rule : ℕ) → OneBooked (fresh rule).operators
unfolding fresh unpaid
begun-one rule = record { duty_is = refl; others = λ k some. zeros 8 k }
  where
    zeros : (n k : ℕ) → get_or {A = ℕ} (replicate n 0) k 0 ≡ 0
    zeros zero k = refl
    zeros (suc n) zero = refl
    zeros (suc n) (suc k) = zeros n k

-- ---- a step

module _ (f : Feeder) (piece old : List ℕ) where
  moved-one : (m : Move) → OneBooked f.tally.operators → OneBooked (moved m f piece old).feeder.tally.operators
  moved-one (reads k) h = answered-one (to_lock (call_on f piece k old)) h
  moved-one asks h = h
  moved-one leads h = answered-one (to_lock (call_led f piece old)) (answered-one (lead_in (call_of f.tally piece old)) h)

  moved-handed : (m : Move) → (moved m f piece old).feeder.handed ≡ f.handed + led_by m
  moved-handed (reads k) = omega arith
  moved-handed asks = omega arith
  moved-handed leads = omega arith

-- ---- a list of steps

-- its calls
record Made (f : Feeder) (a bs : List ℕ) (ps : List (List ℕ)) (f' : Feeder) (a' : List ℕ) : Type 0 where
  calls : List Call
  count : ℕ
  relocks : RelockedCalls f.awaits f.tally a bs calls f'.awaits f'.tally a' count
  pays : paid calls ≡ ps
  handed : f'.handed ≡ f.handed + count
  one_booked : OneBooked f.tally.operators → OneBooked f'.tally.operators

module _ {f' : Feeder} {a' bs : List ℕ} {ps : List (List ℕ)} (f : Feeder) (piece : List ℕ) (ends : Bool) (old : List ℕ) (r : Result Relocked Refusal)
    (new : List ℕ) where
  accepted-made : RelockPromise f piece ends old r new → number_of r ≡ 0 → Made (relocked_by f r).feeder new bs ps f' a'
      → Made f old (take (relocked_by f r).taken piece ++ bs) (cond (relocked_by f r).complete (new ∷ []) [] ++ ps) f' a'
  accepted-made p e q =
      let m = move f piece ends in
      let is = p.answer_is e in
      record {
        calls = p.calls ++ q.calls;
        count = led_by m + q.count;
        relocks = relocked_append (p.relocks e) q.relocks;
        pays = paid-append p.calls q.calls ∙ ap₂ (λ (l k : List (List ℕ)). l ++ k) (p.pays e) q.pays;
        handed = omega (arith, q.handed, ap (λ (x : Relocked). x.feeder.handed) is, moved-handed f piece old m);
        one_booked = λ h. q.one_booked (rw is (moved-one f piece old m h));
      }

  refused-made : relocked_by f r ≡ refused_feeder f → new ≡ old → Made (relocked_by f r).feeder new bs ps f' a'
      → Made f old (take (relocked_by f r).taken piece ++ bs) (cond (relocked_by f r).complete (new ∷ []) [] ++ ps) f' a'
  refused-made e z q = rw e (rw (e, z) at q)

made : {f f' : Feeder} {a a' bs : List ℕ} {ps : List (List ℕ)} → Steps f a bs ps f' a' → Made f a bs ps f' a'
made no_step = record { calls = []; count = 0; relocks = done; pays = paid-none; handed = omega arith; one_booked = λ h. h }
made {f' = f'} {a' = a'} (step {bs = bs} {ps = ps} f piece ends old r new p s) = go (number_of r) refl (made s)
  where
    go : (n : ℕ) → number_of r ≡ n → Made (relocked_by f r).feeder new bs ps f' a'
        → Made f old (take (relocked_by f r).taken piece ++ bs) (cond (relocked_by f r).complete (new ∷ []) [] ++ ps) f' a'
    go zero e q = accepted-made f piece ends old r new p e q
    go (suc n) e q = refused-made f piece ends old r new (p.refused n e).0 (p.refused n e).1 q

-- ---- the claim

same-feeder : {f g : Feeder} → g.tally ≡ f.tally → g.awaits ≡ f.awaits → g.handed ≡ f.handed → g ≡ f
same-feeder {f} {g} t w n =
    ap₂ (λ (x : Tally) (y : Bool). record { tally = x; awaits = y; handed = g.handed }) t w
    ∙ ap (λ (x : ℕ). record { tally = f.tally; awaits = f.awaits; handed = x }) n

module _ (rule : ℕ) (is_rule_fact : is_rule rule ≡ true) {a₀ bs a b : List ℕ} {ps qs : List (List ℕ)} {f g : Feeder} (whole : length a₀ ≡ 16384)
    (s : Steps (beginning rule) a₀ bs ps f a) (s' : Steps (beginning rule) a₀ bs qs g b) where
  x : Made (beginning rule) a₀ bs ps f a
  x = made s

  y : Made (beginning rule) a₀ bs qs g b
  y = made s'

  same : SameLeft rule x.relocks y.relocks
  same = (any_cut rule is_rule_fact whole x.relocks).same_left y.relocks

  operators_same : g.tally.operators ≡ f.tally.operators
  operators_same =
      let o = (own-once rule a₀ is_rule_fact whole x.relocks).once.duties in
      let p = (own-once rule a₀ is_rule_fact whole y.relocks).once.duties in
      let sums : paid_in_all g.tally.operators ≡ paid_in_all f.tally.operators =
      p.sum_is ∙ ap (λ (z : State). z.runs.majors) same.state_same ∙ sym o.sum_is in
      same-operators f.tally.operators g.tally.operators (x.one_booked (begun-one rule)) (y.one_booked (begun-one rule)) o.eight p.eight sums

  feeders_same : g ≡ f
  feeders_same =
      let tally : g.tally ≡ f.tally = same-tally same.state_same operators_same same.rule_same in
      same-feeder tally same.awaits_same (omega (arith, x.handed, y.handed, same.lead_ins_same))

  steps-same : (g ≡ f) × (b ≡ a) × (qs ≡ ps)
  steps-same = (feeders_same, same.area_same, sym y.pays ∙ same.paid-same ∙ x.pays)

pub any_steps : (rule : ℕ) → is_rule rule ≡ true → AnySteps rule
any_steps rule is_rule_fact = record { same_left = λ whole s s'. steps-same rule is_rule_fact whole s s' }
