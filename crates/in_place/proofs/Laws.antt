-- The layers that a run leaves, put back among the numbers with its payment, are the numbers of the call's answer. Assumes nothing.
use mathlib.Core.Path.{◌≡◌, refl, sym, ap, ◌∙◌}
use mathlib.Core.Bool.{Bool, true, false, ◌&&◌, true≢false}
use mathlib.Core.List.{List, [], ◌∷◌, ◌++◌}
use Prim.Native.Nat.{ℕ, zero, suc, ◌+◌, ◌^◌, ◌≤◌, ◌<◌}
use native.Mathlib.Nat.{add-zero}
use native.Mathlib.Omega.{arith}
use Rattle.std.specs.Prelude.{Result, Ok, Err}
use lib.ListN.{length, get_or, set, length-set, length-append}
use lib.Seq.{set-append_left, set-get_or}
use Rattle.base.specs.Lists.{one}
use Rattle.base.specs.declared.refusal.Refusal.{Refusal}
use Rattle.base.specs.declared.refusal.Refusal.TheVariants.{NotInOrder}
use Rattle.base.specs.Refusals.{number, number_of}
use Rattle.base.proofs.Lines.{positive}
use Rattle.labelling.specs.declared.Framing.{Framing}
use Rattle.labelling.specs.declared.Groups.{Groups}
use Rattle.labelling.specs.declared.Operators.{Operators}
use Rattle.labelling.specs.declared.Runs.{Runs}
use Rattle.labelling.specs.Operators.{paid_to, booked}
use Rattle.labelling.specs.Order.{in_order}
use Rattle.labelling.specs.Calls.{TakeCall, take_refusal, answer}
use Rattle.labelling.proofs.CallLaws.{accepted-answer}
use Rattle.order.specs.Room.{DutyRoom}
use Rattle.own_sync.specs.Locks.{to_lock}
use Rattle.own_sync.proofs.Locks.{part-accepted}
use Rattle.plain_steps.specs.declared.layers.Layers.{Layers}
use Rattle.tally_numbers.specs.Numbers.{group_numbers, framing_numbers, run_numbers, weak_numbers, operators_of, numbers_of, counts_only, is_tally, framing_of, tally_of}
use Rattle.tally_numbers.proofs.Numbers.{framing_back}
use Rattle.reader.specs.declared.Taken.{Taken}
use Rattle.reader.specs.Shapes.{answer_of, PartPromise, locked_by, LockPromise}
use Rattle.reader.proofs.Answers.{accepted-promise, accepted-part, lock_promise}
use Rattle.in_place.specs.declared.Part.{Part}
use Rattle.in_place.specs.Places.{call_in, Left, Answered, LockAnswered}

-- ---- a payment among the numbers

-- the paid count of the operator d
pub paid-read : (n : List ℕ) (d : ℕ) → d ≤ 7 → get_or n (23 + d) 0 ≡ get_or (operators_of n).paid d 0
paid-read n zero h = refl
paid-read n (suc zero) h = refl
paid-read n (suc (suc zero)) h = refl
paid-read n (suc (suc (suc zero))) h = refl
paid-read n (suc (suc (suc (suc zero)))) h = refl
paid-read n (suc (suc (suc (suc (suc zero))))) h = refl
paid-read n (suc (suc (suc (suc (suc (suc zero)))))) h = refl
paid-read n (suc (suc (suc (suc (suc (suc (suc zero))))))) h = refl
paid-read n (suc (suc (suc (suc (suc (suc (suc (suc d)))))))) h = absurd (omega arith)

set_append_right : (xs ys : List ℕ) (d v i : ℕ) → i ≡ length xs + d → set (xs ++ ys) i v ≡ xs ++ set ys d v
set_append_right [] ys d v i e = let same : i ≡ d = omega arith in rw same
set_append_right (x ∷ xs) ys d v zero e = absurd (omega arith)
set_append_right (x ∷ xs) ys d v (suc i) e = ap (λ (r : List ℕ). x ∷ r) (set_append_right xs ys d v i (omega arith))

-- what stands before the paid counts stays, and so does what stands behind them
paid-put : (g : Groups) (f : Framing) (r : Runs) (o : Operators) (rule d v : ℕ) → d < length o.paid
    → set (numbers_of (counts_only g f r o rule)) (23 + d) v ≡ numbers_of (counts_only g f r (record { paid = set o.paid d v; duty = o.duty }) rule)
paid-put g f r o rule d v h =
    set_append_right before ((o.paid ++ o.duty ∷ []) ++ rule ∷ []) d v (23 + d) (omega arith) ∙ ap (λ (l : List ℕ). before ++ l) inner
  where
    before : List ℕ
    before = group_numbers g ++ framing_numbers f ++ run_numbers r ++ weak_numbers g.weak

    inner : set ((o.paid ++ o.duty ∷ []) ++ rule ∷ []) d v ≡ (set o.paid d v ++ o.duty ∷ []) ++ rule ∷ []
    inner =
        set-append_left (o.paid ++ o.duty ∷ []) (rule ∷ []) d v (omega (arith, length-append o.paid (o.duty ∷ [])))
        ∙ ap (λ (l : List ℕ). l ++ rule ∷ []) (set-append_left o.paid (o.duty ∷ []) d v h)

-- nothing more is paid
pub none-booked : (o : Operators) → booked false o ≡ o
none-booked o = rw (add-zero (paid_to o.duty o), set-get_or o.paid o.duty 0)

-- the numbers n with these layers and operators
abbrev pub with_layers : List ℕ → Layers → Operators → List ℕ
with_layers n l o = numbers_of (counts_only l.groups l.framing l.runs o (get_or n 32 0))

module _ (n : List ℕ) (room : DutyRoom (operators_of n)) (l : Layers) where
  abbrev d : ℕ
  d = get_or n 31 0

  -- before the payment
  abbrev put : List ℕ
  put = with_layers n l (operators_of n)

  pub paid-within : get_or put (23 + d) 0 ≤ 2 ^ 40
  paid-within = rw (paid-read put d room.duty_max) room.paid_max

  pub payment : set put (23 + d) (get_or put (23 + d) 0 + 1) ≡ with_layers n l (booked true (operators_of n))
  payment =
      rw (paid-read put d room.duty_max)
      (paid-put l.groups l.framing l.runs (operators_of n) (get_or n 32 0) d _ (omega (arith, room.duty_max)))

  pub no_payment : put ≡ with_layers n l (booked false (operators_of n))
  no_payment = ap (with_layers n l) (sym (none-booked (operators_of n)))

-- the paid counts stay eight
pub eight_booked : (n : List ℕ) (complete : Bool) → length (booked complete (operators_of n)).paid ≡ 8
eight_booked n complete = length-set (operators_of n).paid (get_or n 31 0) (get_or (operators_of n).paid (get_or n 31 0) 0 + one complete)

-- ---- a call

-- on the numbers n, which answers as d does
module _ (n frame piece area : List ℕ) (d : TakeCall) where
  abbrev c : TakeCall
  c = call_in n frame piece area

  -- nothing was written
  refused-so : (e : Refusal) → (is_tally n ≡ false → number e ≡ 1) → (is_tally n ≡ true → number e ≡ take_refusal c)
      → Answered c d n (Err e) n frame area
  refused-so e f t = record {
    no_tally = f;
    refusal_is = t;
    refused = λ z. record { numbers_kept = refl; frame_kept = refl; area_kept = refl };
    accepted = λ z. absurd (positive e z);
  }

  pub not_ordered : (is_tally n && in_order (tally_of n frame)) ≡ false → (in_order (tally_of n frame) ≡ false → take_refusal c ≡ 1)
      → Answered c d n (Err NotInOrder) n frame area
  not_ordered e q = refused-so NotInOrder (λ z. refl) (λ z. sym (q (rw z at e)))

  pub refused-call : (x : Refusal) → is_tally n ≡ true → take_refusal c ≡ number x → Answered c d n (Err x) n frame area
  refused-call x e q = refused-so x (λ z. absurd (true≢false (sym e ∙ z))) (λ z. sym q)

  pub accepted-call : {r : Part} {numbers frame' area' : List ℕ} → is_tally n ≡ true → take_refusal c ≡ 0
      → Left (answer d) r numbers frame' area' → Answered c d n (Ok r) numbers frame' area'
  accepted-call e q l = record {
    no_tally = λ y. absurd (true≢false (sym e ∙ y));
    refusal_is = λ y. sym q;
    refused = λ h. absurd (h refl);
    accepted = λ y. l;
  }

-- both tests
pub both : (a b : Bool) → (a && b) ≡ true → (a ≡ true) × (b ≡ true)
both true b e = (refl, e)
both false b e = absurd (true≢false (sym e))

-- numbers that are no tally's are refused
pub tally_accepted : (c d : TakeCall) (n : List ℕ) (r : Result Part Refusal) (numbers frame area : List ℕ) → Answered c d n r numbers frame area
    → number_of r ≡ 0 → is_tally n ≡ true
tally_accepted c d n r numbers frame area p z = go (is_tally n) refl
  where
    go : (b : Bool) → is_tally n ≡ b → is_tally n ≡ true
    go true e = e
    go false e = absurd (omega (arith, p.no_tally e))

-- ---- a lock

-- a call that is refused is none that a lock stops
pub lock_untold : {c d : TakeCall} {n numbers frame area : List ℕ} (e : Refusal) → Answered c (to_lock d) n (Err e) numbers frame area
    → LockAnswered c d n (Err e) numbers frame area
lock_untold e p = record { in_place = p; promised = λ z. absurd (positive e z) }

-- of the call c on the numbers n, which answers as d does as far as a lock; d hunts as c does
module _ (n frame piece area : List ℕ) (d : TakeCall) where
  abbrev asked : TakeCall
  asked = call_in n frame piece area

  pub lock_told : (take_refusal asked ≡ 0 → (take_refusal d ≡ 0) × ((f : Framing) → locked_by (framing_of n) f ≡ locked_by d.tally.framing f))
      → (r : Part) (numbers frame' area' : List ℕ) → Answered asked (to_lock d) n (Ok r) numbers frame' area' → (locked : Bool)
      → locked ≡ locked_by (framing_of n) (framing_of numbers)
      → LockAnswered asked d n (Ok (record { part = r; locked = locked })) numbers frame' area'
  lock_told next r numbers frame' area' p locked k = record { in_place = p; promised = λ z. promised }
    where
      taken : Taken
      taken = record { taken = r.taken; complete = r.complete; tally = (answer (to_lock d)).tally }

      promised : LockPromise d (Ok (record { taken = taken; locked = locked })) area'
      promised =
          let so = next (sym (p.refusal_is (tally_accepted asked (to_lock d) n (Ok r) numbers frame' area' p refl))) in
          let e = so.0 in
          let left = p.accepted refl in
          let same : answer_of taken area' ≡ answer (to_lock d) = rw (left.area_is, left.taken_is, left.complete_is) in
          let e' = part-accepted d e in
          let part : PartPromise true d (Ok taken) area' = accepted-part e (accepted-promise e' (same ∙ accepted-answer (to_lock d) e')) in
          let after : framing_of numbers ≡ (answer (to_lock d)).tally.framing =
          ap framing_of left.numbers_is ∙ framing_back (answer (to_lock d)).tally in
          lock_promise part locked (k ∙ so.1 (framing_of numbers) ∙ ap (λ (f : Framing). locked_by d.tally.framing f) after)
