-- A call that is refused, and one that is not: from what was left to what `take` or `take_to_lock` promises. Assumes nothing.
use Rattle.std.proofs.Common.{◌≡◌, refl, sym, ap, subst, ◌∙◌, Bool, true, false, true≢false, List, ℕ, zero, suc, ◌+◌, ◌^◌, ◌≤◌, Result, Ok, Err}
use native.Mathlib.Omega.{arith}
use lib.ListN.{length}
use Rattle.base.specs.Format.{major_frame}
use Rattle.base.specs.declared.refusal.Refusal.{Refusal}
use Rattle.base.specs.Refusals.{number}
use Rattle.base.proofs.Lines.{positive}
use Rattle.labelling.specs.declared.Tally.{Tally}
use Rattle.labelling.specs.Votes.{rule_vote}
use Rattle.labelling.specs.Machine.{state_of}
use Rattle.labelling.specs.Order.{in_order}
use Rattle.labelling.specs.Calls.{TakeCall, Answer, Progress, answer_with, feed, take_refusal, answer}
use Rattle.labelling.proofs.Feeding.{Extent, feed-extent}
use Rattle.labelling.proofs.CallLaws.{no_refusal, refused-answer, accepted-answer, answer-ordered}
use Rattle.own_sync.specs.Locks.{to_lock}
use Rattle.own_sync.proofs.Locks.{up_shorter, up_all, part-accepted}
use Rattle.reader.specs.declared.Taken.{Taken}
use Rattle.reader.specs.Shapes.{call_of, answer_of, TakePromise, part_of, PartPromise, locked_by, LockPromise}
use Rattle.reader.proofs.Parts.{PartRead, part-read}

module _ {t : Tally} {p a : List ℕ} where
  pub refused-promise : (e : Refusal) (n : ℕ) → number e ≡ suc n → take_refusal (call_of t p a) ≡ number e → TakePromise (call_of t p a) (Err e) a
  refused-promise e n some q = record {
    refusal_is = sym q;
    answer_is = sym (refused-answer (call_of t p a) n (q ∙ some));
    within = omega arith;
    takes_all = λ z. absurd (positive e z);
    takes_some = λ z. absurd (true≢false (sym z));
    stays_ordered = λ o. o;
  }

  pub accepted-promise : {r : Taken} {a' : List ℕ} → take_refusal (call_of t p a) ≡ 0
      → answer_of r a' ≡ answer_with t (feed (rule_vote t.rule) (state_of t) a p) → TakePromise (call_of t p a) (Ok r) a'
  accepted-promise {r} {a'} q e =
      let c = call_of t p a in
      let same : answer_of r a' ≡ answer c = e ∙ sym (accepted-answer c q) in
      let extent : Extent p (answer_of r a').taken (answer_of r a').complete =
      subst (λ (x : Answer). Extent p x.taken x.complete) (sym e) (feed-extent (rule_vote t.rule) (state_of t) a p) in
      record {
        refusal_is = sym q;
        answer_is = same;
        within = extent.within;
        takes_all = λ y. extent.takes_all;
        takes_some = extent.takes_some;
        stays_ordered = λ o. ap (λ (x : Answer). in_order x.tally) same ∙ answer-ordered c o;
      }

-- ---- a call that a lock may stop

-- the part is accepted where the piece fits
pub part-fits : (stop : Bool) (t : Tally) (p a : List ℕ) → in_order t ≡ true → length a ≡ major_frame → t.groups.bytes + length p ≤ 2 ^ 40
    → take_refusal (part_of stop (call_of t p a)) ≡ 0
part-fits stop t p a o h l =
    let c = part_of stop (call_of t p a) in
    no_refusal t c.piece a o h (omega (arith, up_shorter (rule_vote t.rule) stop p (state_of t) a))

module _ {stop : Bool} {c : TakeCall} {r : Result Taken Refusal} {a : List ℕ} where
  pub refused-part : {n : ℕ} → take_refusal c ≡ suc n → TakePromise c r a → PartPromise stop c r a
  refused-part e p = record { refused = λ n q. p; accepted = λ q. absurd (omega arith) }

  pub accepted-part : take_refusal c ≡ 0 → TakePromise (part_of stop c) r a → PartPromise stop c r a
  accepted-part e p = record { refused = λ n q. absurd (omega arith); accepted = λ q. p }

-- where no lock stops it, the part is the piece
pub whole-promise : {c : TakeCall} {r : Result Taken Refusal} {a : List ℕ} → PartPromise false c r a → TakePromise c r a
whole-promise {c} {r} {a} p = go (take_refusal c) refl
  where
    go : (n : ℕ) → take_refusal c ≡ n → TakePromise c r a
    go zero e = rw (up_all (rule_vote c.tally.rule) c.piece (state_of c.tally) c.area) at (p.accepted e)
    go (suc n) e = p.refused n e

-- a call that is refused, and one that is not
module _ {c : TakeCall} {a : List ℕ} where
  pub lock_refused : (e : Refusal) → PartPromise true c (Err e) a → LockPromise c (Err e) a
  lock_refused e p = go (take_refusal c) refl
    where
      go : (n : ℕ) → take_refusal c ≡ n → LockPromise c (Err e) a
      go zero z = absurd (positive e ((p.accepted z).refusal_is ∙ part-accepted c z))
      go (suc n) z = record {
        refusal_is = (p.refused n z).refusal_is;
        refused = p.refused;
        accepted = p.accepted;
        locked-is = omega arith;
        takes_all = λ y. absurd (positive e y);
        takes_some = λ y. absurd (true≢false (sym y));
      }

module _ {c : TakeCall} {r : Taken} {a : List ℕ} (p : PartPromise true c (Ok r) a) where
  abbrev part : List ℕ
  part = (to_lock c).piece

  abbrev read : Progress
  read = feed (rule_vote c.tally.rule) (state_of c.tally) c.area part

  moved : take_refusal c ≡ 0 → answer_of r a ≡ answer_with c.tally read
  moved e = (p.accepted e).answer_is ∙ accepted-answer (to_lock c) (part-accepted c e)

  pub lock_promise : (locked : Bool) → locked ≡ locked_by c.tally.framing r.tally.framing → LockPromise c (Ok (record { taken = r; locked = locked })) a
  lock_promise locked k = go (take_refusal c) refl
    where
      go : (n : ℕ) → take_refusal c ≡ n → LockPromise c (Ok (record { taken = r; locked = locked })) a
      go (suc n) e = absurd (omega (arith, e, (p.refused n e).refusal_is))
      go zero e =
          let q : PartRead c.tally.framing c.piece part read = part-read (rule_vote c.tally.rule) c.piece (state_of c.tally) c.area in
          let layer : r.tally.framing ≡ read.state.framing = ap (λ (x : Answer). x.tally.framing) (moved e) in
          let complete : r.complete ≡ read.complete = ap (λ (x : Answer). x.complete) (moved e) in
          let taken : r.taken ≡ read.taken = ap (λ (x : Answer). x.taken) (moved e) in
          let told : locked ≡ locked_by c.tally.framing read.state.framing = k ∙ rw layer in
          record {
            refusal_is = sym e;
            refused = p.refused;
            accepted = p.accepted;
            locked-is = rw (layer, told) q.count;
            takes_all = λ z d l. (p.accepted e).takes_all z d ∙ ap length (q.whole (sym complete ∙ d) (sym told ∙ l));
            takes_some = λ l. rw taken (q.some (sym told ∙ l));
          }
