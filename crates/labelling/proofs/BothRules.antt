-- One stream under both rules. A byte that splits no group under rule 1 does the same under any vote in which two equal copies decide, and so
-- does a call; so the calls of a list that splits none, run once more under rule 2, leave and pay the same, and demand 3 carries that to every
-- list with the same shifts. Assumes nothing.
use mathlib.Core.Path.{◌≡◌, refl, sym, ap, ◌∙◌}
use mathlib.Core.Bool.{Bool, true, false}
use mathlib.Core.List.{List, [], ◌∷◌, ◌++◌, map}
use mathlib.Core.Option.{some}
use Prim.Native.Nat.{ℕ, zero, suc, ◌≤◌}
use native.Mathlib.Omega.{arith}
use lib.Dec.{eqb}
use lib.ListN.{length}
use lib.Seq.{take-append_seam, drop-append_seam}
use borrow.Author.Tests.{ne_eqb}
use Rattle.labelling.specs.declared.Groups.{Groups}
use Rattle.labelling.specs.declared.Tally.{Tally}
use Rattle.labelling.specs.declared.Word.{Word}
use Rattle.labelling.specs.declared.Word.TheVariants.{Voted, Erased}
use Rattle.labelling.specs.Words.{Vote, byte_vote, weak_copy, as-split, labelled}
use Rattle.labelling.specs.Votes.{rule_vote, Majority}
use Rattle.labelling.specs.Machine.{closes, after_byte, State, state_of, with_rule, fresh, Now, word_step, word_given, byte_event, byte_step}
use Rattle.labelling.specs.Order.{in_order}
use Rattle.labelling.specs.Calls.{TakeCall, take_refusal, Progress, and_one, feed, answer, taken, pays}
use Rattle.labelling.specs.Calls.{DutyCall, duty_refusal, duty_answer, Call, takes, changes, refusal_of, last_duty, paid_by}
use Rattle.labelling.specs.Calls.{joined, paid, stamped, Handed, done, refused, accepted, changed}
use Rattle.labelling.specs.SideBySide.{ends, refused_here, refused_there, both_take, both_change, SameCuts}
use Rattle.labelling.specs.BothRules.{SameShifts, under_rule, SameAnswers, Alike}
use Rattle.labelling.specs.Once.{Once}
use Rattle.labelling.proofs.Votes.{majority, same_word}
use Rattle.labelling.proofs.Ordered.{split_grows, TallyOrdered, tally_ordered, tally_in_order}
use Rattle.labelling.proofs.Feeding.{feed-complete, feed-more, feed-taken, feed-grows}
use Rattle.labelling.proofs.CallLaws.{Passed, passed, no_refusal, refused-answer, accepted-under, accepted-rule}
use Rattle.labelling.proofs.CallLaws.{duty_passed, duty_no_refusal, duty_accepted, duty_rule}
use Rattle.labelling.proofs.SideBySide.{refused-takes, refused-stays, joined-refused, taken-length, handed-refused, took, duty_changed, cuts-duties}
use Rattle.labelling.proofs.Shifts.{joined-stamped}
use Rattle.labelling.proofs.Demand.{once}

-- ---- a byte, and a piece

-- how many groups are split
abbrev splits : State → ℕ
splits t = t.groups.split

module _ {vote : Vote} (m : Majority vote) where
  -- a byte that splits none
  step_agrees : (t : State) (a : List ℕ) (b : ℕ) → splits (byte_step byte_vote t a b).state ≡ splits t → byte_step byte_vote t a b ≡ byte_step vote t a b
  unfolding byte_step
  step_agrees t a b = go t.groups.«open»
    where
      g : Groups
      g = t.groups

      n : ℕ
      n = weak_copy g.first g.second b

      -- what the word w does
      closing : Word → Now
      closing w = word_step (some w) (after_byte (closes w n) g b) t a

      third : (w : Word) → byte_vote g.first g.second b ≡ w → splits (closing w).state ≡ splits t → closing w ≡ closing (vote g.first g.second b)
      third (Voted w) e h = rw (same_word m g.first g.second b w e)
      third Erased e h = absurd (omega arith)

      go : (k : ℕ) → let e = byte_event byte_vote k g b in let e' = byte_event vote k g b in
          splits (word_step (word_given e) (after_byte e g b) t a).state ≡ splits t
          → word_step (word_given e) (after_byte e g b) t a ≡ word_step (word_given e') (after_byte e' g b) t a
      go zero h = refl
      go (suc zero) h = refl
      go (suc (suc zero)) h = refl
      go (suc (suc (suc k))) h =
          let m = suc (suc (suc k)) in
          let no : (i : ℕ) → i ≤ 2 → eqb m i ≡ false = λ i l. ne_eqb m i (λ e. omega arith) in
          rw (no 0 (omega arith), no 1 (omega arith), no 2 (omega arith))
          (third (byte_vote g.first g.second b) refl (rw (no 0 (omega arith), no 1 (omega arith), no 2 (omega arith)) at h))

  feed-agrees : (t : State) (a p : List ℕ) → splits (feed byte_vote t a p).state ≡ splits t → feed byte_vote t a p ≡ feed vote t a p
  feed-agrees t a [] h = refl
  feed-agrees t a (b ∷ bs) h = go (byte_step byte_vote t a b).complete refl (feed-agrees (byte_step byte_vote t a b).state (byte_step byte_vote t a b).area bs)
    where
      n : Now
      n = byte_step byte_vote t a b

      stopped : Now → Progress
      stopped x = record { state = x.state; area = x.area; taken = 1; complete = true }

      -- the rest of the piece, by a vote
      rest-by : Vote → Progress
      rest-by v = feed v n.state n.area bs

      go : (c : Bool) → n.complete ≡ c → (splits (rest-by byte_vote).state ≡ splits n.state → rest-by byte_vote ≡ rest-by vote)
          → feed byte_vote t a (b ∷ bs) ≡ feed vote t a (b ∷ bs)
      go true e more =
          let first = feed-complete byte_vote t a b bs e in
          let same : n ≡ byte_step vote t a b = step_agrees t a b (rw first at h) in
          first ∙ ap stopped same ∙ sym (feed-complete vote t a b bs (rw (← same) e))
      go false e more =
          let first = feed-more byte_vote t a b bs e in
          let rest : splits (rest-by byte_vote).state ≡ splits t = rw first at h in
          let grows = feed-grows byte_vote n.state n.area bs in
          let here : splits n.state ≡ splits t = omega (arith, split_grows byte_vote t a b) in
          let same : n ≡ byte_step vote t a b = step_agrees t a b here in
          let then-on : rest-by byte_vote ≡ rest-by vote = more (rest ∙ sym here) in
          first ∙ ap (λ (x : Progress). and_one x) then-on ∙ ap (λ (x : Now). and_one (feed vote x.state x.area bs)) same
          ∙ sym (feed-more vote t a b bs (rw (← same) e))

rules_agree : (t : State) (a p : List ℕ) → splits (feed (rule_vote 1) t a p).state ≡ splits t → feed (rule_vote 1) t a p ≡ feed (rule_vote 2) t a p
unfolding rule_vote
rules_agree t a p h = feed-agrees (majority 2) t a p h

-- ---- a call

-- the same call on a tally of rule 2
abbrev take_again : TakeCall → TakeCall
take_again c = record { tally = with_rule 2 c.tally; piece = c.piece; area = c.area }

abbrev duty_again : DutyCall → DutyCall
duty_again d = record { tally = with_rule 2 d.tally; operator = d.operator }

-- a tally that has split no group may carry rule 2
again-ordered : (t : Tally) → in_order t ≡ true → t.groups.split ≡ 0 → in_order (with_rule 2 t) ≡ true
again-ordered t o none =
    let was : TallyOrdered t = tally_ordered t o in
    tally_in_order (with_rule 2 t) record {
      in_state = was.in_state;
      in_operators = was.in_operators;
      in_rule = record { is_rule_fact = refl; none-split = λ e. none };
    }

-- an accepted call of rule 1
module _ (c : TakeCall) (e : take_refusal c ≡ 0) (one-rule : c.tally.rule ≡ 1) where
  abbrev run : Progress
  run = feed (rule_vote 1) (state_of c.tally) c.area c.piece

  split_left : (answer c).tally.groups.split ≡ splits run.state
  split_left = rw (accepted-under c e one-rule)

  -- it splits no fewer groups than there were
  call-grows : c.tally.groups.split ≤ (answer c).tally.groups.split
  call-grows = rw split_left (feed-grows (rule_vote 1) (state_of c.tally) c.area c.piece)

  -- where there are none after it, it is accepted under rule 2, and answers the same
  module _ (none : (answer c).tally.groups.split ≡ 0) where
    none_before : c.tally.groups.split ≡ 0
    none_before = omega (arith, call-grows)

    again-accepted : take_refusal (take_again c) ≡ 0
    again-accepted =
        let p : Passed c = passed c e in
        no_refusal (with_rule 2 c.tally) c.piece c.area (again-ordered c.tally p.ordered_tally none_before) p.whole-area p.fits

    again-runs : run ≡ feed (rule_vote 2) (state_of c.tally) c.area c.piece
    again-runs = rules_agree (state_of c.tally) c.area c.piece (sym split_left ∙ none ∙ sym none_before)

    again-answers : answer (take_again c) ≡ under_rule 2 (answer c)
    again-answers = rw (accepted-under c e one-rule, accepted-under (take_again c) again-accepted refl, again-runs)

-- ---- a list of calls under rule 1, and its calls once more under rule 2

refused-pays : (c : Call) (n : ℕ) → refusal_of c ≡ suc n → paid_by c ≡ []
unfolding pays
refused-pays (takes c) n e = rw (refused-answer c n e)
refused-pays (changes d) n e = refl

-- what is split stays split
list_grows : {t t' : Tally} {a a' : List ℕ} {cs : List Call} → Handed t a cs t' a' → t.rule ≡ 1 → t.groups.split ≤ t'.groups.split
list_grows done q = omega arith
list_grows (refused c n e h) q = list_grows h q
list_grows (accepted c e h) q = omega (arith, call-grows c e q, list_grows h (accepted-rule c e ∙ q))
list_grows (changed d e h) q = omega (arith, ap (λ (t : Tally). t.groups.split) (duty_accepted d e), list_grows h (duty_rule d e ∙ q))

record Again (t : Tally) (a : List ℕ) (cs : List Call) (t' : Tally) (a' : List ℕ) : Type 0 where
  calls : List Call
  handed : Handed (with_rule 2 t) a calls (with_rule 2 t') a'
  as_stamped : (k : ℕ) → stamped k calls ≡ stamped k cs
  last_duty_fact : (k : ℕ) → last_duty k calls ≡ last_duty k cs
  paid-same : paid calls ≡ paid cs

again : {t t' : Tally} {a a' : List ℕ} {cs : List Call} → Handed t a cs t' a' → t.rule ≡ 1 → t'.groups.split ≡ 0 → Again t a cs t' a'
unfolding paid taken pays
again done q none = record { calls = []; handed = done; as_stamped = λ k. refl; last_duty_fact = λ k. refl; paid-same = refl }
again (refused c n e h) q none =
    let r = again h q none in
    record {
      calls = r.calls;
      handed = r.handed;
      as_stamped = λ k. r.as_stamped k ∙ rw (refused-takes c n e, refused-stays k c n e);
      last_duty_fact = λ k. r.last_duty_fact k ∙ rw (refused-stays k c n e);
      paid-same = r.paid-same ∙ rw (refused-pays c n e);
    }
again {t' = t'} {a' = a'} (accepted c e h) q none =
    let q' = accepted-rule c e ∙ q in
    let r = again h q' none in
    let left : (answer c).tally.groups.split ≡ 0 = omega (arith, list_grows h q') in
    let same = again-answers c e q left in
    let on : Handed (answer (take_again c)).tally (answer (take_again c)).area r.calls (with_rule 2 t') a' = rw same r.handed in
    record {
      calls = takes (take_again c) ∷ r.calls;
      handed = accepted (take_again c) (again-accepted c e q left) on;
      as_stamped = λ k. rw (same, r.as_stamped k);
      last_duty_fact = λ k. r.last_duty_fact k;
      paid-same = rw (same, r.paid-same);
    }
again {t' = t'} {a} {a'} (changed d e h) q none =
    let q' = duty_rule d e ∙ q in
    let r = again h q' none in
    let was = duty_passed d e in
    let before : d.tally.groups.split ≡ 0 = omega (arith, ap (λ (t : Tally). t.groups.split) (duty_accepted d e), list_grows h q') in
    let ok : duty_refusal (duty_again d) ≡ 0 =
    duty_no_refusal (with_rule 2 d.tally) d.operator (again-ordered d.tally was.ordered_tally before) was.is_operator in
    let same : duty_answer (duty_again d) ≡ with_rule 2 (duty_answer d) = duty_accepted (duty_again d) ok ∙ rw (duty_accepted d e) in
    let on : Handed (duty_answer (duty_again d)) a r.calls (with_rule 2 t') a' = rw same r.handed in
    record {
      calls = changes (duty_again d) ∷ r.calls;
      handed = changed (duty_again d) ok on;
      as_stamped = λ k. rw (ok, e) (r.as_stamped d.operator);
      last_duty_fact = λ k. rw (ok, e) (r.last_duty_fact d.operator);
      paid-same = r.paid-same;
    }

-- ---- lists with the same cuts

-- two lists that begin as long as each other
parts_same : (xs ys xs' ys' : List ℕ) → length xs ≡ length xs' → xs ++ ys ≡ xs' ++ ys' → (xs ≡ xs') × (ys ≡ ys')
parts_same xs ys xs' ys' l e = (
  sym (take-append_seam xs ys) ∙ rw (l, e) (take-append_seam xs' ys'),
  sym (drop-append_seam xs ys) ∙ rw (l, e) (drop-append_seam xs' ys'),
)

-- the bytes of two calls that take as many, and of the rest
taken-same : (cs ds : List Call) (c d : TakeCall) → take_refusal c ≡ 0 → take_refusal d ≡ 0 → (answer d).taken ≡ (answer c).taken
    → joined (takes d ∷ ds) ≡ joined (takes c ∷ cs) → (taken d ≡ taken c) × (joined ds ≡ joined cs)
unfolding joined
taken-same cs ds c d e f same j =
    parts_same (taken d) (joined ds) (taken c) (joined cs) (taken-length d f ∙ same ∙ sym (taken-length c e)) j

-- stamped bytes are decided by the bytes and the duties
pairs_same : (xs ys : List (ℕ × ℕ)) → map (λ x. x.0) ys ≡ map (λ x. x.0) xs → map (λ x. x.1) ys ≡ map (λ x. x.1) xs → ys ≡ xs
pairs_same [] [] e f = refl
pairs_same [] (y ∷ ys) e f = absurd (let z : ◌≡◌ {A = ℕ} 0 1 = cc in omega arith)
pairs_same (x ∷ xs) [] e f = absurd (let z : ◌≡◌ {A = ℕ} 0 1 = cc in omega arith)
pairs_same (x ∷ xs) (y ∷ ys) e f =
    let first : y.0 ≡ x.0 = cc in
    let second : y.1 ≡ x.1 = cc in
    let rest : ys ≡ xs = pairs_same xs ys (cc) (cc) in
    rw (first, second, rest)

pub cuts-suffice : (cs ds : List Call) → joined ds ≡ joined cs → SameCuts cs ds → SameShifts cs ds
cuts-suffice cs ds j s =
    let d = cuts-duties cs ds s in
    record {
      as_taken = pairs_same (stamped 0 cs) (stamped 0 ds) (rw (← joined-stamped 0 ds, ← joined-stamped 0 cs) j) d.as_taken;
      at_the_end = d.at_the_end;
    }

-- ---- call by call

-- only the bytes that a call takes matter
run-taken : (c : TakeCall) → take_refusal c ≡ 0 → (rule : ℕ) → c.tally.rule ≡ rule
    → feed (rule_vote rule) (state_of c.tally) c.area (taken c) ≡ feed (rule_vote rule) (state_of c.tally) c.area c.piece
unfolding taken
run-taken c e rule q = rw (accepted-under c e q) (feed-taken (rule_vote rule) (state_of c.tally) c.area c.piece)

-- a call under rule 1 that splits no group, and one under rule 2 that is handed the same and takes the same bytes
record Beside (c d : TakeCall) : Type 0 where
  here : take_refusal c ≡ 0
  there : take_refusal d ≡ 0
  rule_is : c.tally.rule ≡ 1
  tally_same : d.tally ≡ with_rule 2 c.tally
  area_same : d.area ≡ c.area
  taken_equal : taken d ≡ taken c
  none_left : (answer c).tally.groups.split ≡ 0

beside_answers : (c d : TakeCall) → Beside c d → answer d ≡ under_rule 2 (answer c)
beside_answers c d b = accepted-under d b.there rule_two ∙ rw (runs_same, b.tally_same) (sym (ap (under_rule 2) (accepted-under c b.here b.rule_is)))
  where
    rule_two : d.tally.rule ≡ 2
    rule_two = ap (λ (t : Tally). t.rule) b.tally_same

    s : State
    s = state_of c.tally

    first : feed (rule_vote 1) s c.area (taken c) ≡ feed (rule_vote 1) s c.area c.piece
    first = run-taken c b.here 1 b.rule_is

    unsplit : splits (feed (rule_vote 1) s c.area (taken c)).state ≡ splits s
    unsplit =
        rw first
        (sym (split_left c b.here b.rule_is) ∙ b.none_left ∙ sym (none_before c b.here b.rule_is b.none_left))

    runs_same : feed (rule_vote 2) (state_of d.tally) d.area d.piece ≡ feed (rule_vote 1) s c.area c.piece
    runs_same =
        sym (run-taken d b.there 2 rule_two)
        ∙ rw (b.taken_equal, b.tally_same, b.area_same) (sym (rules_agree s c.area (taken c) unsplit)) ∙ first

each-alike : {cs ds : List Call} → SameCuts cs ds → {t t' u u' : Tally} {a a' b b' : List ℕ} → Handed t a cs t' a' → Handed u b ds u' b' → t.rule ≡ 1
    → u ≡ with_rule 2 t → b ≡ a → joined ds ≡ joined cs → t'.groups.split ≡ 0 → SameAnswers cs ds
unfolding joined
each-alike ends h g q e f j none = ends
each-alike (refused_here {cs} c n r s) h g q e f j none =
    refused_here c n r (each-alike s (handed-refused c n r h) g q e f (j ∙ joined-refused c cs n r) none)
each-alike (refused_there {ds = ds} d n r s) h g q e f j none =
    refused_there d n r (each-alike s h (handed-refused d n r g) q e f (sym (joined-refused d ds n r) ∙ j) none)
each-alike (both_take {cs} {ds} c d r r' same s) h g q e f j none =
    let x = took c r h in
    let y = took d r' g in
    let parts = taken-same cs ds c d r r' same j in
    let rule_is : c.tally.rule ≡ 1 = rw (← x.tally_is) q in
    let beside : Beside c d =
    record {
      here = r;
      there = r';
      rule_is = rule_is;
      tally_same = sym y.tally_is ∙ e ∙ ap (with_rule 2) x.tally_is;
      area_same = sym y.area_is ∙ f ∙ x.area_is;
      taken_equal = parts.0;
      none_left = omega (arith, list_grows x.rest (accepted-rule c r ∙ rule_is));
    } in
    let answers = beside_answers c d beside in
    both_take c d r r' answers
    (each-alike s x.rest y.rest (accepted-rule c r ∙ rule_is) (rw answers) (rw answers) parts.1 none)
each-alike (both_change c d r r' same s) h g q e f j none =
    let x = duty_changed c r h in
    let y = duty_changed d r' g in
    let tally_same : d.tally ≡ with_rule 2 c.tally = sym y.tally_is ∙ e ∙ ap (with_rule 2) x.tally_is in
    let answers : duty_answer d ≡ with_rule 2 (duty_answer c) = duty_accepted d r' ∙ rw (tally_same, same, duty_accepted c r) in
    both_change c d r r' answers (each-alike s x.rest y.rest (duty_rule c r ∙ rw (← x.tally_is) q) answers f j none)

-- ---- the claim

module _ (a₀ : List ℕ) (whole : length a₀ ≡ 16384) (cs ds : List Call) (t u : Tally) (a b : List ℕ) (h : Handed (fresh 1) a₀ cs t a)
    (g : Handed (fresh 2) a₀ ds u b) (same : SameShifts cs ds) (unsplit : labelled (rule_vote 1) as-split (joined cs) ≡ 0) where
  none-split : t.groups.split ≡ 0
  none-split = omega (arith, (once 1 refl a₀ whole cs t a h).counts.split_is)

  first-rule : (fresh 1).rule ≡ 1
  unfolding fresh
  first-rule = refl

  second-rule : with_rule 2 (fresh 1) ≡ fresh 2
  unfolding fresh
  second-rule = refl

  once_more : Again (fresh 1) a₀ cs t a
  once_more = again h first-rule none-split

  handed-more : Handed (fresh 2) a₀ once_more.calls (with_rule 2 t) a
  handed-more = rw second-rule at once_more.handed

  bytes_same : joined ds ≡ joined cs
  bytes_same = joined-stamped 0 ds ∙ rw same.as_taken (sym (joined-stamped 0 cs))

  bytes_more : joined ds ≡ joined once_more.calls
  bytes_more = joined-stamped 0 ds ∙ rw (same.as_taken ∙ sym (once_more.as_stamped 0)) (sym (joined-stamped 0 once_more.calls))

  pub read_alike : Alike cs ds t u a b
  read_alike =
      let under : Once 2 a₀ once_more.calls (with_rule 2 t) a = once 2 refl a₀ whole once_more.calls (with_rule 2 t) a handed-more in
      let left =
      under.decided ds u b g (same.as_taken ∙ sym (once_more.as_stamped 0)) (same.at_the_end ∙ sym (once_more.last_duty_fact 0)) in
      record {
        tally_same = left.0;
        area_same = left.1;
        paid-same = (once 2 refl a₀ whole ds u b g).paid-is ∙ rw bytes_more (sym under.paid-is) ∙ once_more.paid-same;
        each_call = λ cuts. each-alike cuts h g first-rule (sym second-rule) refl bytes_same none-split;
      }
