-- Copy errors cost no frame (02, request 10). The words of a stream, and of its first n bytes, stay: so two lists of calls over them leave the same but for
-- the copies, at each call as at the end, and a call stops at the same byte. Assumes nothing.
use mathlib.Core.Path.{◌≡◌, refl, sym, ap, ◌∙◌}
use mathlib.Core.Bool.{Bool, true, false, cond}
use mathlib.Core.List.{List, [], ◌∷◌, ◌++◌, map, append_assoc, append-nil}
use Prim.Native.Nat.{ℕ, ◌+◌, ◌^◌, ◌≤◌, ◌<◌}
use native.Mathlib.Omega.{arith}
use lib.Dec.{ltb}
use lib.ListN.{length, take, drop, length-append, length-take, length-map, take-append-drop}
use lib.Seq.{take-append_seam, take-append-le, take-append-add, take-take, take_all}
use borrow.Author.Tests.{ltb-true, ltb-false}
use Rattle.base.specs.Lists.{concat_map, one}
use Rattle.base.proofs.Lists.{concat_map-append}
use Rattle.labelling.specs.declared.Tally.{Tally}
use Rattle.labelling.specs.Words.{Vote}
use Rattle.labelling.specs.Votes.{rule_vote}
use Rattle.labelling.specs.Machine.{fresh}
use Rattle.labelling.specs.Order.{is_rule}
use Rattle.labelling.specs.Calls.{TakeCall, take_refusal, answer, taken, pays, DutyCall, duty_refusal, duty_answer, Call, takes, changes}
use Rattle.labelling.specs.Calls.{taken_by, paid_by, joined, paid, stamped, Handed, done, refused, accepted, changed}
use Rattle.labelling.specs.SideBySide.{ends, refused_here, refused_there, both_take, both_change, SameCuts, SameDuties}
use Rattle.labelling.specs.CopyErrors.{CopyErrors, SameButCopies, SameAnswer, SameAnswers, Unharmed, ReadLikewise}
use Rattle.labelling.specs.Once.{majors_in, PaysAt, Each}
use Rattle.labelling.proofs.Votes.{majority}
use Rattle.labelling.proofs.CallLaws.{passed, duty_passed}
use Rattle.labelling.proofs.SideBySide.{joined-refused, handed-refused, took, duty_changed, duties_append}
use Rattle.labelling.proofs.Shifts.{joined-stamped}
use Rattle.labelling.proofs.Reaching.{handed-append}
use Rattle.labelling.proofs.Demand.{once}
use Rattle.labelling.proofs.SameWords.{SameWords, same-front, same_length, same-majors}
use Rattle.labelling.proofs.CopyErrors.{words-stay, weakly-more, first-kept, second-kept}
use Rattle.labelling.proofs.SameLeft.{same-but_copies, area_same, paid-same}

-- ---- what a call takes and pays

-- a call pays a major frame where it completes one
pays-count : (c : TakeCall) → length (pays c) ≡ one (answer c).complete
unfolding pays
pays-count c = go (answer c).complete
  where
    go : (e : Bool) → length (cond e ((answer c).area ∷ []) []) ≡ one e
    go true = refl
    go false = refl

same_test : (e f : Bool) → one f ≡ one e → f ≡ e
same_test true true h = refl
same_test true false h = absurd (omega arith)
same_test false true h = absurd (omega arith)
same_test false false h = refl

paid-more : (cs : List Call) (c : TakeCall) → length (paid (cs ++ takes c ∷ [])) ≡ length (paid cs) + one (answer c).complete
unfolding paid
paid-more cs c =
    rw (concat_map-append paid_by cs (takes c ∷ []), append-nil (pays c), length-append (concat_map paid_by cs) (pays c), pays-count c)

-- the bytes bs after one call more
joined-more : (cs : List Call) (c : Call) (bs : List ℕ) → joined (cs ++ c ∷ []) ++ bs ≡ joined cs ++ (taken_by c ++ bs)
unfolding joined
joined-more cs c bs =
    rw (concat_map-append taken_by cs (c ∷ []), append-nil (taken_by c)) (append_assoc (concat_map taken_by cs) (taken_by c) bs)

joined-first : (c : Call) (cs : List Call) → joined (c ∷ cs) ≡ taken_by c ++ joined cs
unfolding joined
joined-first c cs = refl

abbrev call_on : Tally → List ℕ → List ℕ → TakeCall
call_on t p a = record { tally = t; piece = p; area = a }

-- what demand 3 says of the last call of a list
last_pays : (vote : Vote) (js : List ℕ) (cs : List Call) (c : TakeCall) → Each vote js (cs ++ takes c ∷ []) → PaysAt vote (js ++ joined cs) c
unfolding joined
last_pays vote js [] c e = rw (append-nil js) e.0
last_pays vote js (takes b ∷ cs) c e = rw (append_assoc js (taken b) (joined cs)) at (last_pays vote (js ++ taken b) cs c e.1)
last_pays vote js (changes b ∷ cs) c e = last_pays vote js cs c e

-- after js and js' there are the same major frames, as far as the calls c and d go: what d takes and c is handed, c takes too
no_sooner : {vote : Vote} {js js' : List ℕ} {c d : TakeCall} → take_refusal c ≡ 0 → PaysAt vote js c → PaysAt vote js' d
    → (answer d).taken ≤ length c.piece
    → ((k : ℕ) → k ≤ (answer c).taken → majors_in vote (js' ++ take k d.piece) ≡ majors_in vote (js ++ take k c.piece)) → (answer d).taken ≤ (answer c).taken
unfolding taken
no_sooner {vote} {js} {js'} {c} {d} r p q few same = go (ltb (answer c).taken (answer d).taken) refl
  where
    n : ℕ
    n = (answer c).taken

    stops : (e : Bool) → (answer c).complete ≡ e → n < (answer d).taken → ⊥
    stops false e h = omega (arith, p.count-is, ap length (p.accepted-all r e))
    stops true e h =
        let one-new = rw e at p.holds in
        let none-new : majors_in vote (js ++ take n c.piece) ≡ majors_in vote js =
        sym (same n (omega arith)) ∙ q.before n h ∙ rw (append-nil js, append-nil js') at (same 0 (omega arith)) in
        let more = length-append (majors_in vote js) p.new in
        omega (arith, ap length p.after, ap length none-new, more, ap length one-new.1)

    go : (e : Bool) → ltb n (answer d).taken ≡ e → (answer d).taken ≤ n
    go true e = absurd (stops (answer c).complete refl (ltb-true n (answer d).taken e))
    go false e = ltb-false n (answer d).taken e

taken-few : {vote : Vote} {js : List ℕ} {c : TakeCall} → PaysAt vote js c → (answer c).taken ≤ length c.piece
unfolding taken
taken-few {c = c} p = omega (arith, p.count-is, length-take (answer c).taken c.piece)

-- as many bytes are taken
as_long : {cs ds : List Call} → SameDuties cs ds → length (joined ds) ≡ length (joined cs)
as_long {cs} {ds} d =
    let bytes : (l : List (ℕ × ℕ)) → length (map (λ x. x.0) l) ≡ length (map (λ x. x.1) l) = λ l. length-map l _ ∙ sym (length-map l _) in
    rw (joined-stamped 0 cs, joined-stamped 0 ds) (bytes (stamped 0 ds) ∙ ap length d.as_taken ∙ sym (bytes (stamped 0 cs)))

module _ (rule : ℕ) (is_rule_fact : is_rule rule ≡ true) (a₀ : List ℕ) (whole : length a₀ ≡ 16384) where
  -- two lists of calls, as far as they have gone
  record SoFar (cs ds : List Call) (t u : Tally) (a b : List ℕ) : Type 0 where
    here : Handed (fresh rule) a₀ cs t a
    there : Handed (fresh rule) a₀ ds u b
    duties : SameDuties cs ds

  -- and what they have left by then
  record Left (cs ds : List Call) (t u : Tally) (a b : List ℕ) : Type 0 where
    tally_left : SameButCopies t u
    area_left : b ≡ a
    paid-left : paid ds ≡ paid cs

  left-same : {cs ds : List Call} {t u : Tally} {a b : List ℕ} (bs bs' : List ℕ) → SoFar cs ds t u a b
      → SameWords (rule_vote rule) (joined cs ++ bs) (joined ds ++ bs') → Left cs ds t u a b
  left-same {cs} {ds} {t} {u} {a} {b} bs bs' x s =
      let front = same-front (rule_vote rule) (length (joined cs)) s in
      let so_far : SameWords (rule_vote rule) (joined cs) (joined ds) =
      rw (take-append_seam (joined cs) bs, ← as_long x.duties, take-append_seam (joined ds) bs') at front in
      let o = once rule is_rule_fact a₀ whole cs t a x.here in
      let o' = once rule is_rule_fact a₀ whole ds u b x.there in
      record {
        tally_left = same-but_copies o o' so_far x.duties;
        area_left = area_same o o' so_far;
        paid-left = paid-same o o' so_far;
      }

  -- ---- one call more on each

  after_both : (c d : Call) (cs ds cs' ds' : List Call) → SameWords (rule_vote rule) (joined cs ++ joined (c ∷ cs')) (joined ds ++ joined (d ∷ ds'))
      → SameWords (rule_vote rule) (joined (cs ++ c ∷ []) ++ joined cs') (joined (ds ++ d ∷ []) ++ joined ds')
  after_both c d cs ds cs' ds' s =
      rw (joined-more cs c (joined cs'), joined-more ds d (joined ds')) (rw (joined-first c cs', joined-first d ds') at s)

  module _ {cs ds : List Call} {t u : Tally} {a b : List ℕ} (x : SoFar cs ds t u a b) where
    -- of either kind
    more : {c d : Call} {t' u' : Tally} {a' b' : List ℕ} → Handed t a (c ∷ []) t' a' → Handed u b (d ∷ []) u' b' → SameCuts (c ∷ []) (d ∷ [])
        → SoFar (cs ++ c ∷ []) (ds ++ d ∷ []) t' u' a' b'
    more h g same = record { here = handed-append x.here h; there = handed-append x.there g; duties = duties_append x.duties same }

    -- two calls that take as many bytes
    answers_same : (bs bs' : List ℕ) (c d : TakeCall)
        → SoFar (cs ++ takes c ∷ []) (ds ++ takes d ∷ []) (answer c).tally (answer d).tally (answer c).area (answer d).area
        → (answer d).taken ≡ (answer c).taken → SameWords (rule_vote rule) (joined (cs ++ takes c ∷ []) ++ bs) (joined (ds ++ takes d ∷ []) ++ bs')
        → SameAnswer c d
    answers_same bs bs' c d y same s =
        let before = left-same (taken c ++ bs) (taken d ++ bs') x (rw (joined-more cs (takes c) bs, joined-more ds (takes d) bs') at s) in
        let after = left-same bs bs' y s in
        let one_more : one (answer d).complete ≡ one (answer c).complete =
        omega (arith, paid-more cs c, paid-more ds d, ap length before.paid-left, ap length after.paid-left) in
        record {
          taken-same = same;
          complete_same = same_test (answer c).complete (answer d).complete one_more;
          area_same = after.area_left;
          tally_same = after.tally_left;
        }

  -- ---- the next call on each

  -- after the calls cs one on the piece p is accepted
  next-accepted : {cs : List Call} {t : Tally} {a : List ℕ} → Handed (fresh rule) a₀ cs t a → (p : List ℕ) → length (joined cs) + length p ≤ 2 ^ 40
      → take_refusal (call_on t p a) ≡ 0
  next-accepted {cs} {t} {a} h p fits = (once rule is_rule_fact a₀ whole cs t a h).goes_on p fits

  -- and demand 3 says what an accepted one pays
  next-pays : {cs : List Call} (c : TakeCall) → Handed (fresh rule) a₀ cs c.tally c.area → take_refusal c ≡ 0 → PaysAt (rule_vote rule) (joined cs) c
  next-pays {cs} c h e =
      let o = once rule is_rule_fact a₀ whole (cs ++ takes c ∷ []) _ _ (handed-append h (accepted c e done)) in
      last_pays (rule_vote rule) [] cs c o.each

  -- over streams that go on with the same words it stops at the same byte
  module _ {cs ds : List Call} {t u : Tally} {a b : List ℕ} (x : SoFar cs ds t u a b) (p p' : List ℕ)
      (s : SameWords (rule_vote rule) (joined cs ++ p) (joined ds ++ p')) (fits : length (joined cs) + length p ≤ 2 ^ 40) where
    as_many_more : length p' ≡ length p
    as_many_more =
        omega (arith, same_length (rule_vote rule) s, length-append (joined cs) p, length-append (joined ds) p', as_long x.duties)

    fits-there : length (joined ds) + length p' ≤ 2 ^ 40
    fits-there = omega (arith, as_many_more, as_long x.duties)

    same-majors_at : (k : ℕ) → majors_in (rule_vote rule) (joined ds ++ take k p') ≡ majors_in (rule_vote rule) (joined cs ++ take k p)
    same-majors_at k =
        rw (take-append-add (joined cs) p k, ← as_long x.duties, take-append-add (joined ds) p' k)
        at (same-majors (rule_vote rule) (same-front (rule_vote rule) (length (joined cs) + k) s))

    here-accepted : take_refusal (call_on t p a) ≡ 0
    here-accepted = next-accepted x.here p fits

    there_accepted : take_refusal (call_on u p' b) ≡ 0
    there_accepted = next-accepted x.there p' fits-there

    same_stop : (answer (call_on u p' b)).taken ≡ (answer (call_on t p a)).taken
    same_stop =
        let pays = next-pays (call_on t p a) x.here here-accepted in
        let pays' = next-pays (call_on u p' b) x.there there_accepted in
        let few = taken-few pays in
        let few' = taken-few pays' in
        omega (
          arith,
          no_sooner here-accepted pays pays' (omega (arith, as_many_more)) (λ k h. same-majors_at k),
          no_sooner there_accepted pays' pays (omega (arith, as_many_more)) (λ k h. sym (same-majors_at k)),
        )

    next-same : SameAnswer (call_on t p a) (call_on u p' b)
    unfolding taken
    next-same =
        let c = call_on t p a in
        let d = call_on u p' b in
        let both = both_take c d here-accepted there_accepted same_stop ends in
        let next = more x (accepted c here-accepted done) (accepted d there_accepted done) both in
        let n = (answer c).taken in
        let m = (answer d).taken in
        answers_same x (drop n p) (drop m p') c d next same_stop
        (rw (joined-more cs (takes c) (drop n p), joined-more ds (takes d) (drop m p'), take-append-drop n p, take-append-drop m p') s)

  -- ---- call by call

  each_same : {cs ds cs' ds' : List Call} {t u t' u' : Tally} {a b a' b' : List ℕ} → SameCuts cs' ds' → SoFar cs ds t u a b → Handed t a cs' t' a'
      → Handed u b ds' u' b' → SameWords (rule_vote rule) (joined cs ++ joined cs') (joined ds ++ joined ds') → SameAnswers cs' ds'
  each_same ends x h g s = ends
  each_same (refused_here {cs = rest} c n r k) x h g s =
      refused_here c n r (each_same k x (handed-refused c n r h) g (rw (joined-refused c rest n r) at s))
  each_same (refused_there {ds = rest} d n r k) x h g s =
      refused_there d n r (each_same k x h (handed-refused d n r g) (rw (joined-refused d rest n r) at s))
  each_same {cs} {ds} {t} {u} {a} {b} (both_take {cs = rest} {ds = rest'} c d r r' same k) x h g s =
      let p = took c r h in
      let q = took d r' g in
      let first : Handed t a (takes c ∷ []) (answer c).tally (answer c).area = rw (p.tally_is, p.area_is) (accepted c r done) in
      let second : Handed u b (takes d ∷ []) (answer d).tally (answer d).area = rw (q.tally_is, q.area_is) (accepted d r' done) in
      let next = more x first second (both_take c d r r' same ends) in
      let s' = after_both (takes c) (takes d) cs ds rest rest' s in
      both_take c d r r' (answers_same x (joined rest) (joined rest') c d next same s')
      (each_same {cs = cs ++ takes c ∷ []} {ds = ds ++ takes d ∷ []} k next p.rest q.rest s')
  each_same {cs} {ds} {t} {u} {a} {b} (both_change {cs = rest} {ds = rest'} c d r r' same k) x h g s =
      let p = duty_changed c r h in
      let q = duty_changed d r' g in
      let first : Handed t a (changes c ∷ []) (duty_answer c) a = rw p.tally_is (changed c r done) in
      let second : Handed u b (changes d ∷ []) (duty_answer d) b = rw q.tally_is (changed d r' done) in
      let next = more x first second (both_change c d r r' same ends) in
      let s' = after_both (changes c) (changes d) cs ds rest rest' s in
      both_change c d r r' (left-same (joined rest) (joined rest') next s').tally_left
      (each_same {cs = cs ++ changes c ∷ []} {ds = ds ++ changes d ∷ []} k next p.rest q.rest s')

  -- ---- the same calls over the other stream

  -- a call, and one on as many bytes of the other stream as it takes
  module _ {cs ds : List Call} {u : Tally} {b : List ℕ} (c : TakeCall) (e : take_refusal c ≡ 0) (x : SoFar cs ds c.tally u c.area b) (bs bs' : List ℕ)
      (s : SameWords (rule_vote rule) (joined cs ++ (taken c ++ bs)) (joined ds ++ bs')) where
    abbrev count : ℕ
    count = (answer c).taken

    abbrev again : TakeCall
    again = call_on u (take count bs') b

    pays-first : PaysAt (rule_vote rule) (joined cs) c
    pays-first = next-pays c x.here e

    long_enough : length (take count bs') ≡ count
    long_enough =
        let whole = same_length (rule_vote rule) s in
        let after = length-append (joined cs) (taken c ++ bs) in
        omega (arith, whole, after, length-append (joined ds) bs', length-append (taken c) bs, as_long x.duties, pays-first.count-is, length-take count bs')

    again-accepted : take_refusal again ≡ 0
    again-accepted =
        let bytes = (once rule is_rule_fact a₀ whole cs c.tally c.area x.here).counts.bytes_is in
        next-accepted x.there (take count bs') (omega (arith, long_enough, as_long x.duties, bytes, (passed c e).fits, taken-few pays-first))

    pays-again : PaysAt (rule_vote rule) (joined ds) again
    pays-again = next-pays again x.there again-accepted

    majors-at : (k : ℕ) → k ≤ count
        → majors_in (rule_vote rule) (joined cs ++ take k c.piece) ≡ majors_in (rule_vote rule) (joined ds ++ take k (take count bs'))
    unfolding taken
    majors-at k h =
        let front = same-majors (rule_vote rule) (same-front (rule_vote rule) (length (joined cs) + k) s) in
        sym (rw (
          take-append-add (joined cs) (taken c ++ bs) k,
          take-append-le k (taken c) bs (omega (arith, pays-first.count-is)),
          take-take k count c.piece h,
          ← as_long x.duties,
          take-append-add (joined ds) bs' k,
          ← take-take k count bs' h,
        )
        at front)

    as_many_again : (answer again).taken ≡ count
    as_many_again =
        omega (
          arith,
          taken-few pays-again,
          long_enough,
          no_sooner again-accepted pays-again pays-first (omega (arith, long_enough)) (λ k h. majors-at k (omega (arith, taken-few pays-again, long_enough))),
        )

    again-takes : taken again ≡ take count bs'
    unfolding taken
    again-takes = take_all (answer again).taken (take count bs') (omega (arith, as_many_again, long_enough))

  -- the bytes are at an end
  no_more : (u : Tally) (b bs : List ℕ) → length bs ≡ 0 → ReadLikewise u b [] bs
  unfolding joined
  no_more u b [] e = record { calls = []; tally = u; area = b; handed = done; cuts = ends; joined_is = refl }
  no_more u b (y ∷ bs) e = absurd (omega arith)

  -- one call before the others
  take-first : {cs : List Call} {bs : List ℕ} (c d : TakeCall) → take_refusal c ≡ 0 → take_refusal d ≡ 0 → (answer d).taken ≡ (answer c).taken
      → taken d ≡ take (answer c).taken bs → ReadLikewise (answer d).tally (answer d).area cs (drop (answer c).taken bs)
      → ReadLikewise d.tally d.area (takes c ∷ cs) bs
  take-first {bs = bs} c d e ok same takes-it r = record {
    calls = takes d ∷ r.calls;
    tally = r.tally;
    area = r.area;
    handed = accepted d ok r.handed;
    cuts = both_take c d e ok same r.cuts;
    joined_is = rw (joined-first (takes d) r.calls, takes-it, r.joined_is) (take-append-drop (answer c).taken bs);
  }

  change_first : {cs : List Call} {b bs : List ℕ} (c d : DutyCall) → duty_refusal c ≡ 0 → duty_refusal d ≡ 0 → d.operator ≡ c.operator
      → ReadLikewise (duty_answer d) b cs bs → ReadLikewise d.tally b (changes c ∷ cs) bs
  change_first c d e ok same r = record {
    calls = changes d ∷ r.calls;
    tally = r.tally;
    area = r.area;
    handed = changed d ok r.handed;
    cuts = both_change c d e ok same r.cuts;
    joined_is = rw (joined-first (changes d) r.calls) r.joined_is;
  }

  reread : {cs ds cs' : List Call} {t u t' : Tally} {a b a' : List ℕ} (bs : List ℕ) → SoFar cs ds t u a b → Handed t a cs' t' a'
      → SameWords (rule_vote rule) (joined cs ++ joined cs') (joined ds ++ bs) → ReadLikewise u b cs' bs
  unfolding joined taken
  reread {cs} {ds} {u = u} {b = b} bs x done s =
      no_more u b bs (omega (arith, same_length (rule_vote rule) s, length-append (joined cs) [], length-append (joined ds) bs, as_long x.duties))
  reread bs x (refused {cs = rest} c n e h) s =
      let r = reread bs x h (rw (joined-refused c rest n e) at s) in
      record { calls = r.calls; tally = r.tally; area = r.area; handed = r.handed; cuts = refused_here c n e r.cuts; joined_is = r.joined_is }
  reread {cs} {ds} {u = u} {b = b} bs x (accepted {cs = rest} c e h) s =
      let n = (answer c).taken in
      let d = call_on u (take n bs) b in
      let ok = again-accepted c e x (joined rest) bs s in
      let same = as_many_again c e x (joined rest) bs s in
      let takes-it = again-takes c e x (joined rest) bs s in
      let next = more x (accepted c e done) (accepted d ok done) (both_take c d e ok same ends) in
      let s' : SameWords (rule_vote rule) (joined (cs ++ takes c ∷ []) ++ joined rest) (joined (ds ++ takes d ∷ []) ++ drop n bs) =
      rw (joined-more cs (takes c) (joined rest), joined-more ds (takes d) (drop n bs), takes-it, take-append-drop n bs) s in
      take-first c d e ok same takes-it (reread {cs = cs ++ takes c ∷ []} {ds = ds ++ takes d ∷ []} (drop n bs) next h s')
  reread {cs} {ds} {u = u} {b = b} bs x (changed {cs = rest} c e h) s =
      let d : DutyCall = record { tally = u; operator = c.operator } in
      let ok = (once rule is_rule_fact a₀ whole ds u b x.there).changes_on c.operator (duty_passed c e).is_operator in
      let next = more x (changed c e done) (changed d ok done) (both_change c d e ok refl ends) in
      let s' : SameWords (rule_vote rule) (joined (cs ++ changes c ∷ []) ++ joined rest) (joined (ds ++ changes d ∷ []) ++ bs) =
      rw (joined-more cs (changes c) (joined rest), joined-more ds (changes d) bs) s in
      change_first c d e ok refl (reread {cs = cs ++ changes c ∷ []} {ds = ds ++ changes d ∷ []} bs next h s')

  -- ---- the claim

  pub unharmed : (cs ds : List Call) (t u : Tally) (a b : List ℕ) → Handed (fresh rule) a₀ cs t a → Handed (fresh rule) a₀ ds u b → SameDuties cs ds
      → CopyErrors (joined cs) (joined ds) → Unharmed cs ds t u a b
  unfolding joined
  unharmed cs ds t u a b h g d e =
      let m = majority rule in
      let s = words-stay m e in
      let o = once rule is_rule_fact a₀ whole cs t a h in
      let o' = once rule is_rule_fact a₀ whole ds u b g in
      record {
        tally_same = same-but_copies o o' s d;
        weak_rise = omega (arith, o.counts, o'.counts, weakly-more m e);
        first_same = λ q. o'.rest.first-is ∙ first-kept e q ∙ sym o.rest.first-is;
        second_same = λ q. o'.rest.second_is ∙ second-kept e q ∙ sym o.rest.second_is;
        area_same = area_same o o' s;
        paid-same = paid-same o o' s;
        each_call = λ cuts. each_same cuts (record { here = done; there = done; duties = record { as_taken = refl; at_the_end = refl } }) h g s;
      }

  pub stops_same : (cs ds : List Call) (t u : Tally) (a b : List ℕ) → Handed (fresh rule) a₀ cs t a → Handed (fresh rule) a₀ ds u b → SameDuties cs ds
      → (p p' q q' : List ℕ) → CopyErrors (joined cs ++ (p ++ q)) (joined ds ++ (p' ++ q')) → length p' ≡ length p
      → length (joined cs) + length p ≤ 2 ^ 40
      → SameAnswer (record { tally = t; piece = p; area = a }) (record { tally = u; piece = p'; area = b })
  stops_same cs ds t u a b h g d p p' q q' e long fits =
      let vote = rule_vote rule in
      let x : SoFar cs ds t u a b = record { here = h; there = g; duties = d } in
      let front = same-front vote (length (joined cs) + length p) (words-stay (majority rule) e) in
      let s : SameWords vote (joined cs ++ p) (joined ds ++ p') =
      rw (
        take-append-add (joined cs) (p ++ q) (length p),
        take-append_seam p q,
        ← as_long d,
        ← long,
        take-append-add (joined ds) (p' ++ q') (length p'),
        take-append_seam p' q',
      )
      at front in
      next-same x p p' s fits

  pub reads_likewise : (cs : List Call) (t : Tally) (a bs : List ℕ) → Handed (fresh rule) a₀ cs t a → CopyErrors (joined cs) bs
      → ReadLikewise (fresh rule) a₀ cs bs
  unfolding joined
  reads_likewise cs t a bs h e =
      reread bs (record { here = done; there = done; duties = record { as_taken = refl; at_the_end = refl } }) h (words-stay (majority rule) e)
