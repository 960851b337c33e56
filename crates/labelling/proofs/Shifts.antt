-- Major frames by whose duty they are complete on. Of the bytes that a call takes, only the last can complete one, and they are all taken on
-- one duty; so what is booked over a list of calls is what their bytes complete. Assumes nothing.
use mathlib.Core.Path.{◌≡◌, refl, sym, ap, ◌∙◌}
use mathlib.Core.Bool.{Bool, true, false, ◌&&◌}
use mathlib.Core.List.{List, [], ◌∷◌, ◌++◌, map, append_assoc, append-nil, map-append}
use Prim.Native.Nat.{ℕ, suc, ◌+◌, ◌≤◌, ◌<◌}
use native.Mathlib.Omega.{arith}
use lib.Dec.{eqb, eqb-suc-zero}
use lib.ListN.{length, take, length-append, length-take}
use lib.Seq.{take-take}
use borrow.Author.Tests.{lt-ltb, le-ltb}
use Rattle.base.specs.Lists.{one}
use Rattle.labelling.specs.declared.Operators.{Operators}
use Rattle.labelling.specs.declared.Tally.{Tally}
use Rattle.labelling.specs.declared.Word.{Word}
use Rattle.labelling.specs.Words.{Vote}
use Rattle.labelling.specs.Operators.{paid_to, booked, on_duty}
use Rattle.labelling.specs.Calls.{TakeCall, answer, taken, duty_answer, Call, takes, changes, duty_after, last_duty}
use Rattle.labelling.specs.Calls.{taken_by, joined, stamped, Handed, done, refused, accepted, changed}
use Rattle.labelling.specs.Once.{majors_in, Pays, PaysAt, Each, completes_at, frames_on}
use Rattle.labelling.proofs.Booking.{booked-length, booked-to}
use Rattle.labelling.proofs.CallLaws.{refused-taken, accepted-operators, duty_passed, duty_accepted}

-- ---- stamped bytes

abbrev bytes_of : List (ℕ × ℕ) → List ℕ
bytes_of xs = map (λ x. x.0) xs

abbrev stamped_with : ℕ → List ℕ → List (ℕ × ℕ)
stamped_with k l = map (λ b. (b, k)) l

unstamped : (k : ℕ) (l : List ℕ) → bytes_of (stamped_with k l) ≡ l
unstamped k [] = refl
unstamped k (b ∷ l) = ap (λ (r : List ℕ). b ∷ r) (unstamped k l)

-- the joined bytes are the stamped ones, whoever is on duty first
pub joined-stamped : (k : ℕ) (cs : List Call) → joined cs ≡ bytes_of (stamped k cs)
unfolding joined
joined-stamped k [] = refl
joined-stamped k (c ∷ cs) = rw (map-append, unstamped k (taken_by c), joined-stamped (duty_after k c) cs)

pays-length : (c : Bool) (new : List (List (List Word))) (a : List ℕ) → Pays c new a → length new ≡ one c
pays-length true new a h = rw h.1 refl
pays-length false new a h = rw h refl

-- ---- the last bytes of major frames

module _ (vote : Vote) where
  abbrev found : List ℕ → ℕ
  found js = length (majors_in vote js)

  completes_is : (js : List ℕ) (b : ℕ) (c : Bool) → found (js ++ b ∷ []) ≡ found js + one c → completes_at vote js b ≡ c
  unfolding completes_at
  completes_is js b true e = lt-ltb (found js) (found (js ++ b ∷ [])) (omega arith)
  completes_is js b false e = le-ltb (found js) (found (js ++ b ∷ [])) (omega arith)

  frames-append : (k : ℕ) (js : List ℕ) (xs ys : List (ℕ × ℕ))
      → frames_on vote k js (xs ++ ys) ≡ frames_on vote k js xs + frames_on vote k (js ++ bytes_of xs) ys
  frames-append k js [] ys = rw (append-nil js) (omega arith)
  frames-append k js (x ∷ xs) ys =
      omega (arith, rw (append_assoc js (x.0 ∷ []) (bytes_of xs)) at (frames-append k (js ++ x.0 ∷ []) xs ys))

  -- the bytes l, taken on the duty of d: none before the last of them completes a major frame
  last_frame : (k d : ℕ) (js l : List ℕ) (c : Bool) → ((i : ℕ) → i < length l → found (js ++ take i l) ≡ found js) → found (js ++ l) ≡ found js + one c
      → frames_on vote k js (stamped_with d l) ≡ one (c && eqb d k)
  last_frame k d js [] true h e = absurd (omega (arith, rw (append-nil js) at e))
  last_frame k d js [] false h e = refl
  last_frame k d js (b ∷ []) c h e = rw (completes_is js b c e) (omega arith)
  last_frame k d js (b ∷ b' ∷ l) c h e =
      let none-new : found (js ++ b ∷ []) ≡ found js = h 1 (omega arith) in
      let rest =
      last_frame k d (js ++ b ∷ []) (b' ∷ l) c
      (λ i g. rw (append_assoc js (b ∷ []) (take i (b' ∷ l))) (h (suc i) (omega arith) ∙ sym none-new))
      (rw (append_assoc js (b ∷ []) (b' ∷ l)) (omega (arith, e, none-new))) in
      rw (completes_is js b false (omega arith)) (omega (arith, rest))

  -- ---- a call that takes bytes, on the duty of d

  module _ (js : List ℕ) (c : TakeCall) (p : PaysAt vote js c) where
    -- no byte but the last that it takes completes a major frame
    none_before : (i : ℕ) → i < length (taken c) → found (js ++ take i (taken c)) ≡ found js
    unfolding taken
    none_before i h =
        let few : i < (answer c).taken = omega (arith, length-take (answer c).taken c.piece) in
        rw (take-take i (answer c).taken c.piece (omega arith)) (ap length (p.before i few))

    found-more : found (js ++ taken c) ≡ found js + one (answer c).complete
    found-more =
        ap length p.after
        ∙ rw (length-append (majors_in vote js) p.new, pays-length (answer c).complete p.new (answer c).area p.holds)

    frames-taken : (k d : ℕ) (ys : List (ℕ × ℕ))
        → frames_on vote k js (stamped_with d (taken c) ++ ys) ≡ one ((answer c).complete && eqb d k) + frames_on vote k (js ++ taken c) ys
    frames-taken k d ys =
        rw (
          frames-append k js (stamped_with d (taken c)) ys,
          unstamped d (taken c),
          last_frame k d js (taken c) (answer c).complete none_before found-more,
        )

  -- ---- a list of calls

  -- whoever is on duty is one of the eight
  pub record Staffed (o : Operators) : Type 0 where
    pub eight : length o.paid ≡ 8
    pub few_duty : o.duty ≤ 7

  -- after the bytes js the calls cs lead from the operators o to p
  pub record Booked (js : List ℕ) (cs : List Call) (o p : Operators) : Type 0 where
    pub paid-are : (k : ℕ) → paid_to k p ≡ paid_to k o + frames_on vote k js (stamped o.duty cs)
    pub duty_is : p.duty ≡ last_duty o.duty cs
    pub eight : length p.paid ≡ 8

  booked-call : {cs : List Call} {p : Operators} (js : List ℕ) (c : TakeCall) (o : Operators) → Staffed o → PaysAt vote js c
      → Booked (js ++ taken c) cs (booked (answer c).complete o) p → Booked js (takes c ∷ cs) o p
  booked-call {cs} js c o s q r = record {
    paid-are = λ k.
        let one_more = booked-to (answer c).complete o k (omega (arith, s.eight, s.few_duty)) in
        omega (arith, r.paid-are k, one_more, frames-taken js c q k o.duty (stamped o.duty cs));
    duty_is = r.duty_is;
    eight = r.eight;
  }

  pub booked-over : {t t' : Tally} {a a' : List ℕ} {cs : List Call} (js : List ℕ) → Handed t a cs t' a' → Each vote js cs → Staffed t.operators
      → Booked js cs t.operators t'.operators
  booked-over js done p s = record { paid-are = λ k. omega arith; duty_is = refl; eight = s.eight }
  booked-over js (refused (takes c) n e h) p s =
      let r = booked-over (js ++ taken c) h p.1 s in
      record {
        paid-are = λ k. rw (refused-taken c n e) (rw (refused-taken c n e, append-nil js) at (r.paid-are k));
        duty_is = r.duty_is;
        eight = r.eight;
      }
  booked-over js (refused (changes d) n e h) p s =
      let r = booked-over js h p s in
      record { paid-are = λ k. rw (e, eqb-suc-zero n) (r.paid-are k); duty_is = rw (e, eqb-suc-zero n) r.duty_is; eight = r.eight }
  booked-over js (accepted c e h) p s =
      let o = c.tally.operators in
      let q = accepted-operators c e in
      booked-call js c o s p.0
      (rw q at (booked-over (js ++ taken c) h p.1 (rw q record { eight = booked-length (answer c).complete o ∙ s.eight; few_duty = s.few_duty })))
  booked-over js (changed d e h) p s =
      let q : (duty_answer d).operators ≡ on_duty d.operator d.tally.operators = ap (λ (t : Tally). t.operators) (duty_accepted d e) in
      let r = rw q at (booked-over js h p (rw q record { eight = s.eight; few_duty = (duty_passed d e).is_operator })) in
      record { paid-are = λ k. rw e (r.paid-are k); duty_is = rw e r.duty_is; eight = r.eight }
