-- Two lists of calls side by side: what each call of a list is handed, and that the same cuts give the same duties. Assumes nothing.
use mathlib.Core.Path.{◌≡◌, refl, sym, ap, ◌∙◌}
use mathlib.Core.List.{List, [], ◌∷◌, ◌++◌, map, append_assoc, map-append}
use Prim.Native.Nat.{ℕ, suc}
use native.Mathlib.Omega.{arith}
use lib.Dec.{eqb-suc-zero}
use lib.ListN.{length}
use lib.Seq.{length-take-le}
use Rattle.labelling.specs.declared.Tally.{Tally}
use Rattle.labelling.specs.Calls.{TakeCall, take_refusal, answer, taken, DutyCall, duty_refusal, duty_answer, Call, takes, changes, refusal_of}
use Rattle.labelling.specs.Calls.{duty_after, last_duty, taken_by, joined, stamped, Handed, refused, accepted, changed}
use Rattle.labelling.specs.SideBySide.{ends, refused_here, refused_there, both_take, both_change, SameCuts, SameDuties}
use Rattle.labelling.proofs.CallLaws.{refused-taken, accepted-extent}

-- ---- a refused call

pub refused-takes : (c : Call) (n : ℕ) → refusal_of c ≡ suc n → taken_by c ≡ []
refused-takes (takes c) n e = refused-taken c n e
refused-takes (changes d) n e = refl

pub refused-stays : (k : ℕ) (c : Call) (n : ℕ) → refusal_of c ≡ suc n → duty_after k c ≡ k
refused-stays k (takes c) n e = refl
refused-stays k (changes d) n e = rw (e, eqb-suc-zero n)

-- a refused call is not in the joined bytes
pub joined-refused : (c : Call) (cs : List Call) (n : ℕ) → refusal_of c ≡ suc n → joined (c ∷ cs) ≡ joined cs
unfolding joined
joined-refused c cs n e = rw (refused-takes c n e)

-- ---- an accepted call

pub taken-length : (c : TakeCall) → take_refusal c ≡ 0 → length (taken c) ≡ (answer c).taken
unfolding taken
taken-length c e = length-take-le (answer c).taken c.piece (accepted-extent c e).within

-- what a list that begins with a call has done
pub handed-refused : {t t' : Tally} {a a' : List ℕ} {cs : List Call} (c : Call) (n : ℕ) → refusal_of c ≡ suc n → Handed t a (c ∷ cs) t' a' → Handed t a cs t' a'
handed-refused c n q (refused _ m e h) = h
handed-refused (takes c) n q (accepted _ e h) = absurd (omega arith)
handed-refused (changes d) n q (changed _ e h) = absurd (omega arith)

pub record Took (c : TakeCall) (cs : List Call) (t : Tally) (a : List ℕ) (t' : Tally) (a' : List ℕ) : Type 0 where
  pub tally_is : t ≡ c.tally
  pub area_is : a ≡ c.area
  pub rest : Handed (answer c).tally (answer c).area cs t' a'

pub took : {t t' : Tally} {a a' : List ℕ} {cs : List Call} (c : TakeCall) → take_refusal c ≡ 0 → Handed t a (takes c ∷ cs) t' a' → Took c cs t a t' a'
took c e (refused _ n q h) = absurd (omega arith)
took c e (accepted _ f h) = record { tally_is = refl; area_is = refl; rest = h }

pub record DutyChanged (d : DutyCall) (cs : List Call) (t : Tally) (a : List ℕ) (t' : Tally) (a' : List ℕ) : Type 0 where
  pub tally_is : t ≡ d.tally
  pub rest : Handed (duty_answer d) a cs t' a'

pub duty_changed : {t t' : Tally} {a a' : List ℕ} {cs : List Call} (d : DutyCall) → duty_refusal d ≡ 0 → Handed t a (changes d ∷ cs) t' a'
    → DutyChanged d cs t a t' a'
duty_changed d e (refused _ n q h) = absurd (omega arith)
duty_changed d e (changed _ f h) = record { tally_is = refl; rest = h }

-- ---- the same cuts

abbrev duties_of : List (ℕ × ℕ) → List ℕ
duties_of xs = map (λ x. x.1) xs

-- the duty k at each of as many bytes
as_many : (k : ℕ) (l m : List ℕ) → length m ≡ length l → duties_of (map (λ b. (b, k)) m) ≡ duties_of (map (λ b. (b, k)) l)
as_many k [] [] e = refl
as_many k [] (y ∷ m) e = absurd (omega arith)
as_many k (x ∷ l) [] e = absurd (omega arith)
as_many k (x ∷ l) (y ∷ m) e = ap (λ (r : List ℕ). k ∷ r) (as_many k l m (omega arith))

duties_from : (k : ℕ) {cs ds : List Call} → SameCuts cs ds → (duties_of (stamped k ds) ≡ duties_of (stamped k cs)) × (last_duty k ds ≡ last_duty k cs)
duties_from k ends = (refl, refl)
duties_from k (refused_here c n e s) = rw (refused-takes c n e, refused-stays k c n e) (duties_from k s)
duties_from k (refused_there d n e s) = rw (refused-takes d n e, refused-stays k d n e) (duties_from k s)
duties_from k (both_take c d e f same s) =
    let rest = duties_from k s in
    let here = as_many k (taken c) (taken d) (taken-length d f ∙ same ∙ sym (taken-length c e)) in
    (simp map-append (rw (here, rest.0)), rest.1)
duties_from k (both_change c d e f same s) = rw (e, f, same) (duties_from c.operator s)

pub cuts-duties : (cs ds : List Call) → SameCuts cs ds → SameDuties cs ds
cuts-duties cs ds s = let r = duties_from 0 s in record { as_taken = r.0; at_the_end = r.1 }

-- ---- one list after another

stamped-append : (k : ℕ) (cs ds : List Call) → stamped k (cs ++ ds) ≡ stamped k cs ++ stamped (last_duty k cs) ds
stamped-append k [] ds = refl
stamped-append k (c ∷ cs) ds = rw (stamped-append (duty_after k c) cs ds) (sym (append_assoc (map (λ b. (b, k)) (taken_by c)) _ _))

last_append : (k : ℕ) (cs ds : List Call) → last_duty k (cs ++ ds) ≡ last_duty (last_duty k cs) ds
last_append k [] ds = refl
last_append k (c ∷ cs) ds = last_append (duty_after k c) cs ds

pub duties_append : {cs ds cs' ds' : List Call} → SameDuties cs ds → SameCuts cs' ds' → SameDuties (cs ++ cs') (ds ++ ds')
duties_append {cs} {ds} {cs'} {ds'} d s =
    let rest = duties_from (last_duty 0 cs) s in
    record {
      as_taken = rw (stamped-append 0 cs cs', stamped-append 0 ds ds', d.at_the_end) (simp map-append (rw (d.as_taken, rest.0)));
      at_the_end = rw (last_append 0 cs cs', last_append 0 ds ds', d.at_the_end) rest.1;
    }
