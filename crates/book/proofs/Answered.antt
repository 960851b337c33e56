-- Lines of refusals, by the answer that they give: `Ok` where none holds, and else the first that holds. Assumes nothing.
use Rattle.std.proofs.Common.{◌≡◌, refl, Bool, true, false, cond, List, [], ◌∷◌, ◌++◌, Result, Ok, Err, IsOk}
use Rattle.base.specs.declared.refusal.Refusal.{Refusal}
use Rattle.base.specs.Refusals.{number, number_of, Line, answered, refusal}
use Rattle.base.proofs.Lines.{NoneHolds, positive, answered-given, ok-none}

-- an answer that is refused is refused alike whatever would be given, and whatever is made of a refusal
pub stops : {A B : Type 0} (ls : List Line) (given : A) (k : Refusal) → answered Err ls (Ok given) ≡ Err k → (refused : Refusal → B) (other : B)
    → answered refused ls other ≡ refused k
stops [] given k = λ e. cc
stops (l ∷ ls) given k = go l.holds (stops ls given k)
  where
    go : {B : Type 0} (b : Bool) → (answered Err ls (Ok given) ≡ Err k → (refused : Refusal → B) (other : B) → answered refused ls other ≡ refused k)
        → cond b (Err l.reason) (answered Err ls (Ok given)) ≡ Err k → (refused : Refusal → B) (other : B)
        → cond b (refused l.reason) (answered refused ls other) ≡ refused k
    go true later e refused other = cc
    go false later e refused other = later e refused other

pub passes : {A B : Type 0} (ls : List Line) (given a : A) → answered Err ls (Ok given) ≡ Ok a → (refused : Refusal → B) (other : B)
    → answered refused ls other ≡ other
passes ls given a e refused other = answered-given refused ls other (ok-none ls given a e).0

-- ---- no line holds, by the number and of lines that are looked at after others
pub none-of : (ls : List Line) → refusal ls ≡ 0 → NoneHolds ls
none-of [] z = tt
none-of (l ∷ ls) z = go l.holds refl z (none-of ls)
  where
    go : (b : Bool) → l.holds ≡ b → cond b (number l.reason) (refusal ls) ≡ 0 → (refusal ls ≡ 0 → NoneHolds ls) → (l.holds ≡ false) × NoneHolds ls
    go true e f later = absurd (positive l.reason f)
    go false e f later = (e, later f)

pub of_none : (ls : List Line) → NoneHolds ls → refusal ls ≡ 0
of_none [] n = refl
of_none (l ∷ ls) n = rw n.0 (of_none ls n.1)

pub none-both : (ls ms : List Line) → NoneHolds ls → NoneHolds ms → NoneHolds (ls ++ ms)
none-both [] ms n m = m
none-both (l ∷ ls) ms n m = (n.0, none-both ls ms n.1 m)

pub none-each : (ls ms : List Line) → NoneHolds (ls ++ ms) → NoneHolds ls × NoneHolds ms
none-each [] ms n = (tt, n)
none-each (l ∷ ls) ms n = let r = none-each ls ms n.1 in ((n.0, r.0), r.1)

-- an answer with no refusal's number is `Ok`
pub ok-of_none : {A : Type 0} (r : Result A Refusal) → number_of r ≡ 0 → IsOk r
ok-of_none (Ok a) z = refl
ok-of_none (Err k) z = absurd (positive k z)
