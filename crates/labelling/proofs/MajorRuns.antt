-- The major frames at any place of the list are those of the cut into runs: none begins further on in a run, and one begins with a run where
-- that is 128 frames long. Assumes nothing.
use mathlib.Core.Path.{◌≡◌, refl, sym, ap, ◌∙◌}
use mathlib.Core.Bool.{Bool, true, false, cond}
use mathlib.Core.List.{List, [], ◌∷◌, ◌++◌}
use Prim.Native.Nat.{ℕ, zero, suc}
use native.Mathlib.Omega.{arith}
use lib.Dec.{eqb}
use lib.ListN.{length, take, drop}
use borrow.Author.Tests.{eqb-true}
use Rattle.base.specs.Lists.{concat_map}
use Rattle.labelling.specs.declared.Word.{Word}
use Rattle.labelling.specs.MajorFrames.{numbered, run_length, majors, major, broken, building, run_of, run_piece, first_run, runs, major_of}
use Rattle.labelling.proofs.Cutting.{cuts_by, cuts_first, by_cuts}
use Rattle.labelling.proofs.RunCuts.{takes_some, alone-gives, stops, goes_on, begins-none}

-- further on in a run no major frame begins
majors-skip : (n : ℕ) (fs : List (List Word)) → majors fs ≡ majors (drop (run_length (suc n) fs) fs)
majors-skip n [] = refl
majors-skip n (f ∷ fs) = go (numbered (suc n) f) refl (majors-skip (suc n) fs)
  where
    go : (next : Bool) → numbered (suc n) f ≡ next → majors fs ≡ majors (drop (run_length (suc (suc n)) fs) fs)
        → majors (f ∷ fs) ≡ majors (drop (run_length (suc n) (f ∷ fs)) (f ∷ fs))
    go true e h = rw (goes_on (suc n) f fs e, stops 0 f fs (begins-none n f e)) h
    go false e h = rw (stops (suc n) f fs e)

-- the major frame that is a run of n frames
major_of-run : (n : ℕ) (fs : List (List Word)) → major_of (run_of n fs) ≡ cond (eqb n 128) (take 128 fs ∷ []) []
unfolding run_of
major_of-run n fs = go (eqb n 128) (eqb n (length fs)) refl
  where
    go : (full all : Bool) → eqb n 128 ≡ full
        → major_of (cond full (major (take n fs)) (cond all (building fs) (broken (take n fs)))) ≡ cond full (take 128 fs ∷ []) []
    go true all e = rw (eqb-true n 128 e)
    go false true e = refl
    go false false e = refl

-- what the first piece has of the major frames
majors-head : (m : ℕ) (f : List Word) (fs : List (List Word)) → run_length 0 (f ∷ fs) ≡ m
    → majors (f ∷ fs) ≡ major_of (run_piece m f fs).piece ++ majors (run_piece m f fs).rest
majors-head zero f fs e = rw (e, alone-gives major_of [] f refl refl)
majors-head (suc k) f fs e = rw (e, major_of-run (suc k) (f ∷ fs)) (ap (λ l. cond (eqb (suc k) 128) (take 128 (f ∷ fs) ∷ []) [] ++ l) skip)
  where
    first : (b : Bool) → numbered 0 f ≡ b → run_length 1 fs ≡ k
    first true q = omega (arith, goes_on 0 f fs q)
    first false q = absurd (omega (arith, stops 0 f fs q))

    skip : majors fs ≡ majors (drop k fs)
    skip = rw (first (numbered 0 f) refl) at (majors-skip 0 fs)

pub majors-same : (fs : List (List Word)) → majors fs ≡ concat_map major_of (runs fs)
unfolding runs
majors-same fs = by_cuts first_run takes_some (λ s fs. majors fs ≡ concat_map major_of (cuts_by first_run s fs)) (λ s. refl) more tt fs
  where
    more : (s : Unit {0}) (f : List Word) (fs : List (List Word))
        → majors (first_run s f fs).rest ≡ concat_map major_of (cuts_by first_run (first_run s f fs).state (first_run s f fs).rest)
        → majors (f ∷ fs) ≡ concat_map major_of (cuts_by first_run s (f ∷ fs))
    more s f fs h =
        majors-head (run_length 0 (f ∷ fs)) f fs refl
        ∙ ap (λ l. major_of (first_run s f fs).piece ++ l) h
        ∙ sym (ap (concat_map major_of) (cuts_first first_run takes_some s f fs))
