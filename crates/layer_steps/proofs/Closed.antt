-- What a good frame numbered n does to a run of the length m and to the area, from the tests of the code. Assumes nothing.
use mathlib.Core.Path.{◌≡◌, refl, sym, ap, ◌∙◌, subst}
use mathlib.Core.Bool.{Bool, true, false, not, cond, ◌&&◌, true≢false}
use mathlib.Core.List.{List}
use Rattle.std.proofs.Common.{◌⊎◌, inl, inr}
use Prim.Native.Nat.{ℕ, ◌*◌, ◌≤◌, ◌<◌}
use native.Mathlib.Omega.{arith}
use lib.Dec.{eqb, ltb}
use lib.ListN.{get_or}
use lib.Seq.{paste}
use borrow.Author.Tests.{eqb-true, eq-eqb, ne_eqb, lt-ltb, le-ltb}
use Rattle.base.specs.Format.{minor_frame, number_place}
use Rattle.labelling.specs.declared.FrameClass.{FrameClass}
use Rattle.labelling.specs.declared.FrameClass.TheVariants.{Good, Damaged, Unsynced}
use Rattle.labelling.specs.declared.Runs.{Runs}
use Rattle.labelling.specs.Machine.{FrameEvent, extends, completes, starts, stands-alone, interrupts, good_event, after_frame, area_after, is_complete}
use Rattle.labelling.specs.MajorFrames.{put_bytes}
use Rattle.layer_steps.specs.declared.major.Ended.{Ended}
use Rattle.layer_steps.specs.Shapes.{Counted, EndPromise}

-- ---- the event, and its counts
module _ (n m : ℕ) where
  pub continued : n ≡ m → n < 127 → good_event n m ≡ extends
  continued e h = rw (eq-eqb n m e, lt-ltb m 127 (omega arith))

  pub completed : n ≡ m → 127 ≤ n → good_event n m ≡ completes
  completed e h = rw (eq-eqb n m e, le-ltb m 127 (omega arith))

  pub started : (n ≡ m → ⊥) → n ≡ 0 → good_event n m ≡ starts
  started e z = rw (ne_eqb n m e, eq-eqb n 0 z)

  pub alone : (n ≡ m → ⊥) → (n ≡ 0 → ⊥) → good_event n m ≡ stands-alone
  alone e z = rw (ne_eqb n m e, ne_eqb n 0 z)

pub counted-as : {v k : FrameEvent} {r : Runs} {e : Ended} → v ≡ k → e.runs ≡ after_frame k r → e.complete ≡ is_complete k → Counted v r e
counted-as event runs complete = rw event record { runs_is = runs; complete_is = complete }

-- ---- the area

-- the frame neither continues nor starts a run
abbrev pub apart : ℕ → ℕ → Bool
apart n m = not (eqb n m) && not (eqb n 0)

-- any other has a number of a run
pub numbered : (n m : ℕ) → apart n m ≡ false → m ≤ 127 → n ≤ 127
numbered n m e h = go (eqb n m) (eqb n 0) refl refl e
  where
    go : (x y : Bool) → eqb n m ≡ x → eqb n 0 ≡ y → (not x && not y) ≡ false → n ≤ 127
    go true y ex ey q = omega (arith, eqb-true n m ex)
    go false true ex ey q = omega (arith, eqb-true n 0 ey)
    go false false ex ey q = absurd (true≢false q)

abbrev stored : List ℕ → List ℕ → List ℕ
stored bytes old = put_bytes old (get_or bytes number_place 0) bytes

area_left : (n m : ℕ) (bytes old : List ℕ) → area_after (good_event n m) bytes old ≡ cond (apart n m) old (stored bytes old)
area_left n m bytes old = go (eqb n m) (ltb m 127) (eqb n 0)
  where
    go : (x l y : Bool) → area_after (cond x (cond l extends completes) (cond y starts stands-alone)) bytes old ≡ cond (not x && not y) old (stored bytes old)
    go true true y = refl
    go true false y = refl
    go false l true = refl
    go false l false = refl

module _ (r : Runs) (bytes old new : List ℕ) (n : ℕ) (number : n ≡ get_or bytes number_place 0) {e : Ended} (c : Counted (good_event n r.building) r e) where
  ended : (b : Bool) → apart n r.building ≡ b → new ≡ cond b old (stored bytes old) → EndPromise r Good bytes old new e
  ended b t h =
      let area : new ≡ area_after (good_event n r.building) bytes old = h ∙ sym (rw (← t) (area_left n r.building bytes old)) in
      subst (λ (k : ℕ). Counted (good_event k r.building) r e → new ≡ area_after (good_event k r.building) bytes old → EndPromise r Good bytes old new e)
      (sym number) (λ counted area_is. record { counted = counted; area_is = area_is }) c area

  pub end_apart : apart n r.building ≡ true → new ≡ old → EndPromise r Good bytes old new e
  end_apart t h = ended true t h

  pub end_stored : apart n r.building ≡ false → new ≡ paste old (minor_frame * n) bytes minor_frame → EndPromise r Good bytes old new e
  unfolding put_bytes
  end_stored t h = ended false t (h ∙ ap (λ (k : ℕ). paste old (minor_frame * k) bytes minor_frame) number)

-- ---- any other frame

-- it ends the run, and the area stays
pub ends_run : {r : Runs} {bytes area : List ℕ} {e : Ended} (k : FrameClass) → (k ≡ Damaged) ⊎ (k ≡ Unsynced) → Counted interrupts r e
    → EndPromise r k bytes area area e
ends_run k (inl h) c = rw h (record { counted = c; area_is = refl })
ends_run k (inr h) c = rw h (record { counted = c; area_is = refl })
