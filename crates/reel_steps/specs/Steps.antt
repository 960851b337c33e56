-- Steps over a reel as it comes, by their contract alone: each on a piece of any length, from the feeder and the area that the one before left; and that no
-- answer depends on the pieces. No operator is named between them. Definitions only.
use Rattle.std.specs.Prelude.{◌≡◌, Bool, cond, List, [], ◌∷◌, ◌++◌, ℕ, length, take, Result}
use Rattle.base.specs.declared.refusal.Refusal.{Refusal}
use Rattle.base.specs.Format.{major_frame}
use Rattle.relocking.specs.declared.Feeder.{Feeder}
use Rattle.relocking.specs.declared.Relocked.{Relocked}
use Rattle.relocking.specs.Relock.{RelockPromise, relocked_by, beginning}

-- `Steps f a bs ps f' a'`: from f and a the steps have taken the bytes bs of the reel and completed the major frames ps, in order; f' and a' are left. Steps
-- that are refused, that ask for more, and that are told that the reel ends are among them
pub data Steps : Feeder → List ℕ → List ℕ → List (List ℕ) → Feeder → List ℕ → Type 0 where
  no_step : {f : Feeder} {a : List ℕ} → Steps f a [] [] f a
  step : {f' : Feeder} {a' bs : List ℕ} {ps : List (List ℕ)} (f : Feeder) (piece : List ℕ) (ends : Bool) (old : List ℕ) (r : Result Relocked Refusal)
      (new : List ℕ)
      → RelockPromise f piece ends old r new → Steps (relocked_by f r).feeder new bs ps f' a'
      → Steps f old (take (relocked_by f r).taken piece ++ bs) (cond (relocked_by f r).complete (new ∷ []) [] ++ ps) f' a'

-- under a rule: two lists of steps, from the feeder that begins a reel, that have taken the same bytes
pub record AnySteps (rule : ℕ) : Type 0 where
  pub same_left : {a₀ bs a b : List ℕ} {ps qs : List (List ℕ)} {f g : Feeder} → length a₀ ≡ major_frame → Steps (beginning rule) a₀ bs ps f a
      → Steps (beginning rule) a₀ bs qs g b → (g ≡ f) × (b ≡ a) × (qs ≡ ps)
