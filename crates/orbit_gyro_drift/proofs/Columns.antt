-- The record of a column, from its values one by one. Assumes nothing.
use mathlib.Core.List.{List}
use Prim.Native.Nat.{ℕ}
use lib.Ieee.{Float}
use Rattle.cycle_columns.specs.Values.{word}
use Rattle.fixed_point.specs.Promise.{ScaledPromise}
use Rattle.orbit_gyro_drift.specs.Promise.{DriftIn}

module _ (c : List ℕ) where
  pub drift_is : (i : ℕ) (x y z : Float) → ScaledPromise 47 (word c 16) x → ScaledPromise 47 (word c 20) y → ScaledPromise 47 (word c 24) z
      → DriftIn i c (record { instant = i; x = x; y = y; z = z })
  drift_is i x y z p q r = record { answer = rw (p.answer, q.answer, r.answer); exact = record { x = p.exact; y = q.exact; z = r.exact } }
