-- The record of a column, from its values one by one. Assumes nothing.
use mathlib.Core.List.{List}
use Prim.Native.Nat.{ℕ, ◌+◌}
use lib.Ieee.{Float}
use Rattle.cycle_columns.specs.Values.{word}
use Rattle.fixed_point.specs.Promise.{ScaledPromise}
use Rattle.orbit_ephemeris.specs.Promise.{EphemerisIn}

module _ (c : List ℕ) where
  pub ephemeris_is : (i p : ℕ) (x y z vx vy vz : Float) → ScaledPromise 8 (word c p) x → ScaledPromise 8 (word c (p + 4)) y
      → ScaledPromise 8 (word c (p + 8)) z → ScaledPromise 28 (word c (p + 12)) vx → ScaledPromise 28 (word c (p + 16)) vy
      → ScaledPromise 28 (word c (p + 20)) vz
      → EphemerisIn i c p (record { instant = i; x = x; y = y; z = z; vx = vx; vy = vy; vz = vz })
  ephemeris_is i p x y z vx vy vz px py pz qx qy qz = record {
    answer = rw (px.answer, py.answer, pz.answer, qx.answer, qy.answer, qz.answer);
    exact = record { x = px.exact; y = py.exact; z = pz.exact; vx = qx.exact; vy = qy.exact; vz = qz.exact };
  }
