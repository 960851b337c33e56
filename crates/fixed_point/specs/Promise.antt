-- What `scaled` promises: its answer, that it is exact, and that no other double is. Definitions only.
use Rattle.std.specs.Prelude.{◌≡◌, ℕ, T, Float}
use Rattle.std.specs.Float.{binary64}
use Rattle.std.specs.Float.Ieee.{fits}
use Rattle.fixed_point.specs.Counts.{scaled, Exact}

-- the count n divided by 2^k is v
pub record ScaledPromise (k n : ℕ) (v : Float) : Type 0 where
  pub answer : v ≡ scaled k n
  pub exact : Exact k n v
  pub only : (u : Float) → T (fits binary64 u) → Exact k n u → u ≡ v
