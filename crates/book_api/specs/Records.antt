-- The records of a cycle as they cross: the number of the refusal, and what it gives in lent places, where a refusal leaves what stood there.
-- Definitions only.
use Rattle.std.specs.Prelude.{◌≡◌, List, [], ◌∷◌, ℕ, Float, ℤ, Result, Ok, Err}
use Rattle.base.specs.declared.refusal.Refusal.{Refusal}
use Rattle.base.specs.Refusals.{number_of}
use Rattle.orbit_temperatures.specs.declared.Temperatures.{Temperatures}
use Rattle.orbit_gyro_drift.specs.declared.GyroDrift.{GyroDrift}
use Rattle.orbit_attitude.specs.declared.Attitude.{Attitude}
use Rattle.orbit_clock.specs.declared.Clock.{Clock}
use Rattle.orbit_ephemeris.specs.declared.Ephemeris.{Ephemeris}

-- what a lent place holds after an answer: these values of what is given, or what stood there
abbrev pub held : {A R : Type 0} → (R → A) → A → Result R Refusal → A
held values old (Ok r) = values r
held values old (Err e) = old

-- the values of each record, in its order
abbrev pub degrees : Temperatures → List Float
degrees t = t.temp1 ∷ t.temp2 ∷ t.temp3 ∷ t.temp4 ∷ []

abbrev pub drifts : GyroDrift → List Float
drifts g = g.x ∷ g.y ∷ g.z ∷ []

abbrev pub parameters : Attitude → List ℤ
parameters a = a.epa1 ∷ a.epa2 ∷ a.epa3 ∷ a.epa4 ∷ []

abbrev pub terms : Clock → List ℕ
terms c = c.bias ∷ c.rate ∷ c.acceleration ∷ []

abbrev pub components : Ephemeris → List Float
components e = e.x ∷ e.y ∷ e.z ∷ e.vx ∷ e.vy ∷ e.vz ∷ []

-- r is answered, and the places hold new where they held old
pub record TemperaturesCrossed (t : Result Temperatures Refusal) (r : ℕ) (old new : List Float) : Type 0 where
  pub refusal_is : r ≡ number_of t
  pub values-are : new ≡ held degrees old t

pub record DriftCrossed (g : Result GyroDrift Refusal) (r i j : ℕ) (old new : List Float) : Type 0 where
  pub refusal_is : r ≡ number_of g
  pub instant-is : j ≡ held (λ (given : GyroDrift). given.instant) i g
  pub values-are : new ≡ held drifts old g

pub record AttitudeCrossed (a : Result Attitude Refusal) (r i j : ℕ) (old new : List ℤ) : Type 0 where
  pub refusal_is : r ≡ number_of a
  pub instant-is : j ≡ held (λ (given : Attitude). given.instant) i a
  pub values-are : new ≡ held parameters old a

pub record ClockCrossed (c : Result Clock Refusal) (r : ℕ) (x y : Float) (old new : List ℕ) : Type 0 where
  pub refusal_is : r ≡ number_of c
  pub update_is : y ≡ held (λ (given : Clock). given.updated) x c
  pub values-are : new ≡ held terms old c

pub record EphemerisCrossed (e : Result Ephemeris Refusal) (r i j : ℕ) (old new : List Float) : Type 0 where
  pub refusal_is : r ≡ number_of e
  pub instant-is : j ≡ held (λ (given : Ephemeris). given.instant) i e
  pub values-are : new ≡ held components old e
