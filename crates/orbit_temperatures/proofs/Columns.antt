-- The record of a column, from its values one by one. Assumes nothing.
use Rattle.std.proofs.Common.{◌≡◌, sym, ◌∙◌, Bool, true, false, List, ℕ, Float, Ok, Err}
use Rattle.base.specs.declared.refusal.Refusal.TheVariants.{UpperBitsSet}
use Rattle.fixed_point.specs.Promise.{ScaledPromise}
use Rattle.orbit_temperatures.specs.Record.{twelve_at, temperature_count, upper_clear}
use Rattle.orbit_temperatures.specs.Promise.{TemperaturesIn}

module _ (c : List ℕ) where
  abbrev Celsius : ℕ → Float → Type 0
  Celsius place v = ScaledPromise 11 (temperature_count (twelve_at c place)) v

  pub temperatures_clear : (b : Bool) (t1 t2 t3 t4 : Float) → b ≡ upper_clear c → b ≡ true → Celsius 108 t1 → Celsius 110 t2 → Celsius 112 t3
      → Celsius 114 t4
      → TemperaturesIn c (Ok (record { temp1 = t1; temp2 = t2; temp3 = t3; temp4 = t4 }))
  temperatures_clear b t1 t2 t3 t4 e f p1 p2 p3 p4 = record {
    answer = rw (sym e ∙ f, p1.answer, p2.answer, p3.answer, p4.answer);
    exact = record { temp1 = p1.exact; temp2 = p2.exact; temp3 = p3.exact; temp4 = p4.exact };
  }

  pub temperatures_unclear : (b : Bool) → b ≡ upper_clear c → b ≡ false → TemperaturesIn c (Err UpperBitsSet)
  temperatures_unclear b e f = record { answer = rw (sym e ∙ f); exact = tt }
