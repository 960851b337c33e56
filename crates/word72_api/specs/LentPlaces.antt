-- What the codecs' entries leave in the lent places, and what they promise. Definitions only.
use Rattle.std.specs.Prelude.{◌≡◌, List, [], ◌∷◌, ℕ, Float, Result, Ok, Err}
use Rattle.base.specs.declared.refusal.Refusal.{Refusal}
use Rattle.base.specs.Refusals.{given_or}
use Rattle.time_code.specs.declared.TimeCode.{TimeCode}
use Rattle.time_code.specs.Codec.{decode_refusal as timeRefusal, decoded as timeDecoded}
use Rattle.float1750.specs.Codec.{decode_refusal as numberRefusal, decoded as numberDecoded}

abbrev pub time_code : ℕ → ℕ → TimeCode
time_code s i = record { spacecraft = s; instant = i }

-- the spacecraft and the instant, or what was there
abbrev pub time_or : Result TimeCode Refusal → List ℕ → List ℕ
time_or (Ok t) old = t.spacecraft ∷ t.instant ∷ []
time_or (Err r) old = old

-- `pcd_decode_time` of these bytes of the year returns r; its lent place is old before and new after it
pub record TimeCrossed (year : ℕ) (bytes : List ℕ) (r : ℕ) (old new : List ℕ) : Type 0 where
  pub refusal_is : r ≡ timeRefusal year bytes
  pub time_is : new ≡ time_or (timeDecoded year bytes) old

-- `pcd_decode_number` likewise
pub record NumberCrossed (bytes : List ℕ) (r : ℕ) (old new : Float) : Type 0 where
  pub refusal_is : r ≡ numberRefusal bytes
  pub number_is : new ≡ given_or old (numberDecoded bytes)
