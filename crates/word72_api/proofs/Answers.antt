-- What the time codec promises of an answer, said of what crosses. Assumes nothing.
use Rattle.std.proofs.Common.{ap, List, ℕ, Result}
use Rattle.base.specs.declared.refusal.Refusal.{Refusal}
use Rattle.base.specs.Refusals.{number_of}
use Rattle.time_code.specs.declared.TimeCode.{TimeCode}
use Rattle.time_code.specs.Promise.{DecodePromise as TimePromise}
use Rattle.word72_api.specs.LentPlaces.{time_or, TimeCrossed}

pub time_crossed : (year : ℕ) (bytes : List ℕ) (d : Result TimeCode Refusal) (old : List ℕ) → TimePromise year bytes d
    → TimeCrossed year bytes (number_of d) old (time_or d old)
time_crossed year bytes d old p =
    record { refusal_is = p.refusal_is; time_is = ap (λ (x : Result TimeCode Refusal). time_or x old) p.answer }
