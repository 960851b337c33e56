-- `in_place::lead_and_take` meets its contract: it is the call as far as a lock, after the lead-in, where that has room. Assumes nothing.
use mathlib.Core.Path.{◌≡◌, refl}
use mathlib.Core.Bool.{true}
use Rattle.in_place.proofs.lead_and_take.Goals as goal
use Rattle.in_place.proofs.lead_and_take.Goals.{Else-not-lead_fits}

pub returns-then-not-lead_fits : goal.returns-then-not-lead_fits
returns-then-not-lead_fits c =
    let never = c.lead_fits.ensures.1 c.if-not-lead_fits.true in
    record {
      fits = λ f. absurd (never f);
      misses = λ h. (refl, record { numbers_kept = refl; frame_kept = refl; area_kept = refl });
    }

-- where the test has passed
module _ (fit : Else-not-lead_fits) where
  leads : fit.lead_fits.result ≡ true
  leads = fit.if-not-lead_fits.false

pub call_to_lock-requires : goal.call_to_lock-requires
call_to_lock-requires c = λ z. c.lead_fits.ensures.0 (leads (goal.at.call_to_lock-requires c).Else-not-lead_fits)

pub returns : goal.returns
returns c =
    record {
      fits = λ f. c.call_to_lock.ensures;
      misses = λ h. absurd (h (c.lead_fits.ensures.0 (leads (goal.at.returns c).Else-not-lead_fits)));
    }
