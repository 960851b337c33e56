use native.Mathlib.Omega.{arith}
use Rattle.std.proofs.Common.{refl, ap}
use Rattle.lookup.proofs.Halving.{turn_past, turn_before, ended}
use Rattle.lookup.proofs.Promises.{place_is}
use Rattle.lookup.proofs.halve.Goals as goal
use Rattle.lookup.proofs.halve.Goals.{then-instants-half, else-instants-half}

pub loop-low-preserved : goal.loop-low-preserved
loop-low-preserved c =
    let xs = c.args.instants.now in
    let turn = c.loop-low.invariant in
    elim c.if-instants-half.branch [
      | then-instants-half w ↦ turn_past xs c.args.wanted turn (omega arith) refl refl (omega arith) (omega arith) (omega arith)
      | else-instants-half w ↦ turn_before xs c.args.wanted turn (omega arith) refl refl (omega arith) (omega arith) (omega arith)
    ]

pub returns : goal.returns
returns c =
    record {
      low = c.loop-low.low;
      looks = c.loop-low.looks;
      rule = ended _ _ c.loop-low.invariant (omega arith);
      found_is = ap (λ p. record { place = p; looks = c.loop-low.looks }) (place_is _ c.loop-low.looks _ (grind arith));
    }
