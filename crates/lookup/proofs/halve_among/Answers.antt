use native.Mathlib.Omega.{arith}
use Rattle.std.proofs.Common.{refl, ap}
use Rattle.lookup.proofs.Halving.{turn_past, turn_before, ended}
use Rattle.lookup.proofs.Promises.{place_is}
use Rattle.lookup.proofs.halve_among.Goals as goal
use Rattle.lookup.proofs.halve_among.Goals.{then-instant-wanted, else-instant-wanted}

pub loop-low-preserved : goal.loop-low-preserved
loop-low-preserved g c =
    let xs = g.I.Instants.items c.args.instants.now in
    let turn = c.loop-low.invariant in
    let read = c.instant.ensures in
    elim c.if-instant-wanted.branch [
      | then-instant-wanted w ↦ turn_past xs c.args.wanted turn (omega arith) refl refl (omega arith) (omega arith) (omega arith)
      | else-instant-wanted w ↦ turn_before xs c.args.wanted turn (omega arith) refl refl (omega arith) (omega arith) (omega arith)
    ]

pub returns : goal.returns
returns g c =
    record {
      low = c.loop-low.low;
      looks = c.loop-low.looks;
      rule = ended _ _ c.loop-low.invariant (omega arith);
      found_is = ap (λ p. record { place = p; looks = c.loop-low.looks }) (place_is _ c.loop-low.looks _ c.checked_sub-place.ensures);
    }
