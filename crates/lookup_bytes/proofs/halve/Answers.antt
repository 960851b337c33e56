use native.Mathlib.Omega.{arith}
use Rattle.std.proofs.Common.{refl, ap}
use Rattle.lookup.proofs.Halving.{start, turn_past, turn_before, ended}
use Rattle.lookup.proofs.Promises.{place_is}
use Rattle.lookup_bytes.specs.Promise.{instants_in}
use Rattle.lookup_bytes.proofs.Instants.{count_is}
use Rattle.lookup_bytes.proofs.halve.Goals as goal
use Rattle.lookup_bytes.proofs.halve.Goals.{then-instant_at-wanted, else-instant_at-wanted}

pub loop-low-init : goal.loop-low-init
loop-low-init c =
    let bytes = c.args.instants.now in
    rw (count_is bytes) (start (instants_in bytes) c.args.wanted)

pub overflow_add-half : goal.overflow_add-half
overflow_add-half c = omega (arith, count_is c.args.instants.now, c.loop-low.invariant.within, c.requires.1)

pub overflow_add-looks : goal.overflow_add-looks
overflow_add-looks c = omega (arith, count_is c.args.instants.now, c.loop-low.invariant.spent, c.requires.1)

pub loop-low-preserved : goal.loop-low-preserved
loop-low-preserved c =
    let xs = instants_in c.args.instants.now in
    let turn = c.loop-low.invariant in
    let read = c.instant_at.ensures in
    elim c.if-instant_at-wanted.branch [
      | then-instant_at-wanted w ↦ turn_past xs c.args.wanted turn (omega arith) refl refl (omega arith) (omega arith) (omega arith)
      | else-instant_at-wanted w ↦ turn_before xs c.args.wanted turn (omega arith) refl refl (omega arith) (omega arith) (omega arith)
    ]

pub returns : goal.returns
returns c =
    record {
      low = c.loop-low.low;
      looks = c.loop-low.looks;
      rule = ended _ _ c.loop-low.invariant (omega arith);
      found_is = ap (λ p. record { place = p; looks = c.loop-low.looks }) (place_is _ c.loop-low.looks _ c.checked_sub.ensures);
    }
