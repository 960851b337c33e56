-- `layer_steps::major::end_good` meets its contract: a frame that continues or starts a run is stored, and no other. Assumes nothing.
use mathlib.Core.Path.{refl}
use Prim.Native.Nat.{◌≤◌}
use native.Mathlib.Omega.{arith}
use Rattle.layer_steps.proofs.Closed.{numbered, end_apart, end_stored}
use Rattle.layer_steps.proofs.major.end_good.Goals as goal
use Rattle.layer_steps.proofs.major.end_good.Goals.{Else-n-r}

-- a frame of a run has one of its numbers
few : (c : Else-n-r) → c.from-n.result ≤ 127
few c =
    numbered c.from-n.result c.args.r.building c.if-n-r.false c.requires.runs_room.building_max

pub returns-then-n-r : goal.returns-then-n-r
returns-then-n-r c =
    let a = c.args in
    end_apart a.r a.frame.now a.area.now _ c.from-n.result c.from-n.ensures c.after_good.ensures c.if-n-r.true refl

pub overflow_mul-n : goal.overflow_mul-n
overflow_mul-n c = omega (arith, few (goal.at.overflow_mul-n c).Else-n-r)

pub put-requires : goal.put-requires
put-requires c =
    let lent = c.requires.lent in
    (omega (arith, few (goal.at.put-requires c).Else-n-r, lent.area_length), lent.frame-length)

pub returns : goal.returns
returns c =
    let a = c.args in
    end_stored a.r a.frame.now a.area.now _ c.from-n.result c.from-n.ensures c.after_good-2.ensures c.if-n-r.false
    c.put.ensures
