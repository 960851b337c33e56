-- `reader_run::advance` meets its contract: a stretch, and a plain step where a byte is left. Assumes nothing.
use native.Mathlib.Omega.{arith}
use Rattle.labelling.proofs.Votes.{majority}
use Rattle.reader_run.proofs.Onward.{onward-begun, onward-join}
use Rattle.reader_run.proofs.advance.Goals as goal

pub returns-then-piece-r : goal.returns-then-piece-r
returns-then-piece-r c =
    let a = c.args in
    record { onward = c.reach-r.ensures.onward _ (majority a.rule) a.area.now; moves = omega arith }

pub one_byte-requires : goal.one_byte-requires
one_byte-requires c =
    let a = c.args in
    let r = c.reach-r.ensures.onward _ (majority a.rule) a.area.now in
    (onward-begun r c.requires.0, c.if-piece-r.false, c.requires.2)

pub returns : goal.returns
returns c =
    let a = c.args in
    let r = c.reach-r.ensures.onward _ (majority a.rule) a.area.now in
    let x = c.one_byte.ensures in
    record { onward = onward-join r c.reach-r.ensures.same-mode x.onward; moves = omega (arith, r.forward, x.moves) }
