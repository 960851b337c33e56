use mathlib.Core.Path.{sym, ◌∙◌}
use native.Mathlib.Omega.{arith}
use Rattle.book_parts.proofs.Held.{entered, instant-there}
use Rattle.pcd_find.proofs.Laws.{cycles_are, few, none-put, one_more, all-put}
use Rattle.pcd_find.proofs.answer.put_instants.Goals as goal

pub loop-i-init : goal.loop-i-init
loop-i-init c = none-put _ _ c.requires.1

pub offset_bounds-out-i : goal.offset_bounds-out-i
offset_bounds-out-i c =
    let most = few _ c.requires.0 _ c.cycles-n.ensures in
    omega arith

pub bounds-out-i : goal.bounds-out-i
bounds-out-i c =
    let most = few _ c.requires.0 _ c.cycles-n.ensures in
    omega (arith, c.loop-i.invariant.size_is)

pub loop-i-preserved : goal.loop-i-preserved
loop-i-preserved c =
    let accepted = c.requires.0 in
    let cycles = cycles_are _ accepted _ c.cycles-n.ensures in
    let most = few _ accepted _ c.cycles-n.ensures in
    let told = c.instant.ensures ∙ instant-there _ _ (entered _ accepted _ (omega arith)) in
    one_more _ _ _ _ (omega arith) told c.loop-i.invariant

pub shape_of-out : goal.shape_of-out
shape_of-out c = c.loop-i.invariant.size_is ∙ sym c.requires.1

pub returns : goal.returns
returns c =
    let cycles = cycles_are _ c.requires.0 _ c.cycles-n.ensures in
    let most = few _ c.requires.0 _ c.cycles-n.ensures in
    all-put _ _ _ _ cycles most (omega arith) (omega arith) c.loop-i.invariant
