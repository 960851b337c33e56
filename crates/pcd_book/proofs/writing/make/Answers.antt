-- `pcd_book::writing::make` meets its contract: nothing is refused, so that the writer's promises hold. Assumes nothing.
use Rattle.std.proofs.Common.{◌∙◌}
use Rattle.book.proofs.Answered.{ok-of_none}
use Rattle.pcd_book.proofs.Binding.{never_refused}
use Rattle.pcd_book.proofs.writing.make.Goals as goal

pub unwrap-requires : goal.unwrap-requires
unwrap-requires c =
    let a = c.args in
    ok-of_none _ (c.write.ensures.numbered.answer ∙ never_refused a.year a.bodies.now c.requires.bound a.out.now c.requires.room_is)

pub returns : goal.returns
returns c =
    let a = c.args in
    let w = c.write.ensures.numbered in
    let none = w.answer ∙ never_refused a.year a.bodies.now c.requires.bound a.out.now c.requires.room_is in
    record { accepted = w.accepted none; year_is = w.year_is none; cycles_are = w.cycles_are none }
