-- `nominal::numbers::group_stands` meets its contract: a group's word is the byte after its SYNC. Assumes nothing.
use native.Mathlib.Omega.{arith}
use Rattle.nominal.proofs.Joining.{group_there}
use Rattle.nominal.proofs.numbers.group_stands.Goals as goal

pub starts-requires : goal.starts-requires
starts-requires c = omega arith

pub returns-then-starts-at : goal.returns-then-starts-at
returns-then-starts-at c = λ x g. absurd (omega (arith, g.third.inside))

pub overflow_add-at : goal.overflow_add-at
overflow_add-at c = omega arith

pub bounds-piece-at : goal.bounds-piece-at
bounds-piece-at c = omega arith

pub is_group-requires : goal.is_group-requires
is_group-requires c = omega arith

pub returns : goal.returns
returns c = λ x g. c.is_group.ensures.told (group_there g)
