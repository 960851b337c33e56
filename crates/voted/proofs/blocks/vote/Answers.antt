use mathlib.Core.Path.{◌≡◌}
use Prim.Native.Nat.{◌*◌, ◌≤◌, ◌<◌}
use native.Mathlib.Omega.{arith}
use lib.Dec.{eqb}
use Rattle.voted.specs.Copies.{Copies}
use Rattle.voted.specs.Lanes.{Columns, columns, lane, lanes}
use Rattle.voted.proofs.Agreeing.{one-few}
use Rattle.voted.proofs.Lanes.{total-sides, voting_none, voting_more}
use Rattle.voted.proofs.blocks.vote.Goals as goal
use Rattle.voted.proofs.blocks.vote.Goals.{After-by_masks, Start}

-- the columns at entry
abbrev entered : Start → Columns
entered c = columns c.args.first.now c.args.second.now c.args.third.now

-- what is known where a turn has its word
module _ (c : After-by_masks) where
  -- the copies of the lane that the turn is at
  abbrev here : Copies
  here =
      let a = c.args in
      lane (columns c.loop-k.first a.second.now a.third.now) c.loop-k.k

  few : 16 * c.args.vectors ≤ lanes
  few = omega (arith, c.requires.0)

pub loop-k-init : goal.loop-k-init
loop-k-init c = voting_none (entered c) (16 * c.args.vectors) c.requires.1

pub bounds-first-k : goal.bounds-first-k
bounds-first-k c = omega arith

pub bounds-second-k : goal.bounds-second-k
bounds-second-k c = omega arith

pub bounds-third-k : goal.bounds-third-k
bounds-third-k c = omega arith

pub bounds-first-k-in-loop-k : goal.bounds-first-k-in-loop-k
bounds-first-k-in-loop-k c = omega arith

pub overflow_add-x : goal.overflow_add-x
overflow_add-x c =
    let g = here (goal.at.overflow_add-x c).After-by_masks in
    omega (arith, c.same-x.ensures, one-few (eqb g.first g.second), c.loop-k.invariant.x_few, c.loop-k-test.true, few (goal.at.overflow_add-x c).After-by_masks)

pub overflow_add-y : goal.overflow_add-y
overflow_add-y c =
    let g = here (goal.at.overflow_add-y c).After-by_masks in
    omega (arith, c.same-y.ensures, one-few (eqb g.first g.third), c.loop-k.invariant.y_few, c.loop-k-test.true, few (goal.at.overflow_add-y c).After-by_masks)

pub overflow_add-z : goal.overflow_add-z
overflow_add-z c =
    let g = here (goal.at.overflow_add-z c).After-by_masks in
    omega (arith, c.same-z.ensures, one-few (eqb g.second g.third), c.loop-k.invariant.z_few, c.loop-k-test.true, few (goal.at.overflow_add-z c).After-by_masks)

pub overflow_add-none : goal.overflow_add-none
overflow_add-none c =
    omega (arith, c.split-none.ensures.0, c.loop-k.invariant.none_few, c.loop-k-test.true, few (goal.at.overflow_add-none c).After-by_masks)

pub overflow_add-k : goal.overflow_add-k
overflow_add-k c = omega arith

pub loop-k-smaller : goal.loop-k-smaller
loop-k-smaller c = omega arith

pub loop-k-preserved : goal.loop-k-preserved
loop-k-preserved c =
    let told = c.split-none.ensures in
    let in_use : c.loop-k.k < 16 * c.args.vectors = omega (arith, c.loop-k-test.true) in
    voting_more c.loop-k.invariant in_use (few (goal.at.loop-k-preserved c).After-by_masks) c.by_masks.ensures c.same-x.ensures c.same-y.ensures
    c.same-z.ensures told.0 told.1

pub returns : goal.returns
returns c =
    let l = c.loop-k in
    let all : l.k ≡ 16 * c.args.vectors = omega arith in
    record {
      sums_are = rw (← all) (omega (arith, c.side_by_side.ensures, l.invariant.x_is, l.invariant.y_is, l.invariant.z_is, total-sides (entered (goal.at.returns c).Start) l.k));
      voted = λ z m h. l.invariant.voted z m (omega arith);
      words_are = λ m h. l.invariant.words_are m (omega arith);
    }
