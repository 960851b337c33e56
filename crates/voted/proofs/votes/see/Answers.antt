-- `voted::votes::see` meets its contract: three equal copies agree with each other, and no SYNC stands before the next group. Assumes nothing.
use native.Mathlib.Omega.{arith}
use Rattle.voted.proofs.Agreeing.{alike-agreement, alike-word}
use Rattle.voted.proofs.Joining.{cell-fill, past_quiet}
use Rattle.voted.proofs.votes.see.Goals as goal

pub bounds-piece-at : goal.bounds-piece-at
bounds-piece-at c = omega (arith, c.requires)

pub overflow_add-result-then-is_cell : goal.overflow_add-result-then-is_cell
overflow_add-result-then-is_cell c =
    let cell = c.is_cell.ensures c.if-is_cell.true in
    omega (arith, cell.spaced.fifth.inside)

pub returns-then-is_cell : goal.returns-then-is_cell
returns-then-is_cell c =
    let cell = c.is_cell.ensures c.if-is_cell.true in
    record {
      agree_is = alike-agreement _ _ _ cell.second cell.third;
      word-is = λ v. alike-word _ _ _ cell.second cell.third;
      between = cell-fill cell.spaced;
    }

pub returns : goal.returns
returns c =
    record { agree_is = c.agreeing.ensures; word-is = c.word.ensures; between = past_quiet c.skip-skipped.ensures.quiet }
