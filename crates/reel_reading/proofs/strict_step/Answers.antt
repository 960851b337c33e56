-- `reel_reading::strict_step` meets its contract: its one call is handed the piece. Assumes nothing.
use Rattle.std.proofs.lemmas.Result.{err_from_is_err_and}
use Rattle.reel_reading.proofs.Laws.{refused_strictly, steps-strictly}
use Rattle.reel_reading.proofs.strict_step.Goals as goal

pub returns-in_err-answer : goal.returns-in_err-answer
returns-in_err-answer c =
    let p = err_from_is_err_and c.from_residual.result c.from_residual.ensures.1 in
    rw (p.1, p.2) (refused_strictly _ _ _ _ _ c.in_err-answer.ensures)

pub returns : goal.returns
returns c = steps-strictly _ _ _ _ _ c.in_ok-answer.ensures
