-- `cycle::instant` meets its contract: the seven bytes are the definition's, and each answer of the codec has its instant. Assumes nothing.
use mathlib.Core.Path.{◌≡◌, sym, ap, ◌∙◌}
use Rattle.cycle.specs.Cycle.{instant_in, instant_of}
use Rattle.cycle.proofs.Instants.{instant-is}
use Rattle.cycle.proofs.instant.Goals as goal
use Rattle.cycle.proofs.instant.Goals.{After-decode}

-- whatever the codec answers
answered : (d : After-decode) → instant_in d.decode.result ≡ instant_of d.args.year d.args.body.now
answered d = instant-is _ _ _ _ d.time_bytes-code.ensures d.decode.ensures.answer

pub returns-in-Ok : goal.returns-in-Ok
returns-in-Ok c = ap instant_in (sym c.in-Ok.is) ∙ answered (goal.at.returns-in-Ok c).After-decode

pub returns-in-Err : goal.returns-in-Err
returns-in-Err c = ap instant_in (sym c.in-Err.is) ∙ answered (goal.at.returns-in-Err c).After-decode
