-- `base::refusal::code` meets its contract: 0, or the refusal's number. Assumes nothing.
use native.Mathlib.Omega.{arith}
use Rattle.std.proofs.Common.{ap}
use Rattle.base.specs.Refusals.{number_of}
use Rattle.base.proofs.refusal.code.Goals as goal
use Rattle.base.proofs.refusal.code.Goals.{in-Ok, in-Err}

pub returns : goal.returns
returns g c = elim c.match-answer.branch [
  | in-Ok w ↦ omega (arith, ap number_of w.in-Ok.is)
  | in-Err w ↦ omega (arith, ap number_of w.in-Err.is)
]
