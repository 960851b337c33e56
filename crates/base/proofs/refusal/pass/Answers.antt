-- `base::refusal::pass` meets its contract: the number as above, and what is given is put. Assumes nothing.
use Rattle.std.proofs.Common.{sym, ap}
use Rattle.base.specs.Refusals.{given_or}
use Rattle.base.proofs.refusal.pass.Goals as goal

pub returns-in-Ok-clause-out : goal.returns-in-Ok-clause-out
returns-in-Ok-clause-out g c = sym (ap (given_or c.args.out.now) c.in-Ok.is)
