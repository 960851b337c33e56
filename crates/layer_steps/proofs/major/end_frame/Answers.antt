-- `layer_steps::major::end_frame` meets its contract: a good frame goes to the run, any other ends it. Assumes nothing.
use Rattle.layer_steps.proofs.Closed.{ends_run}
use Rattle.layer_steps.proofs.major.end_frame.Goals as goal

pub returns-in-Good : goal.returns-in-Good
returns-in-Good c = rw c.in-Good.is c.end_good.ensures

pub returns-in-Damaged : goal.returns-in-Damaged
returns-in-Damaged c = ends_run c.args.class c.in-Damaged.is c.after_other.ensures
