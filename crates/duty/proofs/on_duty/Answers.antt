-- `duty::on_duty` meets its contract: who is on duty is set, and nothing else. Assumes nothing.
use mathlib.Core.Path.{refl}
use Rattle.duty.proofs.on_duty.Goals as goal

pub returns : goal.returns
returns c = refl
