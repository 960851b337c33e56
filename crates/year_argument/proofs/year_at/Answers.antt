-- `year_argument::year_at` meets its contract. Assumes nothing.
use Rattle.year_argument.proofs.Laws.{year_named}
use Rattle.year_argument.proofs.year_at.Goals as goal

pub returns : goal.returns
returns g c = year_named _ c.year_in.ensures
