-- `cycle::is_major` meets its contract: the numbers first, then the kind. Assumes nothing.
use mathlib.Core.Path.{sym, ◌∙◌}
use Rattle.cycle.specs.Cycle.{is_major}
use Rattle.cycle.proofs.is_major.Goals as goal

pub returns-then-all_numbered : goal.returns-then-all_numbered
unfolding is_major
returns-then-all_numbered c = rw (sym c.all_numbered.ensures ∙ c.if-all_numbered.true) c.is_kind.ensures

pub returns-else-all_numbered : goal.returns-else-all_numbered
unfolding is_major
returns-else-all_numbered c = c.if-all_numbered.false ∙ rw (sym c.all_numbered.ensures ∙ c.if-all_numbered.false)
