-- `year_argument::year_in` meets its contract: a number is answered only where it is in the span. Assumes nothing.
use Rattle.std.proofs.Common.{sym, ◌∙◌}
use Rattle.year_argument.specs.Years.{year_in}
use Rattle.year_argument.proofs.year_in.Goals as goal
use Rattle.year_argument.proofs.year_in.Goals.{in-Some+else-in_span, in_default}

pub returns-then-in_span : goal.returns-then-in_span
unfolding year_in
returns-then-in_span g c = rw (sym c.in-Some.ensures, sym c.in_span.ensures ∙ c.if-in_span.true)

pub returns : goal.returns
unfolding year_in
returns g c = elim c.match-number.branch [
  | in-Some+else-in_span w ↦ rw (sym w.in-Some.ensures, sym w.in_span.ensures ∙ w.if-in_span.false)
  | in_default w ↦ rw (sym c.number.ensures ∙ w.in_default.is)
]
