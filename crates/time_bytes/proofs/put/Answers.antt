-- `time_bytes::put` meets its contract: the code where it fits, and else nothing. Assumes nothing.
use mathlib.Core.Path.{sym, ◌∙◌}
use Rattle.time_bytes.specs.Bytes.{put_after}
use Rattle.time_bytes.proofs.put.Goals as goal

pub returns-then-code_fits : goal.returns-then-code_fits
unfolding put_after
returns-then-code_fits c =
    rw (sym c.code_fits.ensures ∙ c.if-code_fits.true) (c.copy_from_slice.ensures.after ∙ c.code.ensures)

pub returns-else-code_fits : goal.returns-else-code_fits
unfolding put_after
returns-else-code_fits c = rw (sym c.code_fits.ensures ∙ c.if-code_fits.false)
