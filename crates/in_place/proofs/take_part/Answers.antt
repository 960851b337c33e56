-- `in_place::take_part` meets its contract: it is the call, with no lead-in before it. Assumes nothing.
use mathlib.Core.Path.{sym}
use mathlib.Core.Bool.{true≢false}
use Rattle.in_place.proofs.take_part.Goals as goal

pub call-requires : goal.call-requires
call-requires c = λ z. absurd (true≢false (sym z))
