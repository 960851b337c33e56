-- `in_place::take_to_lock` meets its contract: it is the call as far as a lock, with no lead-in before it. Assumes nothing.
use mathlib.Core.Path.{sym}
use mathlib.Core.Bool.{true≢false}
use Rattle.in_place.proofs.take_to_lock.Goals as goal

pub call_to_lock-requires : goal.call_to_lock-requires
call_to_lock-requires c = λ z. absurd (true≢false (sym z))
