-- `double_text::digits::spell` meets its contract: what is left of n stands in front of the digits so far. Assumes nothing.
use mathlib.Core.Path.{◌≡◌}
use lib.ListN.{length}
use Rattle.double_text.proofs.Laws.{Spelled}
use Rattle.double_text.proofs.digits.spell.Given as goal

abbrev pub invariant-loop-i : goal.invariant-loop-i
invariant-loop-i l = (length l.digits ≡ length l.initial.digits) × Spelled l.n (length l.initial.digits) l.i l.rest l.digits
