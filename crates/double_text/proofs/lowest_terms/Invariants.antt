-- `double_text::lowest_terms` meets its contract: the fraction so far has the same lowest terms. Assumes nothing.
use mathlib.Core.Path.{◌≡◌}
use Prim.Native.Nat.{◌-◌}
use Rattle.double_text.specs.Decimal.{lowest_terms}
use Rattle.double_text.proofs.lowest_terms.Given as goal

abbrev pub invariant-loop-i : goal.invariant-loop-i
invariant-loop-i l = lowest_terms l.n l.p ≡ lowest_terms l.numerator (l.p - l.i)
