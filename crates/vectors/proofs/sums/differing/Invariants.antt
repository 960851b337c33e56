-- `vectors::sums::differing` meets its contract: what is counted and what is left to count come to the count of all. Assumes nothing.
use Rattle.std.proofs.Common.{List, ℕ, drop}
use Rattle.vectors.specs.Folds.{differ}
use Rattle.vectors.proofs.Folding.{Counted}
use Rattle.vectors.proofs.sums.differing.Given as goal

abbrev pub left : List ℕ → List ℕ → ℕ → ℕ
left a b i = differ (drop i a) (drop i b)

abbrev pub invariant-loop-i : goal.invariant-loop-i
invariant-loop-i l = Counted (left l.a l.b) l.n l.i
