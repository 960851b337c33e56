-- `nominal::placing::pairs` meets its contract: the groups so far are stored, and two more at each turn. The position
-- and the place go up together, so that one bound serves for both. Assumes nothing.
use mathlib.Core.Path.{◌≡◌}
use mathlib.Core.List.{List}
use Prim.Native.Nat.{ℕ, ◌+◌, ◌*◌, ◌-◌}
use Rattle.nominal.specs.Stretches.{Stored}
use Rattle.nominal.proofs.placing.pairs.Given as goal

-- so many turns, and what they have stored
pub record Paired (piece : List ℕ) (from start : ℕ) (frame₀ frame : List ℕ) (at p : ℕ) : Type 0 where
  pub turns : ℕ
  pub at_is : at ≡ from + 8 * turns
  pub place_is : p ≡ start + 2 * turns
  pub stored : Stored piece from at start p frame₀ frame

abbrev pub invariant-loop-at : goal.invariant-loop-at
invariant-loop-at l = Paired l.piece l.from l.start l.initial.frame l.frame l.at l.p

abbrev pub decreases-loop-at : goal.decreases-loop-at
decreases-loop-at l = l.stop - l.at
