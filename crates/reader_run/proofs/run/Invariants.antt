-- `reader_run::run` meets its contract: at each turn the rest of the call is the whole call. Assumes nothing.
use mathlib.Core.Path.{◌≡◌}
use mathlib.Core.Bool.{Bool}
use mathlib.Core.List.{List}
use Prim.Native.Nat.{ℕ, ◌-◌}
use lib.ListN.{length}
use Rattle.base.specs.Format.{major_frame}
use Rattle.labelling.specs.Words.{Vote}
use Rattle.labelling.specs.Votes.{rule_vote}
use Rattle.reader_run.specs.Onward.{Begun, Moment, from, rest_from}
use Rattle.reader_run.proofs.run.Given as goal

-- begun at m₀, the call has come to m
pub record Running (vote : Vote) (stop : Bool) (piece : List ℕ) (m₀ m : Moment) : Type 0 where
  pub so_far : rest_from vote stop piece m₀ ≡ rest_from vote stop piece m
  pub begun : Begun piece m.at m.state
  pub area_length : length m.area ≡ major_frame

abbrev pub invariant-loop-i : goal.invariant-loop-i
invariant-loop-i l = Running (rule_vote l.rule) l.stop l.piece (from 0 l.initial.next l.initial.frame l.initial.area) (from l.i l.next l.frame l.area)

abbrev pub decreases-loop-i : goal.decreases-loop-i
decreases-loop-i l = length l.piece - l.i
