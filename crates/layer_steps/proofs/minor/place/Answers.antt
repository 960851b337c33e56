-- `layer_steps::minor::place` meets its contract: the word is stored at the next place, and the last place closes the frame. Assumes nothing.
use mathlib.Core.Path.{ap}
use mathlib.Core.List.{List}
use Prim.Native.Nat.{ℕ}
use lib.ListN.{set}
use Rattle.layer_steps.proofs.Placed.{Storing, placed-more, placed-last}
use Rattle.layer_steps.proofs.minor.place.Goals as goal
use Rattle.layer_steps.proofs.minor.place.Goals.{After-or_erased-erasure}

-- the word's value is stored, and its mark is known
module _ (c : After-or_erased-erasure) where
  abbrev frame : List ℕ
  frame = set c.args.frame.now c.args.f.placed c.value.result

  storing : Storing c.args.f c.args.w c.args.frame.now frame c.or_erased-erasure.result
  storing = record {
    placing = c.requires.hunting_value;
    stored = ap (λ (v : ℕ). set c.args.frame.now c.args.f.placed v) c.value.ensures;
    mark = c.or_erased-erasure.ensures;
  }

pub returns-then-p-lt-LAST_PLACE : goal.returns-then-p-lt-LAST_PLACE
returns-then-p-lt-LAST_PLACE c = placed-more (storing (goal.at.returns-then-p-lt-LAST_PLACE c).After-or_erased-erasure) c.if-p-lt-LAST_PLACE.true

pub returns : goal.returns
returns c =
    placed-last (storing (goal.at.returns c).After-or_erased-erasure) c.if-p-lt-LAST_PLACE.false c.class_of-class.ensures c.close_frame.ensures
