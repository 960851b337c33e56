-- `number_order::modes_in_order` meets its contract: a flag is 0 where it is not 1. Assumes nothing.
use mathlib.Core.Path.{refl}
use Prim.Native.Nat.{ℕ, ◌<◌}
use lib.ListN.{get_or}
use borrow.Author.Tests.{eq-eqb, ne_eqb}
use Rattle.labelling.specs.declared.Framing.{Framing}
use Rattle.labelling.specs.declared.Runs.{Runs}
use Rattle.tally_numbers.specs.Numbers.{framing_of, runs_of}
use Rattle.tally_numbers.proofs.Numbers.{passed}
use Rattle.number_order.proofs.Modes.{modes_hunting, modes_matching, modes_placing}
use Rattle.number_order.proofs.modes_in_order.Goals as goal
use Rattle.number_order.proofs.modes_in_order.Goals.{Start}

abbrev f : Start → Framing
f s = framing_of s.args.n.now

abbrev r : Start → Runs
r s = runs_of s.args.n.now

abbrev erasure : Start → ℕ
erasure s = get_or s.args.n.now 15 0

flag : (s : Start) → erasure s < 2
flag s = (passed s.args.n.now s.requires).erasure_flag

pub returns-then-n-eq1 : goal.returns-then-n-eq1
returns-then-n-eq1 c =
    modes_hunting (f (goal.at.returns-then-n-eq1 c).Start) (r (goal.at.returns-then-n-eq1 c).Start) (erasure (goal.at.returns-then-n-eq1 c).Start) (flag (goal.at.returns-then-n-eq1 c).Start) refl (eq-eqb _ 1 c.if-n-eq1.true)

pub returns-then-n-ne0 : goal.returns-then-n-ne0
returns-then-n-ne0 c = modes_matching (f (goal.at.returns-then-n-ne0 c).Start) (r (goal.at.returns-then-n-ne0 c).Start) (ne_eqb _ 1 c.if-n-eq1.false) c.if-n-ne0.true

pub returns : goal.returns
returns c =
    modes_placing (f (goal.at.returns c).Start) (r (goal.at.returns c).Start) (erasure (goal.at.returns c).Start) (flag (goal.at.returns c).Start) refl (ne_eqb _ 1 c.if-n-eq1.false) c.if-n-ne0.false
