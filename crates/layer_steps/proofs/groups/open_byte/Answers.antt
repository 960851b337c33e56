-- `layer_steps::groups::open_byte` meets its contract: fewer than three bytes are open, so the byte is outside, a first copy or a second. Assumes nothing.
use native.Mathlib.Omega.{arith}
use mathlib.Core.Path.{◌≡◌, ◌∙◌}
use borrow.Author.Tests.{eq-eqb}
use Rattle.layer_steps.proofs.groups.open_byte.Goals as goal

pub returns-then-g-eq0 : goal.returns-then-g-eq0
returns-then-g-eq0 c vote = c.outer_byte.ensures ∙ rw (eq-eqb _ _ c.if-g-eq0.true)

pub returns-then-g-eq1 : goal.returns-then-g-eq1
returns-then-g-eq1 c vote = rw c.if-g-eq1.true

pub returns : goal.returns
returns c vote =
    let second : c.args.g.«open» ≡ 2 = omega arith in
    rw second
