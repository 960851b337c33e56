-- `voted::blocks::split` meets its contract: where copies agree, the group is voted. Assumes nothing.
use mathlib.Core.Path.{ap, ◌∙◌}
use native.Mathlib.Omega.{arith}
use mir.Val.{bool_byte}
use lib.Dec.{eqb}
use borrow.Author.Tests.{eq-eqb}
use Rattle.voted.specs.Copies.{copies}
use Rattle.voted.proofs.Agreeing.{bit-few, voted_of}
use Rattle.voted.proofs.blocks.split.Goals as goal

pub returns : goal.returns
returns c =
    let a = c.args in
    let agree = c.agreed.result in (
      bit-few (eqb agree 0),
      λ z. voted_of (copies a.a a.b a.c) (λ e. omega (arith, z, ap bool_byte (eq-eqb agree 0 (c.agreed.ensures ∙ e)))),
    )
