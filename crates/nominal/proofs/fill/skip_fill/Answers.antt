-- `nominal::fill::skip_fill` meets its contract: five, or eights and then ones. Assumes nothing.
use native.Mathlib.Omega.{arith}
use Rattle.nominal.specs.Stretches.{ends}
use Rattle.nominal.proofs.Joining.{nominal_join}
use Rattle.nominal.proofs.fill.skip_fill.Goals as goal

pub returns-then-piece-from : goal.returns-then-piece-from
returns-then-piece-from c = record { stretch = ends; no_fill = λ b. omega (arith, b.inside) }

pub returns-then-piece-from-ne-FILL : goal.returns-then-piece-from-ne-FILL
returns-then-piece-from-ne-FILL c = record { stretch = ends; no_fill = λ b. omega (arith, b.is) }

pub returns-then-are_five : goal.returns-then-are_five
returns-then-are_five c = c.are_five.ensures c.if-are_five.true

pub returns : goal.returns
returns c =
    let ones = c.skip_ones.ensures in
    record { stretch = nominal_join c.skip_eights.ensures ones.stretch; no_fill = ones.no_fill }
