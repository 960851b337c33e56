-- `cycle_records::instant` meets its contract. Assumes nothing.
use mathlib.Core.Path.{ap, ◌∙◌}
use Prim.Native.Nat.{ℕ}
use native.Mathlib.Omega.{arith}
use Rattle.cycle_records.specs.Instants.{record_instant}
use Rattle.cycle.proofs.Instants.{instant-small}
use Rattle.cycle_records.proofs.instant.Goals as goal

pub record_instant-requires : goal.record_instant-requires
record_instant-requires c =
    (omega (arith, c.instant.ensures, instant-small c.args.year c.args.body.now), c.frame_of.ensures.0)

pub returns : goal.returns
returns c =
    c.record_instant.ensures
    ∙ c.frame_of.ensures.1 c.instant.result
    ∙ ap (λ (t : ℕ). record_instant t c.args.k) c.instant.ensures
