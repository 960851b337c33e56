-- `relocking::decide` meets its contract: each of its ways is a move. Assumes nothing.
use mathlib.Core.Path.{sym, ◌∙◌}
use native.Mathlib.Omega.{arith}
use Rattle.relocking.proofs.Relocking.{step_by}
use Rattle.relocking.proofs.Moves.{reads_part, asks_again, reads_frame, leads_other}
use Rattle.relocking.proofs.decide.Goals as goal

pub read_on-requires : goal.read_on-requires
read_on-requires c = c.requires.0

pub returns-then-ends-piece : goal.returns-then-ends-piece
returns-then-ends-piece c =
    step_by _ _ _ _ _ c.read_on.result _ c.read_on.ensures
    (λ r p. reads_part _ _ _ _ c.requires.0 c.requires.1 c.requires.2 c.if-piece-lt4.true c.if-ends-piece.true r _ p)

pub returns-then-piece-lt4 : goal.returns-then-piece-lt4
returns-then-piece-lt4 c =
    asks_again _ _ _ _ c.requires.0 c.requires.1 c.requires.2 c.if-piece-lt4.true c.if-ends-piece.false

pub read_on-requires-then-begins_frame : goal.read_on-requires-then-begins_frame
read_on-requires-then-begins_frame c = c.requires.0

pub returns-then-begins_frame : goal.returns-then-begins_frame
returns-then-begins_frame c =
    step_by _ _ _ _ _ c.read_on-then-begins_frame.result _ c.read_on-then-begins_frame.ensures
    (λ r p. reads_frame _ _ _ _ c.requires.0 c.requires.1 c.requires.2 (omega (arith, c.if-piece-lt4.false))
    (sym c.begins_frame.ensures ∙ c.if-begins_frame.true) r _ p)

pub lead_in-requires : goal.lead_in-requires
lead_in-requires c = c.requires.0

pub returns : goal.returns
returns c =
    step_by _ _ _ _ _ c.lead_in.result _ c.lead_in.ensures
    (λ r p. leads_other _ _ _ _ c.requires.0 c.requires.1 c.requires.2 (omega (arith, c.if-piece-lt4.false))
    (sym c.begins_frame.ensures ∙ c.if-begins_frame.false) r _ p)
