-- `cycle::is_kind` meets its contract: the local column is what is gathered, and each answer of the kind test says whether it is this kind.
-- Assumes nothing.
use mathlib.Core.Path.{◌≡◌, sym, ap, ◌∙◌}
use Prim.Native.Nat.{ℕ}
use lib.ListN.{replicate, length-replicate}
use Rattle.cycle.specs.Cycle.{answers_kind, is_kind}
use Rattle.cycle.proofs.Frames.{gathers, kind_is}
use Rattle.cycle.proofs.is_kind.Goals as goal
use Rattle.cycle.proofs.is_kind.Goals.{After-kind}

-- whatever the kind test answers
answered : (c : After-kind) → answers_kind c.args.kind c.kind.result ≡ is_kind c.args.year c.args.kind c.args.frame.now
answered c =
    let gathered = c.gather.ensures.promise.after ∙ gathers c.args.frame.now (replicate 128 0) c.requires (length-replicate {A = ℕ} 128 0) in
    kind_is _ _ _ _ _ gathered c.kind.ensures.answer

pub returns-in-Ok : goal.returns-in-Ok
returns-in-Ok c = ap (answers_kind _) (sym c.in-Ok.is) ∙ answered (goal.at.returns-in-Ok c).After-kind

pub returns-in-Err : goal.returns-in-Err
returns-in-Err c = ap (answers_kind _) (sym c.in-Err.is) ∙ answered (goal.at.returns-in-Err c).After-kind
