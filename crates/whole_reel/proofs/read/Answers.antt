-- `whole_reel::read` meets its contract: refused before the first step, or the whole stream from a fresh tally. Assumes nothing.
use Rattle.std.proofs.Common.{◌≡◌, sym, ap, ◌∙◌, length}
use Rattle.base.specs.Refusals.{number_of}
use Rattle.whole_reel.specs.Whole.{read_refusal}
use Rattle.whole_reel.proofs.ReadingReels.{by_both, read-refused, read-starts, read_whole}
use Rattle.whole_reel.proofs.read.Goals as goal
use Rattle.whole_reel.proofs.read.Goals.{After-and}

-- after the tests
module _ (w : After-and) where
  refusal_is : number_of w.and.result ≡ read_refusal w.args.rule (length w.args.stream.now) (length w.args.area.now)
  refusal_is =
      ap number_of w.and.ensures
      ∙ by_both w.args.rule (length w.args.stream.now) (length w.args.area.now) _ _ w.fresh-begun.ensures.refusal_is w.permitted.ensures

pub returns-in-Err : goal.returns-in-Err
returns-in-Err c =
    read-refused _ _ _ _ c.fresh-begun.ensures.is_fresh _ (ap number_of (sym c.in-Err.is) ∙ refusal_is (goal.at.returns-in-Err c).After-and)

pub read_all-requires : goal.read_all-requires
read_all-requires c =
    read-starts c.args.rule c.args.stream.now c.args.area.now _ c.fresh-begun.ensures.is_fresh
    (sym (refusal_is (goal.at.read_all-requires c).After-and) ∙ ap number_of c.in-Ok.is)

pub returns-in-Ok : goal.returns-in-Ok
returns-in-Ok c =
    read_whole c.args.rule c.args.stream.now c.args.area.now _ c.fresh-begun.ensures.is_fresh
    (sym (refusal_is (goal.at.returns-in-Ok c).After-and) ∙ ap number_of c.in-Ok.is) c.read_all.result _ c.read_all.ensures
