-- `reader_run::stretch::quiet_run` meets its contract: nothing where SYNC comes next, else a quiet stretch. Assumes nothing.
use native.Mathlib.Omega.{arith}
use Rattle.quiet.proofs.Joining.{quiet_far, quiet_inside}
use Rattle.reader_run.proofs.Onward.{none-onward, quiet_onward}
use Rattle.reader_run.proofs.stretch.quiet_run.Goals as goal

pub returns-then-piece-at : goal.returns-then-piece-at
returns-then-piece-at c = record { reaches_any_frame = λ frame b. none-onward b; open_value_2 = c.requires.open_value }

pub returns-then-piece-at-eq-SYNC : goal.returns-then-piece-at-eq-SYNC
returns-then-piece-at-eq-SYNC c = record { reaches_any_frame = λ frame b. none-onward b; open_value_2 = c.requires.open_value }

pub overflow_sub-skipped : goal.overflow_sub-skipped
overflow_sub-skipped c = omega (arith, quiet_far c.skip-skipped.ensures.quiet)

pub after_quiet-next-requires : goal.after_quiet-next-requires
after_quiet-next-requires c =
    let q = c.skip-skipped.ensures.quiet in
    let far = quiet_far q in
    let inside = quiet_inside q c.requires.groups_room.1.inside in
    (c.requires.groups_room.0, omega (arith, c.requires.groups_room.1.limit), omega arith)

pub returns : goal.returns
returns c =
    let counted = c.after_quiet-next.ensures in
    record {
      reaches_any_frame = λ frame b. quiet_onward b c.requires.open_value c.skip-skipped.ensures.quiet counted;
      open_value_2 = rw counted c.requires.open_value;
    }
