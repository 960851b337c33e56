use mathlib.Core.Path.{sym, ◌∙◌}
use mathlib.Core.List.{List}
use Prim.Native.Nat.{ℕ, ◌+◌, ◌≤◌}
use native.Mathlib.Omega.{arith}
use lib.ListN.{set}
use Rattle.quiet.proofs.Joining.{quiet_far}
use Rattle.voted.specs.Copies.{copies_at, IsVoted}
use Rattle.voted.specs.declared.placing.Run.{Run}
use Rattle.voted.specs.Stretches.{Group, RunsOn}
use Rattle.voted.proofs.Agreeing.{agreement-few, voted_of}
use Rattle.voted.proofs.Joining.{run, decided_far, past_quiet, past_moves, group_at, kept-quiet, kept-group, runs-join}
use Rattle.voted.proofs.Joining.{stops_short, stops_split, stops_left}
use Rattle.voted.proofs.placing.groups.Goals as goal
use Rattle.voted.proofs.placing.groups.Goals.{Else-seen-eq0}

-- a group that is taken: its copies, two of which agree
module _ (c : Else-seen-eq0) where
  abbrev piece : List ℕ
  piece = c.args.piece.now

  abbrev at : ℕ
  at = c.loop-next.next.at

  here : Group piece at (copies_at piece at)
  here = group_at record { inside = omega arith; is = c.if-piece-at-ne-SYNC.false } (omega arith)

  voted : IsVoted (copies_at piece at)
  voted = voted_of (copies_at piece at) (λ e. c.if-seen-eq0.false (c.see-seen.ensures.agree_is ∙ e))

  -- the run with this group
  abbrev more : Run
  more =
      let told = c.see-seen.result in
      let next = c.loop-next.next in
      run told.at (next.placed + 1) at (next.sums + told.agree) (next.stray + told.stray)

  one_more : RunsOn piece c.args.before c.args.frame.now more
      (set c.loop-next.frame c.loop-next.next.placed c.see-seen.result.word)
  one_more =
      let went = c.loop-next.invariant in
      let room = went.has_room in
      let told = c.see-seen.ensures in
      record {
        kept = λ i q f b. kept-group (went.kept i q f b) here voted told.between (told.word-is voted) told.agree_is;
        has_room = record {
          room = omega (arith, c.if-p-ge-LAST_PLACE.false);
          few_stray = omega (arith, decided_far told.between, room.few_stray);
          few = omega (arith, told.agree_is, agreement-few (copies_at piece at), room.few);
        };
      }

pub starts-end-requires : goal.starts-end-requires
starts-end-requires c = omega arith

pub loop-next-init : goal.loop-next-init
loop-next-init c = record { kept = λ i q f k. k; has_room = c.requires }

pub bounds-piece-at : goal.bounds-piece-at
bounds-piece-at c = omega arith

pub overflow_add-next : goal.overflow_add-next
overflow_add-next c = omega (arith, quiet_far c.skip-skipped.ensures.quiet, c.loop-next.invariant.has_room.few_stray)

pub loop-next-smaller-then-piece-at-ne-SYNC : goal.loop-next-smaller-then-piece-at-ne-SYNC
loop-next-smaller-then-piece-at-ne-SYNC c =
    let moved = past_moves c.skip-skipped.ensures (omega arith) c.if-piece-at-ne-SYNC.true in
    omega arith

pub loop-next-preserved-then-piece-at-ne-SYNC : goal.loop-next-preserved-then-piece-at-ne-SYNC
loop-next-preserved-then-piece-at-ne-SYNC c =
    let went = c.loop-next.invariant in
    let quiet = c.skip-skipped.ensures.quiet in
    record {
      kept = λ i q f b. kept-quiet (went.kept i q f b) (past_quiet quiet);
      has_room = record {
        room = went.has_room.room;
        few_stray = omega (arith, quiet_far quiet, went.has_room.few_stray);
        few = went.has_room.few;
      };
    }

pub returns-then-p-ge-LAST_PLACE : goal.returns-then-p-ge-LAST_PLACE
returns-then-p-ge-LAST_PLACE c =
    record { runs_on = c.loop-next.invariant; stops = stops_left c.if-piece-at-ne-SYNC.false (λ g. c.if-p-ge-LAST_PLACE.true) }

pub see-seen-requires : goal.see-seen-requires
see-seen-requires c = omega arith

pub returns-then-seen-eq0 : goal.returns-then-seen-eq0
returns-then-seen-eq0 c =
    record { runs_on = c.loop-next.invariant; stops = stops_split c.if-piece-at-ne-SYNC.false (sym c.see-seen.ensures.agree_is ∙ c.if-seen-eq0.true) }

pub bounds-frame-p : goal.bounds-frame-p
bounds-frame-p c = omega arith

pub overflow_add-more : goal.overflow_add-more
overflow_add-more c = omega arith

pub overflow_add-more-else-piece-at-ne-SYNC : goal.overflow_add-more-else-piece-at-ne-SYNC
overflow_add-more-else-piece-at-ne-SYNC c =
    let room = c.loop-next.invariant.has_room in
    omega (arith, c.see-seen.ensures.agree_is, agreement-few (copies_at c.args.piece.now c.loop-next.next.at), room.few, room.room)

pub overflow_add-more-else-piece-at-ne-SYNC-2 : goal.overflow_add-more-else-piece-at-ne-SYNC-2
overflow_add-more-else-piece-at-ne-SYNC-2 c =
    omega (arith, decided_far c.see-seen.ensures.between, c.loop-next.invariant.has_room.few_stray)

pub alike-next-requires : goal.alike-next-requires
alike-next-requires c = (one_more (goal.at.alike-next-requires c).Else-seen-eq0).has_room

pub loop-next-smaller : goal.loop-next-smaller
loop-next-smaller c =
    let forth : (more (goal.at.loop-next-smaller c).Else-seen-eq0).at ≤ c.alike-next.result.at = c.alike-next.ensures.1 in
    omega (arith, (here (goal.at.loop-next-smaller c).Else-seen-eq0).third.inside, decided_far c.see-seen.ensures.between, forth)

pub loop-next-preserved : goal.loop-next-preserved
loop-next-preserved c = runs-join (one_more (goal.at.loop-next-preserved c).Else-seen-eq0) c.alike-next.ensures.0

pub returns : goal.returns
returns c =
    let went = c.loop-next.invariant in
    record { runs_on = went; stops = stops_short (omega arith) }
