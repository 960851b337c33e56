use mathlib.Core.Path.{◌≡◌, sym, ◌∙◌}
use mathlib.Core.List.{List}
use Prim.Native.Nat.{ℕ, ◌+◌, ◌≤◌, ◌<◌}
use native.Mathlib.Omega.{arith}
use lib.ListN.{length}
use Rattle.base.specs.Format.{sync_word}
use Rattle.quiet.proofs.Joining.{quiet_far}
use Rattle.voted.specs.Copies.{copies_at, IsVoted, word_of}
use Rattle.voted.specs.declared.hunting.Hunt.{Hunt}
use Rattle.voted.specs.Stretches.{Group, Going}
use Rattle.voted.proofs.Agreeing.{agreement-few, voted_of}
use Rattle.voted.proofs.Joining.{hunt, decided_far, past_quiet, past_moves, group_at}
use Rattle.voted.proofs.Joining.{going_none, going_quiet, going_on, sought}
use Rattle.voted.proofs.Joining.{stops_short, stops_split, stops_left, stops_first}
use Rattle.voted.proofs.hunting.other_groups.Goals as goal
use Rattle.voted.proofs.hunting.other_groups.Goals.{Else-seen}

-- a group that is taken: its copies, two of which agree
module _ (c : Else-seen) where
  abbrev piece : List ℕ
  piece = c.args.piece.now

  abbrev at : ℕ
  at = c.loop-next.next.at

  whole : at + 3 < length piece
  whole = omega (arith, c.loop-next-test.true, c.starts-end.ensures)

  here : Group piece at (copies_at piece at)
  here = group_at record { inside = omega (arith, whole); is = c.if-piece-at-ne-SYNC.false } whole

  voted : IsVoted (copies_at piece at)
  voted = voted_of (copies_at piece at) (λ e. c.if-seen-eq0.false (c.see-seen.ensures.agree_is ∙ e))

  -- the run with this group
  abbrev more : Hunt
  more =
      let told = c.see-seen.result in
      let next = c.loop-next.next in
      hunt told.at (next.count + 1) at (next.sums + told.agree) (next.stray + told.stray)

  one_more : Going piece c.args.from more
  one_more =
      let told = c.see-seen.ensures in
      let few = c.if-next-ge-MOST.false in
      let unlike : word_of (copies_at piece at) ≡ sync_word 0 → ⊥ = λ e. omega (arith, c.if-seen.false, told.word-is voted, e) in
      going_on c.loop-next.invariant (omega (arith, few)) here voted unlike told.between told.agree_is

pub starts-end-requires : goal.starts-end-requires
starts-end-requires c = omega arith

pub loop-next-init : goal.loop-next-init
loop-next-init c = going_none _

pub bounds-piece-at : goal.bounds-piece-at
bounds-piece-at c = omega arith

pub overflow_add-next : goal.overflow_add-next
overflow_add-next c = omega (arith, quiet_far c.skip-skipped.ensures.quiet, c.loop-next.invariant.few_stray)

pub loop-next-smaller-then-piece-at-ne-SYNC : goal.loop-next-smaller-then-piece-at-ne-SYNC
loop-next-smaller-then-piece-at-ne-SYNC c =
    let moved = past_moves c.skip-skipped.ensures (omega arith) c.if-piece-at-ne-SYNC.true in
    omega arith

pub loop-next-preserved-then-piece-at-ne-SYNC : goal.loop-next-preserved-then-piece-at-ne-SYNC
loop-next-preserved-then-piece-at-ne-SYNC c =
    going_quiet c.loop-next.invariant (past_quiet c.skip-skipped.ensures.quiet)

pub returns-then-next-ge-MOST : goal.returns-then-next-ge-MOST
returns-then-next-ge-MOST c =
    sought c.loop-next.invariant (stops_left c.if-piece-at-ne-SYNC.false (λ g h. absurd (omega (arith, c.if-next-ge-MOST.true))))

pub see-seen-requires : goal.see-seen-requires
see-seen-requires c = omega arith

pub returns-then-seen-eq0 : goal.returns-then-seen-eq0
returns-then-seen-eq0 c =
    sought c.loop-next.invariant (stops_split c.if-piece-at-ne-SYNC.false (sym c.see-seen.ensures.agree_is ∙ c.if-seen-eq0.true))

pub returns-then-seen : goal.returns-then-seen
returns-then-seen c =
    let p = c.args.piece.now in
    let told = c.see-seen.ensures in
    let voted = voted_of (copies_at p c.loop-next.next.at) (λ e. c.if-seen-eq0.false (told.agree_is ∙ e)) in
    sought c.loop-next.invariant (stops_first c.if-piece-at-ne-SYNC.false (told.word-is voted) (omega (arith, c.if-seen.true)))

pub overflow_add-more : goal.overflow_add-more
overflow_add-more c = omega (arith, c.loop-next.invariant.most)

pub overflow_add-more-else-piece-at-ne-SYNC : goal.overflow_add-more-else-piece-at-ne-SYNC
overflow_add-more-else-piece-at-ne-SYNC c =
    let going = c.loop-next.invariant in
    let e = (goal.at.overflow_add-more-else-piece-at-ne-SYNC c).Else-seen in
    omega (arith, c.see-seen.ensures.agree_is, agreement-few (copies_at (piece e) (at e)), going.few, going.most)

pub overflow_add-more-else-piece-at-ne-SYNC-2 : goal.overflow_add-more-else-piece-at-ne-SYNC-2
overflow_add-more-else-piece-at-ne-SYNC-2 c = omega (arith, decided_far c.see-seen.ensures.between, c.loop-next.invariant.few_stray)

pub alike-next-requires : goal.alike-next-requires
alike-next-requires c = (one_more (goal.at.alike-next-requires c).Else-seen).few

pub loop-next-smaller : goal.loop-next-smaller
loop-next-smaller c =
    let forth : (more (goal.at.loop-next-smaller c).Else-seen).at ≤ c.alike-next.result.at = c.alike-next.ensures.1 in
    omega (arith, whole (goal.at.loop-next-smaller c).Else-seen, decided_far c.see-seen.ensures.between, forth)

pub loop-next-preserved : goal.loop-next-preserved
loop-next-preserved c = c.alike-next.ensures.0 _ (one_more (goal.at.loop-next-preserved c).Else-seen)

pub returns : goal.returns
returns c = sought c.loop-next.invariant (stops_short (omega arith))
