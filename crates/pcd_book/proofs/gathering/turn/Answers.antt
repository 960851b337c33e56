-- `pcd_book::gathering::turn` meets its contract: whether a cycle comes, is added or is left out, the frames of one more have room. Assumes nothing.
use mathlib.Core.Path.{sym, ◌∙◌}
use native.Mathlib.Omega.{arith}
use borrow.Author.Tests.{not-false}
use Rattle.pcd_book.proofs.Laws.{ended_turn, left-turn, added_turn}
use Rattle.pcd_book.proofs.gathering.turn.Goals as goal

pub returns-then-not-read : goal.returns-then-not-read
returns-then-not-read g c =
    let read = c.next_cycle-read in
    ended_turn c.args.year c.args.bodies.now read.new.area c.args.s _ c.requires read.auto.area
    c.ended.ensures

pub returns-then-not-rises : goal.returns-then-not-rises
returns-then-not-rises g c =
    let read = c.next_cycle-read in
    left-turn c.args.year c.args.bodies.now read.new.area c.args.s _ c.requires read.auto.area
    c.left_out.ensures (read.ensures.further (not-false _ c.if-not-read.false))

pub returns-then-room-end-lt-CYCLE : goal.returns-then-room-end-lt-CYCLE
returns-then-room-end-lt-CYCLE g c =
    let read = c.next_cycle-read in
    left-turn c.args.year c.args.bodies.now read.new.area c.args.s _ c.requires read.auto.area
    c.left_out-then-room-end-lt-CYCLE.ensures (read.ensures.further (not-false _ c.if-not-read.false))

pub returns : goal.returns
returns g c =
    let read = c.next_cycle-read in
    let whole = not-false _ c.if-not-read.false in
    added_turn c.args.year c.args.bodies.now read.new.area c.args.s _ c.requires read.auto.area _
    (read.ensures.is_cycle_fact whole) c.instant-instant.ensures (sym c.rises.ensures ∙ c.if-not-rises.false)
    c.added.ensures (omega (arith, c.if-room-end-lt-CYCLE.false)) (read.ensures.further whole)
