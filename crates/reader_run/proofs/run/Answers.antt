use native.Mathlib.Omega.{arith}
use mathlib.Core.Path.{refl, sym, ◌∙◌}
use Rattle.labelling.specs.Votes.{rule_vote}
use Rattle.reader_run.specs.Onward.{from}
use Rattle.reader_run.proofs.Onward.{call-begins, call_ends, onward-ends, onward-more, onward-begun}
use Rattle.reader_run.proofs.run.Goals as goal

pub loop-i-init : goal.loop-i-init
loop-i-init c = record { so_far = refl; begun = c.requires.0; area_length = c.requires.1 }

pub advance-s-requires : goal.advance-s-requires
advance-s-requires c = (c.loop-i.invariant.begun, c.loop-i-test.true, c.loop-i.invariant.area_length)

pub returns-then-stops : goal.returns-then-stops
returns-then-stops c =
    let a = c.args in
    sym
    (call-begins (rule_vote a.rule) a.stop a.piece.now (from 0 a.l a.frame.now a.area.now) refl
    ∙ c.loop-i.invariant.so_far ∙ onward-ends c.advance-s.ensures.onward a.stop (sym c.stops.ensures ∙ c.if-stops.true))

pub loop-i-smaller : goal.loop-i-smaller
loop-i-smaller c =
    let x = c.advance-s in
    omega (arith, x.ensures.moves, x.ensures.onward.within)

pub loop-i-preserved : goal.loop-i-preserved
loop-i-preserved c =
    let a = c.args in
    let x = c.advance-s in
    record {
      so_far = c.loop-i.invariant.so_far ∙ onward-more x.ensures.onward a.stop (sym c.stops.ensures ∙ c.if-stops.false);
      begun = onward-begun x.ensures.onward c.loop-i.invariant.begun;
      area_length = x.auto.area ∙ c.loop-i.invariant.area_length;
    }

pub returns : goal.returns
returns c =
    let k = c.loop-i in
    let a = c.args in
    let p = a.piece.now in
    let vote = rule_vote a.rule in
    sym
    (call-begins vote a.stop p (from 0 a.l a.frame.now a.area.now) refl ∙ k.invariant.so_far
    ∙ call_ends vote a.stop p (from k.i k.next k.frame k.area) (omega arith))
