use mathlib.Core.Path.{◌≡◌, sym}
use native.Mathlib.Omega.{arith}
use Rattle.voted.proofs.Lanes.{copied_none, copied_more}
use Rattle.voted.proofs.blocks.put.Goals as goal

pub loop-k-init : goal.loop-k-init
loop-k-init c =
    let a = c.args in
    (omega arith, sym (copied_none a.frame.now a.start a.words.now))

pub bounds-words-k : goal.bounds-words-k
bounds-words-k c = omega arith

pub overflow_add-frame : goal.overflow_add-frame
overflow_add-frame c = omega arith

pub bounds-frame-start : goal.bounds-frame-start
bounds-frame-start c = omega arith

pub overflow_add-k : goal.overflow_add-k
overflow_add-k c = omega arith

pub loop-k-smaller : goal.loop-k-smaller
loop-k-smaller c = omega arith

pub loop-k-preserved : goal.loop-k-preserved
loop-k-preserved c =
    let l = c.loop-k in
    let a = c.args in
    (omega arith, rw l.invariant.1 (sym (copied_more a.frame.now a.start a.words.now l.k)))

pub returns : goal.returns
returns c =
    let l = c.loop-k in
    let all : l.k ≡ c.args.n = omega arith in
    rw (← all) l.invariant.1
