use mathlib.Core.Path.{◌≡◌}
use Prim.Native.Nat.{◌+◌, ◌<◌}
use native.Mathlib.Omega.{arith}
use Rattle.nominal.proofs.Joining.{one-group, stored-none, stored_more}
use Rattle.nominal.proofs.row.put_row.Goals as goal

pub words_of-words-requires : goal.words_of-words-requires
words_of-words-requires c = omega (arith, (c.requires.0 15 (omega arith)).third.inside)

pub loop-k-init : goal.loop-k-init
loop-k-init c =
    let a = c.args in
    let none : a.at + 0 ≡ a.at = omega arith in
    let none' : a.start + 0 ≡ a.start = omega arith in
    (omega arith, rw (none, none') (stored-none a.at a.start a.frame.now))

pub bounds-words-k : goal.bounds-words-k
bounds-words-k c = omega arith

pub overflow_add-frame : goal.overflow_add-frame
overflow_add-frame c = omega arith

pub bounds-frame-start : goal.bounds-frame-start
bounds-frame-start c = omega arith

pub overflow_add-k : goal.overflow_add-k
overflow_add-k c = omega arith

pub loop-k-smaller : goal.loop-k-smaller
loop-k-smaller c = omega arith

pub loop-k-preserved : goal.loop-k-preserved
loop-k-preserved c =
    let k = c.loop-k.k in
    let few : k < 16 = omega arith in
    let more = stored_more 4 c.args.at c.args.start k (omega arith) c.loop-k.invariant.1 (one-group (c.requires.0 k few)) in
    (omega arith, rw (c.words_of-words.ensures.word-is k few) more)

pub returns : goal.returns
returns c =
    let l = c.loop-k in
    let whole : l.k ≡ 16 = omega arith in
    rw whole at l.invariant.1
