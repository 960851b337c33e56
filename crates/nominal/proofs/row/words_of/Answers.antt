use mathlib.Core.Path.{refl, ◌∙◌}
use Prim.Native.Nat.{◌<◌}
use native.Mathlib.Omega.{arith}
use lib.ListN.{length, length-set}
use Rattle.nominal.proofs.Digits.{second-digit}
use Rattle.nominal.proofs.Rows.{words_more}
use Rattle.nominal.proofs.row.words_of.Goals as goal

pub loop-k-init : goal.loop-k-init
loop-k-init c = (omega arith, refl, λ m h. absurd (omega arith))

pub overflow_mul-k : goal.overflow_mul-k
overflow_mul-k c = omega arith

pub overflow_add-at : goal.overflow_add-at
overflow_add-at c = omega arith

pub four-requires : goal.four-requires
four-requires c = omega arith

pub second_byte-requires : goal.second_byte-requires
second_byte-requires c = tt

pub bounds-words-k : goal.bounds-words-k
bounds-words-k c = omega arith

pub overflow_add-k : goal.overflow_add-k
overflow_add-k c = omega arith

pub loop-k-smaller : goal.loop-k-smaller
loop-k-smaller c = omega arith

pub loop-k-preserved : goal.loop-k-preserved
loop-k-preserved c =
    let a = c.args in
    let l = c.loop-k in
    let word = c.second_byte.ensures ∙ second-digit c.four.ensures in
    let long : l.k < length l.words = omega arith in
    (omega arith, length-set l.words l.k _ ∙ l.invariant.1, words_more a.piece.now a.at l.words l.k _ long l.invariant.2 word)

pub returns : goal.returns
returns c =
    let l = c.loop-k in
    record { sixteen = l.invariant.1; word-is = λ m h. l.invariant.2 m (omega arith) }
