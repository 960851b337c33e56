-- `float1750::decode` meets its contract: its m and e + 128 are those of the six bytes, and each return gives what they read as, by the law of
-- its case. All that is promised beyond the answer follows from it. Assumes nothing.
use mathlib.Core.Path.{refl, sym}
use native.Mathlib.Omega.{arith}
use Rattle.float1750.proofs.Decoding.{wrong-length, zero-answer, number-answer, refused-answer}
use Rattle.float1750.proofs.Promises.{decode_promise}
use Rattle.float1750.proofs.decode.Goals as goal

pub returns-in_default : goal.returns-in_default
returns-in_default c =
    let w = c.args.bytes.now in
    decode_promise w (λ i. (c.type_inv.bytes i).fits) _ (wrong-length w c.in_default.ensures.1)

pub returns-then-m-word : goal.returns-then-m-word
returns-then-m-word c =
    let w = c.args.bytes.now in
    let word = c.in-Ok.ensures.1 in
    let M = rw word.same at c.mantissa-m.ensures.0 in
    decode_promise w (λ i. (c.type_inv.bytes i).fits) _
    (sym (zero-answer w word.long c.mantissa-m.result _ M refl (rw word.same at c.if-m-word.true)))

pub returns-in-1 : goal.returns-in-1
returns-in-1 c =
    let w = c.args.bytes.now in
    let word = c.in-Ok.ensures.1 in
    let M = rw word.same at c.mantissa-m.ensures.0 in
    let R = rw word.same at c.biased_exponent-biased.ensures.0 in
    decode_promise w (λ i. (c.type_inv.bytes i).fits) _
    (sym (number-answer w word.long _ _ M R 0 (omega arith) c.in-1.is c.double.result c.double.ensures))

pub returns-in-2 : goal.returns-in-2
returns-in-2 c =
    let w = c.args.bytes.now in
    let word = c.in-Ok.ensures.1 in
    let M = rw word.same at c.mantissa-m.ensures.0 in
    let R = rw word.same at c.biased_exponent-biased.ensures.0 in
    decode_promise w (λ i. (c.type_inv.bytes i).fits) _
    (sym (number-answer w word.long _ _ M R 1 (omega arith) c.in-2.is c.double-in-2.result c.double-in-2.ensures))

pub returns-in_default-first_two : goal.returns-in_default-first_two
returns-in_default-first_two c =
    let w = c.args.bytes.now in
    let word = c.in-Ok.ensures.1 in
    let M = rw word.same at c.mantissa-m.ensures.0 in
    let R = rw word.same at c.biased_exponent-biased.ensures.0 in
    let x = c.in_default-first_two in
    decode_promise w (λ i. (c.type_inv.bytes i).fits) _
    (sym (refused-answer w word.long _ _ M R (rw word.same at c.if-m-word.false) (λ h. omega arith) (λ h. omega arith)))
