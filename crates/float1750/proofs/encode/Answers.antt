-- `float1750::encode` meets its contract: where it is `Ok` the word that it stored reads as x, and where no word is found nothing does.
-- Its tests take the parts of a word's bit pattern apart (`proofs/Encoding.antt`). Assumes nothing.
use mathlib.Core.Path.{sym, ◌∙◌, subst}
use Prim.Native.Nat.{◌^◌, ◌<◌}
use native.Mathlib.Omega.{arith}
use lib.Dec.{T}
use lib.Ieee.{binary64, fits}
use lib.Ieee.Bits.{to_bits-lt}
use Rattle.std.proofs.Common.{Err}
use Rattle.base.specs.declared.refusal.Refusal.TheVariants.{NoWordForDouble}
use Rattle.float1750.specs.Double.{bits_of}
use Rattle.float1750.proofs.Encoding.{Wordless, unread, nan_unread, ragged, too_low, too_high}
use Rattle.float1750.proofs.Encoding.{sign_bit, magnitude_in, biased_in, Passed, passed-normal, passed-pattern}
use Rattle.float1750.proofs.RoundTrip.{read_back, zero-back}
use Rattle.float1750.proofs.Promises.{Answered, refused, written}
use Rattle.float1750.proofs.encode.Goals as goal
use Rattle.float1750.proofs.encode.Goals.{Else-bits-eq0, Else-level-ge-END_LEVEL, Start}

held : (c : Start) → T (fits binary64 c.args.x)
held c = subst T (sym c.well_formed.0.1) tt

below : (c : Start) → bits_of c.args.x < 2 ^ 64
below c = to_bits-lt binary64 c.args.x (held c)

-- past the test for zero, a refusal leaves only to show that they are no word's
refuses : (c : Else-bits-eq0) → Wordless (bits_of c.args.x) → Answered c.args.x c.args.out.now c.args.out.now (Err NoWordForDouble)
refuses c wordless =
    refused c.args.x c.args.out.now (held (goal.at.Else-bits-eq0 c).Start) c.if-out-ne-WORD_LENGTH.false (unread c.args.x c.if-bits-eq0.false wordless)

-- past all tests they are a word's
passed : (c : Else-level-ge-END_LEVEL) → Passed (bits_of c.args.x)
passed c =
    record { below = below (goal.at.Else-level-ge-END_LEVEL c).Start; even = c.if-rest-ne0.false; low = c.if-units-sign.false; high = c.if-level-ge-END_LEVEL.false }

pub returns-then-is_nan : goal.returns-then-is_nan
returns-then-is_nan c =
    let f = held (goal.at.returns-then-is_nan c).Start in
    let none = nan_unread c.args.x (sym c.is_nan.ensures.value ∙ c.if-is_nan.true) in
    let p = refused c.args.x c.args.out.now f c.if-out-ne-WORD_LENGTH.false none in
    record { answer = p.answer; promise = p.promise }

pub returns-then-bits-eq0 : goal.returns-then-bits-eq0
returns-then-bits-eq0 c =
    let back = zero-back c.args.x (held (goal.at.returns-then-bits-eq0 c).Start) c.if-bits-eq0.true in
    let six = c.if-out-ne-WORD_LENGTH.false in
    let p = written c.args.x c.args.out.now six 0 128 (omega arith) (omega arith) _ (c.copy_from_slice.ensures.after ∙ c.word_of.ensures) back in
    record { answer = p.answer; promise = p.promise }

pub returns-then-rest-ne0 : goal.returns-then-rest-ne0
returns-then-rest-ne0 c =
    let no = ragged (bits_of c.args.x) c.if-rest-ne0.true in
    let p = refuses (goal.at.returns-then-rest-ne0 c).Else-bits-eq0 no in
    record { answer = p.answer; promise = p.promise }

pub overflow_add-sign : goal.overflow_add-sign
overflow_add-sign c = omega (arith, below (goal.at.overflow_add-sign c).Start)

pub returns-then-units-sign : goal.returns-then-units-sign
returns-then-units-sign c =
    let no = too_low (bits_of c.args.x) c.if-units-sign.true in
    let p = refuses (goal.at.returns-then-units-sign c).Else-bits-eq0 no in
    record { answer = p.answer; promise = p.promise }

pub returns-then-level-ge-END_LEVEL : goal.returns-then-level-ge-END_LEVEL
returns-then-level-ge-END_LEVEL c =
    let no = too_high (bits_of c.args.x) c.if-level-ge-END_LEVEL.true in
    let p = refuses (goal.at.returns-then-level-ge-END_LEVEL c).Else-bits-eq0 no in
    record { answer = p.answer; promise = p.promise }

pub twos_complement-requires : goal.twos_complement-requires
twos_complement-requires c =
    let N = passed-normal _ (passed (goal.at.twos_complement-requires c).Else-level-ge-END_LEVEL) in
    (omega (arith, N.least), omega (arith, N.bit, N.most))

pub returns : goal.returns
returns c =
    let b = bits_of c.args.x in
    let P = passed (goal.at.returns c).Else-level-ge-END_LEVEL in
    let N = passed-normal b P in
    let m = c.twos_complement.ensures in
    let f = held (goal.at.returns c).Start in
    let back = read_back c.args.x f (sign_bit b) (magnitude_in b) (biased_in b) N (passed-pattern b P) in
    let six = c.if-out-ne-WORD_LENGTH.false in
    let p = written c.args.x c.args.out.now six _ (biased_in b) m.1 N.byte _ (c.copy_from_slice-2.ensures.after ∙ c.word_of-2.ensures) (rw m.0 back) in
    record { answer = p.answer; promise = p.promise }
