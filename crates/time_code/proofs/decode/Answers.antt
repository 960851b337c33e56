-- `time_code::decode` meets its contract: each way out gives what the bytes read as. All that is promised beyond it follows from it.
-- Assumes nothing.
use mathlib.Core.Path.{◌≡◌, sym, ◌∙◌}
use mathlib.Core.Bool.{true}
use native.Mathlib.Omega.{arith}
use Rattle.time_code.specs.Calendar.{in_span}
use Rattle.time_code.proofs.Codes.{wrong-length, out-of_span, out_of_range, accepted}
use Rattle.time_code.proofs.Promises.{decode_promise}
use Rattle.time_code.proofs.decode.Goals as goal
use Rattle.time_code.proofs.decode.Goals.{Else-not-in_span}

-- past the second test the year is in the span
spanned : (c : Else-not-in_span) → in_span c.args.year ≡ true
spanned c = sym c.in_span.ensures ∙ c.if-not-in_span.false

pub returns-in_default : goal.returns-in_default
returns-in_default c =
    let w = c.args.bytes.now in
    decode_promise c.args.year w _ (omega (arith, c.type_inv.bytes 0)) (sym (wrong-length c.args.year w c.in_default.ensures.1))

pub returns-then-not-in_span : goal.returns-then-not-in_span
returns-then-not-in_span c =
    let w = c.args.bytes.now in
    let outside = sym c.in_span.ensures ∙ c.if-not-in_span.true in
    let seven = c.in-Ok.ensures.1.long in
    decode_promise c.args.year w _ (omega (arith, c.type_inv.bytes 0)) (sym (out-of_span c.args.year w seven outside))

pub returns-then-not-is_time : goal.returns-then-not-is_time
returns-then-not-is_time c =
    let w = c.args.bytes.now in
    let code = c.in-Ok.ensures.1 in
    let span = spanned (goal.at.returns-then-not-is_time c).Else-not-in_span in
    let tested = rw code.same at c.is_time.ensures in
    decode_promise c.args.year w _ (omega (arith, c.type_inv.bytes 0))
    (sym (out_of_range c.args.year w code.long span c.is_time.result tested c.if-not-is_time.true))

pub returns : goal.returns
returns c =
    let w = c.args.bytes.now in
    let code = c.in-Ok.ensures.1 in
    let span = spanned (goal.at.returns c).Else-not-in_span in
    let tested = rw code.same at c.is_time.ensures in
    let craft = rw code.same at c.high.ensures.0 in
    let instant = rw code.same at c.instant.ensures in
    decode_promise c.args.year w _ (omega (arith, c.type_inv.bytes 0))
    (accepted c.args.year w code.long span c.is_time.result _ _ tested c.if-not-is_time.false craft instant)
