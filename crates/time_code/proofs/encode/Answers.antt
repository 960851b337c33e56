-- `time_code::encode` meets its contract: the two last ways out are those of the promise. Assumes nothing.
use mathlib.Core.Path.{◌≡◌, sym, ◌∙◌, subst}
use mathlib.Core.Bool.{true}
use lib.Dec.{T}
use Rattle.time_code.specs.Calendar.{in_span}
use Rattle.time_code.specs.Codec.{has_code}
use Rattle.time_code.proofs.Codes.{code_fits}
use Rattle.time_code.proofs.Promises.{no_such_code, written}
use Rattle.time_code.proofs.encode.Goals as goal
use Rattle.time_code.proofs.encode.Goals.{Else-not-in_span}

-- past the second test the year is in the span
spanned : (c : Else-not-in_span) → in_span c.args.year ≡ true
spanned c = sym c.in_span.ensures ∙ c.if-not-in_span.false

pub returns-then-not-has_code-clause-promise : goal.returns-then-not-has_code-clause-promise
returns-then-not-has_code-clause-promise c =
    let a = c.args in
    no_such_code a.year a.t a.out.now c.if-out-ne-CODE_LENGTH.false
    (spanned (goal.at.returns-then-not-has_code-clause-promise c).Else-not-in_span) (sym c.has_code.ensures ∙ c.if-not-has_code.true)

pub returns-clause-promise : goal.returns-clause-promise
returns-clause-promise c =
    let a = c.args in
    let coded : has_code a.year a.t ≡ true = sym c.has_code.ensures ∙ c.if-not-has_code.false in
    let fit = code_fits a.year a.t (subst T (sym coded) tt) a.out.now c.if-out-ne-CODE_LENGTH.false in
    written a.year a.t a.out.now c.if-out-ne-CODE_LENGTH.false
    (spanned (goal.at.returns-clause-promise c).Else-not-in_span) c.put.new.out coded (c.put.ensures ∙ sym fit)
