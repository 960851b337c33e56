-- `word72_reading::read_as` meets its contract: bytes whose length suits the form are read in a year of the span, and others refused.
-- Assumes nothing.
use Rattle.std.proofs.Common.{◌≡◌, true, sym, ◌∙◌, length}
use lib.Dec.{T}
use Rattle.word72_items.specs.ItemTable.{suits}
use Rattle.word72_reading.proofs.Bytes.{wrong-length, out-of_span, in_full}
use Rattle.word72_reading.proofs.read_as.Goals as goal
use Rattle.word72_reading.proofs.read_as.Goals.{Else-not-length_suits}

-- past the first test the length suits the form
suiting : (c : Else-not-length_suits) → let a = c.args in suits a.form (length a.bytes.now) ≡ true
suiting c = sym c.length_suits.ensures ∙ c.if-not-length_suits.false

pub returns-then-not-length_suits : goal.returns-then-not-length_suits
returns-then-not-length_suits c = wrong-length _ _ _ (sym c.length_suits.ensures ∙ c.if-not-length_suits.true)

pub returns-then-not-in_span : goal.returns-then-not-in_span
returns-then-not-in_span c =
    out-of_span _ _ _ (suiting (goal.at.returns-then-not-in_span c).Else-not-length_suits)
    (sym c.in_span.ensures ∙ c.if-not-in_span.true)

pub returns : goal.returns
returns c =
    let a = c.args in
    let suits-so : T (suits a.form (length a.bytes.now)) = rw (suiting (goal.at.returns c).Else-not-length_suits) tt in
    in_full _ _ _ _ suits-so (sym c.in_span.ensures ∙ c.if-not-in_span.false) c.read_suited.ensures
