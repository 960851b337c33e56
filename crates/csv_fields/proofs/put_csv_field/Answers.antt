-- `csv_fields::put_csv_field` meets its contract: as it is, or in quotes. Assumes nothing.
use Rattle.std.proofs.Common.{◌≡◌, sym, ap, ◌∙◌, true, false, not}
use Rattle.command.proofs.TextLaws.{adds_append}
use Rattle.csv_fields.specs.Fields.{is_plain}
use Rattle.csv_fields.proofs.Laws.{plain_any}
use Rattle.csv_fields.proofs.put_csv_field.Goals as goal

pub returns-then-not-is_quoted : goal.returns-then-not-is_quoted
returns-then-not-is_quoted c =
    let plain : is_plain c.args.text.now ≡ true = sym (plain_any c.args.text.now) ∙ ap not (sym c.is_quoted.ensures ∙ c.if-not-is_quoted.true) in
    rw plain c.put.ensures

pub returns : goal.returns
returns c =
    let special : is_plain c.args.text.now ≡ false = sym (plain_any c.args.text.now) ∙ ap not (sym c.is_quoted.ensures ∙ c.if-not-is_quoted.false) in
    rw special (adds_append (adds_append c.put_byte-begun.ensures c.put_doubled-inside.ensures) c.put_byte.ensures)
