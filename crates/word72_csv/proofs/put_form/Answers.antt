-- `word72_csv::put_form` meets its contract: the word is the line of the table. Assumes nothing.
use Rattle.word72_csv.proofs.Laws.{form_line_lem}
use Rattle.word72_csv.proofs.put_form.Goals as goal

pub returns : goal.returns
returns c = rw (form_line_lem c.args.form, ← c.form_line.ensures, ← c.line.ensures) c.put.ensures
