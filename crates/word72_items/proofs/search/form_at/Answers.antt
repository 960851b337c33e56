-- `word72_items::search::form_at` meets its contract: the letter read is that of the table of forms. Assumes nothing.
use mathlib.Core.Path.{ap, ◌∙◌}
use mathlib.Core.List.{List}
use Prim.Native.Nat.{ℕ, ◌+◌, ◌*◌}
use lib.ListN.{get_or}
use Rattle.word72_items.specs.CodeTables.{form_of}
use Rattle.word72_items.proofs.search.form_at.Goals as goal

pub returns : goal.returns
returns c =
    c.form_of.ensures ∙ ap (λ (l : List ℕ). form_of (get_or l (128 * c.args.kind + c.args.place) 0)) c.requires.2
