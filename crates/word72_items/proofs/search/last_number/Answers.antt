-- `word72_items::search::last_number` meets its contract: the entry of a kind's last place is its greatest number. Assumes nothing.
use mathlib.Core.Path.{◌≡◌, ap, ◌∙◌}
use mathlib.Core.List.{List}
use Prim.Native.Nat.{ℕ, ◌+◌, ◌*◌}
use native.Mathlib.Omega.{arith}
use lib.ListN.{get_or}
use Rattle.word72_items.specs.ItemTable.{entry}
use Rattle.word72_items.proofs.Rule.{few_items}
use Rattle.word72_items.proofs.Found.{last_number_lem}
use Rattle.word72_items.proofs.search.last_number.Goals as goal

pub returns : goal.returns
returns c =
    let k = c.args.kind in
    let is_last : c.from.result ≡ entry k 127 = c.from.ensures ∙ ap (λ (l : List ℕ). get_or l (128 * k + 127) 0) c.requires.1 in
    (omega (arith, last_number_lem k (omega arith)), omega (arith, last_number_lem k (omega arith), few_items k (omega arith)))
