-- `word72_items::item_count` meets its contract: a kind's items are numbered from 0, so that there is one more than the last number.
-- Assumes nothing.
use mathlib.Core.Path.{refl}
use native.Mathlib.Omega.{arith}
use Rattle.word72_items.specs.ItemTable.{items}
use Rattle.word72_items.specs.Layout.{table17, table18, table19, table20}
use Rattle.word72_items.proofs.Answers.{count-refused, count-given}
use Rattle.word72_items.proofs.item_count.Goals as goal

pub returns-then-kind-gt-LAST_KIND : goal.returns-then-kind-gt-LAST_KIND
returns-then-kind-gt-LAST_KIND c = count-refused c.args.kind c.if-kind-gt-LAST_KIND.true

pub last_number-requires : goal.last_number-requires
unfolding items table17 table18 table19 table20
last_number-requires c = (omega arith, refl)

pub returns : goal.returns
returns c = count-given c.args.kind _ (omega arith) c.last_number.ensures.0
