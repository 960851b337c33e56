-- `word72_items::describe` meets its contract: the item's first place and the place past it are what two searches of the table find.
-- Assumes nothing.
use mathlib.Core.Path.{refl}
use Prim.Native.Nat.{◌<◌}
use native.Mathlib.Omega.{arith}
use Rattle.word72_items.specs.ItemTable.{count_of_items, items}
use Rattle.word72_items.specs.CodeTables.{forms}
use Rattle.word72_items.specs.Layout.{table17, table18, table19, table20}
use Rattle.word72_items.proofs.Answers.{describe_refused_6, describe_refused_7, describe_found}
use Rattle.word72_items.proofs.Rule.{few_items}
use Rattle.word72_items.proofs.Found.{no_such, is_item, item_is}
use Rattle.word72_items.proofs.describe.Goals as goal

pub returns-then-kind-gt-LAST_KIND : goal.returns-then-kind-gt-LAST_KIND
returns-then-kind-gt-LAST_KIND c =
    let a = c.args in
    describe_refused_6 a.kind a.item c.if-kind-gt-LAST_KIND.true

pub seek-first-requires : goal.seek-first-requires
unfolding items table17 table18 table19 table20
seek-first-requires c = (omega arith, refl)

pub returns-then-first-eq-PLACES : goal.returns-then-first-eq-PLACES
returns-then-first-eq-PLACES c =
    let a = c.args in
    let s = c.seek-first in
    let none : a.item < count_of_items a.kind → ⊥ = λ h. no_such a.kind a.item (omega arith) h (rw c.if-first-eq-PLACES.true at s.ensures) in
    describe_refused_7 a.kind a.item (omega arith) (omega arith)

pub overflow_add-item : goal.overflow_add-item
overflow_add-item c =
    let a = c.args in
    let s = c.seek-first in
    let n = is_item a.kind a.item s.result (omega arith) s.ensures (omega arith) in
    record { fits = omega (arith, few_items a.kind (omega arith)) }

pub seek-end-requires : goal.seek-end-requires
unfolding items table17 table18 table19 table20
seek-end-requires c = (omega arith, refl)

pub form_at-form-requires : goal.form_at-form-requires
unfolding forms table17 table18 table19 table20
form_at-form-requires c = (omega arith, omega arith, refl)

pub returns : goal.returns
returns c =
    let a = c.args in
    let s = c.seek-first in
    describe_found a.kind a.item _ (omega arith) (is_item a.kind a.item s.result (omega arith) s.ensures (omega arith))
    (item_is a.kind a.item s.result (omega arith) s.ensures (omega arith) _ c.seek-end.ensures _ c.form_at-form.ensures)
