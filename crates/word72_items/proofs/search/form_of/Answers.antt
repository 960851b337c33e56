-- `word72_items::search::form_of` meets its contract: each letter is that of its form, and any other is fill's. Assumes nothing.
use Rattle.word72_items.proofs.search.form_of.Goals as goal

pub returns-in-99 : goal.returns-in-99
returns-in-99 c = rw c.in-99.is

pub returns-in-119 : goal.returns-in-119
returns-in-119 c = rw c.in-119.is

pub returns-in-102 : goal.returns-in-102
returns-in-102 c = rw c.in-102.is

pub returns-in-110 : goal.returns-in-110
returns-in-110 c = rw c.in-110.is

pub returns-in-116 : goal.returns-in-116
returns-in-116 c = rw c.in-116.is
