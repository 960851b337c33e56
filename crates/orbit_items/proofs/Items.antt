-- The records' places are items of tables 17 to 20: the checker computes them. Assumes nothing.
use mathlib.Core.Path.{refl}
use Rattle.word72_items.specs.ItemTable.{layout, items}
use Rattle.word72_items.specs.Layout.{table17, table18, table19, table20}
use Rattle.orbit_items.specs.Items.{Items}

pub records_are_items : Items
unfolding layout items table17 table18 table19 table20
records_are_items = record { parameters = refl; components = refl; temperatures = refl; drifts = refl; update = refl; terms = refl }
