-- What an item is and how many a kind has, as answered (01, "Word 72 and its items" and "Refusal numbers"). Definitions only.
use Rattle.std.specs.Prelude.{List, [], ◌∷◌, ℕ, leb, ltb, Result, Ok, Err}
use Rattle.base.specs.declared.refusal.Refusal.{Refusal}
use Rattle.base.specs.declared.refusal.Refusal.TheVariants.{NoSuchKind, NoSuchItem}
use Rattle.base.specs.Refusals.{Line, ◌when◌, answered}
use Rattle.word72_items.specs.declared.Item.{Item}
use Rattle.word72_items.specs.ItemTable.{last_kind, count_of_items, item_of}

-- 01's lines that concern an item of a kind, and those that concern a kind
abbrev pub item_lines : ℕ → ℕ → List Line
item_lines kind item = NoSuchKind when ltb last_kind kind ∷ NoSuchItem when leb (count_of_items kind) item ∷ []

abbrev pub count_lines : ℕ → List Line
count_lines kind = NoSuchKind when ltb last_kind kind ∷ []

unfoldable pub described : ℕ → ℕ → Result Item Refusal
described kind item = answered Err (item_lines kind item) (Ok (item_of kind item))

unfoldable pub counted : ℕ → Result ℕ Refusal
counted kind = answered Err (count_lines kind) (Ok (count_of_items kind))
