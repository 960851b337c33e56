-- What each public entry promises: its complete answer, refused calls too. The last two fields of each say it in 01's number and values,
-- with no enum on their right sides. Definitions only.
use Rattle.std.specs.Prelude.{◌≡◌, [], ◌∷◌, ℕ, Result}
use Rattle.base.specs.declared.refusal.Refusal.{Refusal}
use Rattle.base.specs.Refusals.{answered, refusal, number_of, values_of}
use Rattle.word72_items.specs.declared.Item.{Item}
use Rattle.word72_items.specs.ItemTable.{count_of_items, item_of, Rule}
use Rattle.word72_items.specs.Answers.{item_lines, count_lines, described, counted}

-- `item_count` of the kind answers r
pub record CountPromise (kind : ℕ) (r : Result ℕ Refusal) : Type 0 where
  pub answer : r ≡ counted kind
  pub refusal_is : number_of r ≡ refusal (count_lines kind)
  pub count-is : values_of r ≡ answered (λ n. []) (count_lines kind) (count_of_items kind ∷ [])

-- `describe` of the kind's item answers r
pub record DescribePromise (kind item : ℕ) (r : Result Item Refusal) : Type 0 where
  -- the table that it is looked up in meets its rule
  pub table-rule : Rule
  pub answer : r ≡ described kind item
  pub refusal_is : number_of r ≡ refusal (item_lines kind item)
  pub item_is : values_of r ≡ answered (λ n. []) (item_lines kind item) (item_of kind item ∷ [])
