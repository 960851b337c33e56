-- The promises of `item_count` and `describe`, from the answer that the code gives on each way out, and what an answer of `describe` tells.
-- What they say beyond the answer follows from the definitions alone. Assumes nothing.
use Rattle.std.proofs.Common.{◌≡◌, ap, sym, ◌∙◌, ℕ, ◌≤◌, ◌<◌, Result, Ok, Err, arith}
use borrow.Author.Tests.{lt-ltb, le-ltb, le-leb, lt-leb, ltb-false, leb-false}
use Rattle.base.specs.declared.refusal.Refusal.{Refusal}
use Rattle.base.specs.declared.refusal.Refusal.TheVariants.{NoSuchKind, NoSuchItem}
use Rattle.base.specs.Refusals.{answered}
use Rattle.base.proofs.Lines.{answered-of, ok-none, told}
use Rattle.word72_items.specs.declared.Item.{Item}
use Rattle.word72_items.specs.ItemTable.{count_of_items, item_of}
use Rattle.word72_items.specs.Answers.{item_lines, count_lines, described, counted}
use Rattle.word72_items.specs.Promise.{CountPromise, DescribePromise}
use Rattle.word72_items.proofs.Rule.{rule, Sound, item_sound}

-- ---- item_count
module _ (kind : ℕ) where
  count-promise : (r : Result ℕ Refusal) → r ≡ counted kind → CountPromise kind r
  unfolding counted
  count-promise r e =
      let t = told (count_lines kind) (count_of_items kind) r e in
      record { answer = e; refusal_is = t.refusal_is; count-is = t.value-is }

  pub count-refused : 3 < kind → CountPromise kind (Err NoSuchKind)
  unfolding counted
  count-refused h = count-promise _ (rw (lt-ltb 3 kind h))

  pub count-given : (n : ℕ) → kind ≤ 3 → n ≡ count_of_items kind → CountPromise kind (Ok n)
  unfolding counted
  count-given n h e = count-promise _ (rw (le-ltb 3 kind h, e))

-- ---- describe
module _ (kind item : ℕ) where
  describe_promise : (r : Result Item Refusal) → r ≡ described kind item → DescribePromise kind item r
  unfolding described
  describe_promise r e =
      let t = told (item_lines kind item) (item_of kind item) r e in
      record { table-rule = rule; answer = e; refusal_is = t.refusal_is; item_is = t.value-is }

  pub describe_refused_6 : 3 < kind → DescribePromise kind item (Err NoSuchKind)
  unfolding described
  describe_refused_6 h = describe_promise _ (rw (lt-ltb 3 kind h))

  pub describe_refused_7 : kind ≤ 3 → count_of_items kind ≤ item → DescribePromise kind item (Err NoSuchItem)
  unfolding described
  describe_refused_7 h l = describe_promise _ (rw (le-ltb 3 kind h, le-leb (count_of_items kind) item l))

  pub describe_found : (i : Item) → kind ≤ 3 → item < count_of_items kind → i ≡ item_of kind item → DescribePromise kind item (Ok i)
  unfolding described
  describe_found i h l e = describe_promise _ (rw (le-ltb 3 kind h, lt-leb (count_of_items kind) item l, e))

  -- an item that is found is the one asked for, and lies within the column with the length that its form asks for
  pub record Told (i : Item) : Type 0 where
    pub is_item : i ≡ item_of kind item
    pub sound : Sound i

  pub to-told : (i : Item) → DescribePromise kind item (Ok i) → Told i
  unfolding described
  to-told i p =
      let n = ok-none (item_lines kind item) (item_of kind item) i (sym p.answer) in
      let low : kind ≤ 3 = ltb-false 3 kind n.0.0 in
      let S = item_sound kind item (omega arith) (leb-false (count_of_items kind) item n.0.1.0) in
      record { is_item = sym n.1; sound = rw (sym n.1) S }

  -- what goes on from an answer of `describe`: its refusal, or what is given for the item
  module _ {A : Type 0} (refused : Refusal → A) (given : A) where
    abbrev pub onward : Result Item Refusal → A
    onward (Ok i) = given
    onward (Err n) = refused n

    pub onward-is : (r : Result Item Refusal) → DescribePromise kind item r → onward r ≡ answered refused (item_lines kind item) given
    unfolding described
    onward-is r p = ap onward p.answer ∙ answered-of onward Err (item_lines kind item) (Ok (item_of kind item))
