-- A field's bytes one by one: whether one needs quotes, and what is put within them. Assumes nothing.
use Rattle.std.specs.List.{list_any}
use Rattle.std.proofs.Common.{not, ◌&&◌, ◌||◌}
use mathlib.Core.Path.{◌≡◌, refl}
use mathlib.Core.Bool.{Bool, true, false}
use mathlib.Core.List.{List, [], ◌∷◌, append-nil}
use Prim.Native.Nat.{ℕ, ◌+◌, ◌<◌}
use native.Mathlib.Numerals.{add-one}
use lib.ListN.{length, take, get_or}
use lib.Seq.{take-suc}
use Rattle.base.proofs.Lists.{concat_map-append}
use Rattle.io.specs.Counts.{IsPrefixLen}
use Rattle.command.specs.Text.{Adds}
use Rattle.csv_fields.specs.Fields.{is_special, is_plain, quoted, doubled}
use Rattle.command.proofs.TextLaws.{adds_append, adds_within}

module _ (text : List ℕ) (i : ℕ) (h : i < length text) where
  -- one byte more within quotes
  pub doubles_one_more : {old mid new : List ℕ} {a b c : ℕ} → Adds old a (doubled (take i text)) mid b → Adds mid b (quoted (get_or text i 0)) new c
      → Adds old a (doubled (take (i + 1) text)) new c
  unfolding doubled
  doubles_one_more p q =
      rw (add-one, take-suc text i 0 h, concat_map-append, append-nil) (adds_append p q)

-- a field needs no quotes where no byte of it does
pub plain_any : (bs : List ℕ) → not (list_any is_special bs) ≡ is_plain bs
unfolding is_plain
plain_any [] = refl
plain_any (b ∷ bs) = go (is_special b) (plain_any bs)
  where
    go : (s : Bool) → not (list_any is_special bs) ≡ is_plain bs → not (s || list_any is_special bs) ≡ (not s && is_plain bs)
    go true e = refl
    go false e = e

pub doubles_none : {new : List ℕ} {b : ℕ} → IsPrefixLen b new → (text : List ℕ) → Adds new b (doubled (take 0 text)) new b
unfolding doubled
doubles_none {new} {b} p text = adds_within new b p.0
