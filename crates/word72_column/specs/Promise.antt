-- What each public entry promises: its complete answer and every lent byte, refused calls too. The last two fields of `KindPromise` say the
-- answer in the papers' number and kind, with no enum on their right sides. Definitions only.
use Rattle.std.specs.Prelude.{◌≡◌, List, [], ◌∷◌, ℕ, Result}
use Rattle.base.specs.declared.refusal.Refusal.{Refusal}
use Rattle.base.specs.Refusals.{answered, refusal, number_of, values_of}
use Rattle.word72_column.specs.Columns.{gather_lines, gather_after, kind_of, kind_lines, column_kind}

-- `gather` of the area into the column answers with the number r and leaves new
pub record GatherPromise (area column new : List ℕ) (r : ℕ) : Type 0 where
  pub answer : r ≡ refusal (gather_lines area column)
  pub after : new ≡ gather_after area column

-- `kind` of the column, recorded in the year y, answers r
pub record KindPromise (y : ℕ) (column : List ℕ) (r : Result ℕ Refusal) : Type 0 where
  pub answer : r ≡ column_kind y column
  pub refusal_is : number_of r ≡ refusal (kind_lines y column)
  pub kind_is : values_of r ≡ answered (λ n. []) (kind_lines y column) (kind_of column ∷ [])
