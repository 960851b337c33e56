-- What the data pointer's entries leave in the lent place. Definitions only.
use Rattle.std.specs.Prelude.{◌≡◌, List, ℕ}
use Rattle.base.specs.Refusals.{Line, answered, refusal}

-- an entry whose lines are these, and which gives v where none of them holds, returns r; its lent place held old and holds new
pub record PointerCrossed (lines : List Line) (v r old new : ℕ) : Type 0 where
  pub refusal_is : r ≡ refusal lines
  pub value-is : new ≡ answered (λ n. old) lines v
