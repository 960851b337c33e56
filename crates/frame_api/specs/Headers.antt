-- What checking and repairing a VCDU header leave in the lent places. Definitions only.
use Rattle.std.specs.Prelude.{◌≡◌, Bool, List, ℕ, Result}
use Rattle.base.specs.Lists.{one}
use Rattle.base.specs.declared.refusal.Refusal.{Refusal}
use Rattle.base.specs.Refusals.{answered, refusal}
use Rattle.vcdu_header.specs.Header.{symbols}
use Rattle.vcdu_header.specs.Answers.{header_lines, repair_lines, changes}
use Rattle.vcdu_header.specs.Promise.{CheckPromise, RepairPromise}

-- `pcd_check_header` returns r; the lent place held old and holds new
pub record CheckCrossed (h : List ℕ) (r old new : ℕ) : Type 0 where
  -- what crosses is an answer of which all that `check` promises holds
  pub checked : Result Bool Refusal
  pub promised : CheckPromise h checked
  pub refusal_is : r ≡ refusal (header_lines h)
  pub word-is : new ≡ answered (λ n. old) (header_lines h) (one promised.word)

-- `pcd_repair_header` returns r; the lent place held old and holds new
pub record RepairCrossed (before after : List ℕ) (r old new : ℕ) : Type 0 where
  pub repaired : Result ℕ Refusal
  pub promised : RepairPromise before after repaired
  pub refusal_is : r ≡ refusal (repair_lines before promised.near)
  pub count-is : new ≡ answered (λ n. old) (repair_lines before promised.near) (changes (symbols before) promised.near)
