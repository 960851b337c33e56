-- `pcd_book_check::verdict::report` meets its contract. Assumes nothing.
use mathlib.Core.Path.{sym, ◌∙◌}
use mathlib.Core.Bool.{true≢false}
use Prim.Native.Nat.{ℕ}
use lib.ListN.{length-replicate}
use Rattle.pcd_book_check.proofs.Laws.{yes_accepted}
use Rattle.pcd_book_check.proofs.verdict.report.Goals as goal

pub slice_bounds-show_line-end : goal.slice_bounds-show_line-end
slice_bounds-show_line-end g c = sym (length-replicate {A = ℕ} 4608 0)

pub returns-then-show_line : goal.returns-then-show_line
returns-then-show_line g c = λ yes. sym c.check-verdict.ensures.answer ∙ yes_accepted _ (sym c.is_yes.ensures ∙ yes)

pub returns : goal.returns
returns g c = λ yes. absurd (true≢false (sym yes))
