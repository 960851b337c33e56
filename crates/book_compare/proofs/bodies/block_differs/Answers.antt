use mathlib.Core.Path.{◌≡◌, sym, ◌∙◌}
use mathlib.Core.Bool.{true, false}
use native.Mathlib.Omega.{arith}
use borrow.Author.Count.{below_more}
use Rattle.book_compare.proofs.bodies.block_differs.Goals as goal
use Rattle.book_compare.proofs.bodies.block_differs.Goals.{then-c-at, else-c-at}

pub loop-k-preserved : goal.loop-k-preserved
loop-k-preserved c =
    elim c.if-c-at.branch [
      | then-c-at w ↦ (omega arith, λ e. let z : true ≡ false = sym w.differs-is ∙ e in cc)
      | else-c-at w ↦ (omega arith, λ e. below_more _ _ (c.loop-k.invariant.1 (sym w.differs-is ∙ e)) w.if-c-at.false)
    ]

pub returns : goal.returns
returns c = λ e m h. c.loop-k.invariant.1 e m (omega arith)
