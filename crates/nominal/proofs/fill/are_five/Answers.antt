-- `nominal::fill::are_five` meets its contract: four FILL are one number, then a fifth, and another byte. Assumes nothing.
use mathlib.Core.Path.{refl, sym}
use mathlib.Core.Bool.{true≢false}
use Prim.Native.Nat.{◌+◌}
use native.Mathlib.Omega.{arith}
use borrow.Author.Tests.{eqb-false, not-true}
use Rattle.base.specs.Format.{FILL}
use Rattle.quiet.specs.Quiet.{Byte}
use Rattle.nominal.specs.Stretches.{FourFill}
use Rattle.nominal.proofs.Digits.{fill_of}
use Rattle.nominal.proofs.Joining.{nominal_join, one-fill, four-fill}
use Rattle.nominal.proofs.fill.are_five.Goals as goal

pub returns-then-starts-at : goal.returns-then-starts-at
returns-then-starts-at c = λ e. absurd (true≢false (sym e))

pub returns-then-four-ne-FOUR_FILL : goal.returns-then-four-ne-FOUR_FILL
returns-then-four-ne-FOUR_FILL c = λ e. absurd (true≢false (sym e))

pub returns-then-piece-at-ne-FILL : goal.returns-then-piece-at-ne-FILL
returns-then-piece-at-ne-FILL c = λ e. absurd (true≢false (sym e))

pub returns : goal.returns
returns c =
    let p = c.args.piece.now in
    let at = c.args.at in
    let four : FourFill p at = fill_of c.four.ensures (omega arith) c.if-four-ne-FOUR_FILL.false in
    let last : Byte p (at + 4) FILL = record { inside = omega arith; is = c.if-piece-at-ne-FILL.false } in
    λ q. record {
      stretch = nominal_join (four-fill refl four) (one-fill (omega arith) last);
      no_fill = λ b. eqb-false _ _ (not-true _ q) b.is;
    }
