-- `in_place::lead_fits` meets its contract: each test is one field of the definition. Assumes nothing.
use mathlib.Core.Path.{ap, sym, ◌∙◌}
use mathlib.Core.Bool.{true≢false}
use Prim.Native.Nat.{ℕ}
use native.Mathlib.Omega.{arith}
use lib.Dec.{eqb}
use lib.ListN.{get_or}
use borrow.Author.Tests.{ne_eqb}
use Rattle.in_place.proofs.lead_fits.Goals as goal

pub returns-then-n-eq1 : goal.returns-then-n-eq1
returns-then-n-eq1 c =
    (λ z. absurd (true≢false (sym z)), λ z f. true≢false (sym (ap (λ (x : ℕ). eqb x 1) c.if-n-eq1.true) ∙ f.places))

pub returns-then-n-ne0 : goal.returns-then-n-ne0
returns-then-n-ne0 c = (λ z. absurd (true≢false (sym z)), λ z f. c.if-n-ne0.true f.at_first)

pub returns-then-n-ne0-2 : goal.returns-then-n-ne0-2
returns-then-n-ne0-2 c = (λ z. absurd (true≢false (sym z)), λ z f. c.if-n-ne0-2.true f.outside_group)

pub returns-then-n : goal.returns-then-n
returns-then-n c = (λ z. absurd (true≢false (sym z)), λ z f. omega (arith, f.fits, c.if-n.true))

pub returns-then-n-piece : goal.returns-then-n-piece
returns-then-n-piece c =
    (λ z. absurd (true≢false (sym z)), λ z f. omega (arith, f.fits, c.if-n-piece.true, c.if-n.false))

pub returns : goal.returns
returns c =
    let n = c.args.n.now in (
      λ z. record {
        places = ne_eqb (get_or n 13 0) 1 c.if-n-eq1.false;
        at_first = c.if-n-ne0.false;
        outside_group = c.if-n-ne0-2.false;
        fits = omega (arith, c.if-n-piece.false, c.if-n.false);
      },
      λ z. absurd (true≢false z),
    )
