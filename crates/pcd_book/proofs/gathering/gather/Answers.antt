use mathlib.Core.Path.{refl, sym}
use native.Mathlib.Omega.{arith}
use borrow.Author.Tests.{not-false}
use Rattle.pcd_book.proofs.Laws.{fits-as, none_kept}
use borrow.Author.Rules.{rules}
use Rattle.pcd_book.proofs.gathering.gather.Goals as goal

pub loop-shelf-init : goal.loop-shelf-init
loop-shelf-init g c =
    let none = c.begun-shelf.ensures in (
      record { roomy = c.requires; one_more = omega (arith, c.requires.least, none) },
      refl,
      none_kept c.args.year c.args.bodies.now _ none,
    )

pub turn-shelf-requires : goal.turn-shelf-requires
turn-shelf-requires g c = fits-as c.loop-shelf.invariant.1 c.loop-shelf.invariant.0

pub returns-then-not-shelf : goal.returns-then-not-shelf
returns-then-not-shelf g c =
    let inv = c.loop-shelf.invariant in
    record { fits = fits-as (sym inv.1) c.turn-shelf.ensures.fits; kept = c.turn-shelf.ensures.kept inv.2 }

pub loop-shelf-smaller : goal.loop-shelf-smaller
loop-shelf-smaller g c = omega (arith, c.turn-shelf.ensures.further (not-false _ c.if-not-shelf.false))

pub loop-shelf-preserved : goal.loop-shelf-preserved
loop-shelf-preserved g c =
    let inv = c.loop-shelf.invariant in
    (fits-as (sym inv.1) c.turn-shelf.ensures.fits, search rules, c.turn-shelf.ensures.kept inv.2)
