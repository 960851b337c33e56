use mathlib.Core.Path.{◌≡◌, ap}
use mathlib.Core.List.{[]}
use Prim.Native.Nat.{ℕ}
use native.Mathlib.Numerals.{add-one}
use native.Mathlib.Omega.{arith}
use lib.ListN.{get_or, drop, drop_of_length-le}
use borrow.Author.Tests.{eq-eqb, ne_eqb}
use Rattle.base.specs.Format.{SYNC}
use Rattle.relocking.specs.Relock.{before_group}
use Rattle.relocking.proofs.Moves.{group_later, group_here}
use Rattle.relocking.proofs.before_group.Goals as goal

pub loop-i-init : goal.loop-i-init
loop-i-init c = (omega arith, omega arith)

pub bounds-piece-i : goal.bounds-piece-i
bounds-piece-i c = c.loop-i-test.true

pub returns-then-piece-i-eq-SYNC : goal.returns-then-piece-i-eq-SYNC
returns-then-piece-i-eq-SYNC c =
    let p = c.args.piece.now in
    let here = group_here p c.loop-i.i c.loop-i-test.true (eq-eqb (get_or p c.loop-i.i 0) SYNC c.if-piece-i-eq-SYNC.true) in
    (omega (arith, here, c.loop-i.invariant.0), c.loop-i.invariant.1)

pub loop-i-smaller : goal.loop-i-smaller
loop-i-smaller c = omega (arith, c.loop-i-test.true)

pub loop-i-preserved : goal.loop-i-preserved
loop-i-preserved c =
    let p = c.args.piece.now in
    let i = c.loop-i.i in
    let later = group_later p i c.loop-i-test.true (ne_eqb (get_or p i 0) SYNC c.if-piece-i-eq-SYNC.false) in
    let same = ap (λ (n : ℕ). before_group (drop n p)) (add-one i) in
    (omega (arith, later, same, c.loop-i.invariant.0), omega (arith, c.loop-i-test.true))

pub returns : goal.returns
returns c =
    let p = c.args.piece.now in
    let done : drop c.loop-i.i p ≡ [] = drop_of_length-le p {i = c.loop-i.i} (omega (arith, c.loop-i-test.false)) in
    (omega (arith, ap before_group done, c.loop-i.invariant.0), c.loop-i.invariant.1)
