use mathlib.Core.Path.{refl}
use native.Mathlib.Omega.{arith}
use borrow.Author.Tests.{not-false}
use borrow.Author.Rules.{rules}
use Rattle.pcd_orbit.proofs.write_cycles.Goals as goal

pub loop-read-init : goal.loop-read-init
loop-read-init g c = (refl, omega arith)

pub overflow_add-cycle : goal.overflow_add-cycle
overflow_add-cycle g c =
    let further = c.next_cycle-read.ensures.further (not-false _ c.if-not-read.false) in
    record { fits = omega (arith, c.loop-read.invariant.1, further) }

pub loop-read-smaller : goal.loop-read-smaller
loop-read-smaller g c =
    let further = c.next_cycle-read.ensures.further (not-false _ c.if-not-read.false) in
    omega (arith, further)

pub loop-read-preserved : goal.loop-read-preserved
loop-read-preserved g c =
    let further = c.next_cycle-read.ensures.further (not-false _ c.if-not-read.false) in
    (search rules, omega (arith, c.loop-read.invariant.1, further))
