use mathlib.Core.Path.{◌≡◌, refl, subst}
use mathlib.Core.Bool.{true}
use mathlib.Core.List.{List}
use Prim.Native.Nat.{ℕ, ◌+◌, ◌-◌, ◌≤◌, ◌<◌}
use native.Mathlib.Omega.{arith}
use Rattle.std.specs.Prelude.{Result, Ok, take}
use lib.ListN.{length, drop, length-drop}
use lib.Seq.{take_all}
use Rattle.base.specs.declared.refusal.Refusal.{Refusal}
use Rattle.relocking.specs.declared.Relocked.{Relocked}
use Rattle.relocking.specs.Relock.{RelockPromise}
use Rattle.whole_reel.proofs.ReadingReels.{step_answers, step_accepted, read-begins, leads_on, stays_in, at_most_one, reads_more, read-ends}
use Rattle.whole_reel.proofs.read_all.Goals as goal
use Rattle.whole_reel.proofs.read_all.Goals.{After-unwrap-r}

pub loop-at-init : goal.loop-at-init
loop-at-init c =
    let b = c.requires in
    (b, read-begins _ b.rule_is _ _ b.few b.whole-area c.args.begun b.begun)

-- the step's piece is the rest of the stream
rest-is : (at : ℕ) (s : List ℕ) → take (length s - at) (drop at s) ≡ drop at s
rest-is at s = take_all (length s - at) (drop at s) (omega (arith, length-drop at s))

-- no step is refused
pub unwrap-r-requires : goal.unwrap-r-requires
unwrap-r-requires c =
    step_answers _ (rw (rest-is c.loop-at.at c.args.stream.now) at c.relock.ensures)
    (step_accepted _ _ _ _ _ _ c.loop-at.invariant.1 c.loop-at-test.true)

-- after a step
module _ (w : After-unwrap-r) where
  abbrev stream : List ℕ
  stream = w.args.stream.now

  abbrev at : ℕ
  at = w.loop-at.at

  promised : RelockPromise w.loop-at.f (drop at stream) true w.loop-at.area (Ok w.unwrap-r.result) w.relock.new.area
  promised =
      subst (λ (r : Result Relocked Refusal). RelockPromise w.loop-at.f (drop at stream) true w.loop-at.area r w.relock.new.area)
      w.unwrap-r.ensures (rw (rest-is at stream) at w.relock.ensures)

  further : 0 < w.unwrap-r.result.taken
  further = leads_on _ _ _ _ _ _ w.loop-at.invariant.1 w.loop-at-test.true w.unwrap-r.result _ promised

  inside : at + w.unwrap-r.result.taken ≤ length stream
  inside = stays_in _ _ _ _ _ _ w.loop-at.invariant.1 w.loop-at-test.true w.unwrap-r.result _ promised

pub overflow_add-at : goal.overflow_add-at
overflow_add-at c =
    record { fits = omega (arith, inside (goal.at.overflow_add-at c).After-unwrap-r, c.well_formed.1.0.0) }

pub overflow_add-paid : goal.overflow_add-paid
overflow_add-paid c =
    let i = c.loop-at.invariant.1 in
    let one_more = at_most_one _ _ _ _ _ _ i c.loop-at-test.true c.unwrap-r.result _ (promised (goal.at.overflow_add-paid c).After-unwrap-r) in
    record { fits = omega (arith, inside (goal.at.overflow_add-paid c).After-unwrap-r, one_more, i.few, c.number-paid.ensures, c.well_formed.1.0.0) }

pub loop-at-smaller : goal.loop-at-smaller
loop-at-smaller c =
    omega (arith, inside (goal.at.loop-at-smaller c).After-unwrap-r, further (goal.at.loop-at-smaller c).After-unwrap-r, c.loop-at-test.true)

pub loop-at-preserved : goal.loop-at-preserved
loop-at-preserved c =
    let i = c.loop-at.invariant in
    (i.0, reads_more _ _ _ _ _ _ i.1 c.loop-at-test.true c.unwrap-r.result _ (promised (goal.at.loop-at-preserved c).After-unwrap-r) c.number-paid.result c.number-paid.ensures c.relock.auto.area)

pub shape_of-area : goal.shape_of-area
shape_of-area c = c.loop-at.invariant.1.kept

pub returns : goal.returns
returns c = record { no_refusal = refl; whole = read-ends _ _ _ _ _ _ c.loop-at.invariant.1 (omega (arith, c.loop-at-test.false)) }
