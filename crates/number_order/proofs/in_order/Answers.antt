-- `number_order::in_order` meets its contract: each test stands on the sums before it, and together they are the tests of a tally in order. Assumes
-- nothing.
use mathlib.Core.Path.{◌≡◌, sym, ◌∙◌}
use mathlib.Core.Bool.{true}
use mathlib.Core.List.{List}
use Prim.Native.Nat.{ℕ, ◌+◌, ◌≤◌, ◌^◌}
use native.Mathlib.Omega.{arith}
use denote.Floats.{passes}
use borrow.Author.Tests.{lt-leb}
use Rattle.labelling.specs.Order.{few_weak, paid_sum}
use Rattle.tally_numbers.specs.Numbers.{is_tally, groups_of, framing_of, runs_of, operators_of}
use Rattle.number_order.specs.Sums.{groups_add, framing_adds, runs_add}
use Rattle.number_order.proofs.Order.{refused, told}
use Rattle.number_order.proofs.Sums.{groups_fit, framing_fits, runs_fit}
use Rattle.number_order.proofs.in_order.Goals as goal
use Rattle.number_order.proofs.in_order.Goals.{Else-not-framing_in_order, Else-not-groups_in_order, Else-not-is_tally, Else-not-operators_in_order, Else-not-runs_in_order, Else-not-weak_in_order}

-- the numbers, after each test
abbrev n1 : Else-not-is_tally → List ℕ
n1 c = c.before.before.args.n.now

abbrev n2 : Else-not-groups_in_order → List ℕ
n2 c = n1 c.before.before

abbrev n3 : Else-not-weak_in_order → List ℕ
n3 c = n2 c.before.before

abbrev n4 : Else-not-framing_in_order → List ℕ
n4 c = n3 c.before.before

abbrev n5 : Else-not-runs_in_order → List ℕ
n5 c = n4 c.before.before

abbrev n6 : Else-not-operators_in_order → List ℕ
n6 c = n5 c.before.before

-- what it has told
tally_held : (c : Else-not-is_tally) → is_tally (n1 c) ≡ true
tally_held c = sym c.is_tally.ensures ∙ c.if-not-is_tally.false

groups_held : (c : Else-not-groups_in_order) → groups_add (groups_of (n2 c)) ≡ true
groups_held c = sym c.groups_in_order.ensures ∙ c.if-not-groups_in_order.false

weak_held : (c : Else-not-weak_in_order) → few_weak (groups_of (n3 c)) ≡ true
weak_held c = sym c.weak_in_order.ensures ∙ c.if-not-weak_in_order.false

framing_held : (c : Else-not-framing_in_order) → framing_adds ((groups_of (n4 c)).voted + (groups_of (n4 c)).split) (framing_of (n4 c)) ≡ true
framing_held c = sym c.framing_in_order.ensures ∙ c.if-not-framing_in_order.false

runs-held : (c : Else-not-runs_in_order) → runs_add (framing_of (n5 c)).good (runs_of (n5 c)) ≡ true
runs-held c = sym c.runs_in_order.ensures ∙ c.if-not-runs_in_order.false

operators_held : (c : Else-not-operators_in_order) → paid_sum (runs_of (n6 c)).majors (operators_of (n6 c)) ≡ true
operators_held c = sym c.operators_in_order.ensures ∙ c.if-not-operators_in_order.false

-- and what is then within the limit
words-within : (c : Else-not-groups_in_order) → (groups_of (n2 c)).voted + (groups_of (n2 c)).split ≤ 2 ^ 40
words-within c = let fit = groups_fit (groups_of (n2 c)) (passes _ (groups_held c)) in omega arith

good-within : (c : Else-not-framing_in_order) → (framing_of (n4 c)).good ≤ 2 ^ 40
good-within c =
    let words = words-within c.before.before.before.before in
    let fit = framing_fits _ (framing_of (n4 c)) (passes _ (framing_held c)) in
    omega arith

majors-within : (c : Else-not-runs_in_order) → (runs_of (n5 c)).majors ≤ 2 ^ 40
majors-within c =
    let good = good-within c.before.before in let fit = runs_fit _ (runs_of (n5 c)) (passes _ (runs-held c)) in omega arith

pub returns-then-not-is_tally : goal.returns-then-not-is_tally
returns-then-not-is_tally c frame = rw (sym c.is_tally.ensures ∙ c.if-not-is_tally.true)

pub returns-then-not-groups_in_order : goal.returns-then-not-groups_in_order
returns-then-not-groups_in_order c frame = refused (n1 (goal.at.returns-then-not-groups_in_order c).Else-not-is_tally) frame (sym c.groups_in_order.ensures ∙ c.if-not-groups_in_order.true) (λ p. p.groups)

pub weak_in_order-requires : goal.weak_in_order-requires
weak_in_order-requires c = omega (arith, words-within c)

pub returns-then-not-weak_in_order : goal.returns-then-not-weak_in_order
returns-then-not-weak_in_order c frame = refused (n2 (goal.at.returns-then-not-weak_in_order c).Else-not-groups_in_order) frame (sym c.weak_in_order.ensures ∙ c.if-not-weak_in_order.true) (λ p. p.few)

pub framing_in_order-requires : goal.framing_in_order-requires
framing_in_order-requires c = words-within (goal.at.framing_in_order-requires c).Else-not-groups_in_order

pub returns-then-not-framing_in_order : goal.returns-then-not-framing_in_order
returns-then-not-framing_in_order c frame = refused (n3 (goal.at.returns-then-not-framing_in_order c).Else-not-weak_in_order) frame (sym c.framing_in_order.ensures ∙ c.if-not-framing_in_order.true) (λ p. p.framing)

pub runs_in_order-requires : goal.runs_in_order-requires
runs_in_order-requires c = good-within c

pub returns-then-not-runs_in_order : goal.returns-then-not-runs_in_order
returns-then-not-runs_in_order c frame = refused (n4 (goal.at.returns-then-not-runs_in_order c).Else-not-framing_in_order) frame (sym c.runs_in_order.ensures ∙ c.if-not-runs_in_order.true) (λ p. p.runs)

pub operators_in_order-requires : goal.operators_in_order-requires
operators_in_order-requires c = majors-within c

pub returns-then-not-operators_in_order : goal.returns-then-not-operators_in_order
returns-then-not-operators_in_order c frame = refused (n5 (goal.at.returns-then-not-operators_in_order c).Else-not-runs_in_order) frame (sym c.operators_in_order.ensures ∙ c.if-not-operators_in_order.true) (λ p. p.paid)

pub returns-then-n-gt7 : goal.returns-then-n-gt7
returns-then-n-gt7 c frame =
    let n = n6 (goal.at.returns-then-n-gt7 c).Else-not-operators_in_order in refused n frame (lt-leb (operators_of n).duty 7 (omega (arith, c.if-n-gt7.true))) (λ p. p.duty)

pub modes_in_order-requires : goal.modes_in_order-requires
modes_in_order-requires c = tally_held (goal.at.modes_in_order-requires c).Else-not-is_tally

pub returns-then-not-modes_in_order : goal.returns-then-not-modes_in_order
returns-then-not-modes_in_order c frame =
    refused (n6 (goal.at.returns-then-not-modes_in_order c).Else-not-operators_in_order) frame (sym c.modes_in_order.ensures ∙ c.if-not-modes_in_order.true) (λ p. p.modes)

pub returns : goal.returns
returns c frame =
    told (n6 (goal.at.returns c).Else-not-operators_in_order) frame (tally_held (goal.at.returns c).Else-not-is_tally) (groups_held (goal.at.returns c).Else-not-groups_in_order) (weak_held (goal.at.returns c).Else-not-weak_in_order) (framing_held (goal.at.returns c).Else-not-framing_in_order) (runs-held (goal.at.returns c).Else-not-runs_in_order)
    (operators_held (goal.at.returns c).Else-not-operators_in_order) (omega (arith, c.if-n-gt7.false)) (sym c.modes_in_order.ensures ∙ c.if-not-modes_in_order.false)
    c.rule_in_order.ensures
