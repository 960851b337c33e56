-- A tally is in order where its sums are: they hold each count to the bytes. Assumes nothing.
use mathlib.Core.Path.{◌≡◌, refl, sym, subst}
use mathlib.Core.Bool.{Bool, true, false, ◌&&◌, and-false}
use mathlib.Core.List.{List, [], ◌∷◌}
use Prim.Native.Nat.{ℕ, ◌+◌, ◌≤◌, ◌^◌}
use native.Mathlib.Omega.{arith}
use lib.Dec.{T, leb, eqb, le→leb, leb→le, eqb→eq}
use lib.ListN.{length}
use lib.Ieee.Fits.{and_l, and_r, and_i}
use denote.Floats.{passes, is_true}
use borrow.Author.Tests.{le-leb, eq-eqb}
use Rattle.base.specs.Lists.{sum_by}
use Rattle.labelling.specs.declared.Framing.{Framing}
use Rattle.labelling.specs.declared.Groups.{Groups}
use Rattle.labelling.specs.declared.Runs.{Runs}
use Rattle.labelling.specs.declared.Tally.{Tally}
use Rattle.labelling.specs.Machine.{state_of}
use Rattle.labelling.specs.Order.{within, every, groups_bounded, framing_bounded, runs_bounded, sums_hold, few_weak}
use Rattle.labelling.specs.Order.{operators_bounded, paid_sum, rule_in_order, state_in_order, in_order}
use Rattle.order.specs.Room.{GroupsRoom, FramingRoom, RunsRoom}
use Rattle.tally_numbers.specs.Numbers.{is_tally, tally_of}
use Rattle.number_order.specs.Sums.{groups_add, framing_adds, runs_add, modes_agree, in_sums}
use Rattle.number_order.proofs.Joined.{equal}
use Rattle.number_order.proofs.Sums.{GroupsFit, groups_fit, FramingFits, framing_fits, RunsFit, runs_fit}

-- counts whose sum is within the limit
all-within : (l : List ℕ) → sum_by (λ k. k) l ≤ 2 ^ 40 → T (every within l)
all-within [] h = tt
all-within (a ∷ l) h = and_i (within a) (every within l) (le→leb a (2 ^ 40) (omega arith)) (all-within l (omega arith))

-- each layer's counts
groups_bounded_lem : (g : Groups) → GroupsFit g → g.weak.first + g.weak.second + g.weak.third ≤ g.voted → T (groups_bounded g)
groups_bounded_lem g fit few =
    let room : GroupsRoom g = record {
      bytes_max = omega arith;
      fill_max = omega arith;
      stray_max = omega arith;
      voted_max = omega arith;
      split_max = omega arith;
      weak1_max = omega arith;
      weak2_max = omega arith;
      weak3_max = omega arith;
      open_max = omega arith;
    } in
    search (and_i, le→leb) depth 10

framing_bounded_lem : (words : ℕ) (f : Framing) → words ≤ 2 ^ 40 → FramingFits words f → T (framing_bounded f)
framing_bounded_lem words f h fit =
    let room : FramingRoom f = record {
      hunted_max = omega arith;
      good_max = omega arith;
      damaged_max = omega arith;
      unsynced_max = omega arith;
      placed_max = omega arith;
      matched_max = omega arith;
    } in
    search (and_i, le→leb) depth 10

runs-bounded : (good : ℕ) (r : Runs) → good ≤ 2 ^ 40 → RunsFit good r → T (runs_bounded r)
runs-bounded good r h fit =
    let room : RunsRoom r = record { majors_max = omega arith; broken_max = omega arith; loose_max = omega arith; building_max = omega arith } in
    search (and_i, le→leb) depth 10

-- the tests of the sums, one by one
pub record Parts (t : Tally) : Type 0 where
  pub groups : T (groups_add t.groups)
  pub few : T (few_weak t.groups)
  pub framing : T (framing_adds (t.groups.voted + t.groups.split) t.framing)
  pub runs : T (runs_add t.framing.good t.runs)
  pub paid : T (paid_sum t.runs.majors t.operators)
  pub duty : T (leb t.operators.duty 7)
  pub modes : T (modes_agree t.framing t.runs)
  pub rule : T (rule_in_order t.rule t.groups.split)

of_sums : (t : Tally) → T (in_sums t) → Parts t
unfolding in_sums
of_sums t h = search (and_l, and_r) depth 9

sums_of : (t : Tally) → Parts t → T (in_sums t)
unfolding in_sums
sums_of t p = search and_i depth 9

of_order : (t : Tally) → T (in_order t) → Parts t
unfolding in_order state_in_order
of_order t h = search (and_l, and_r, and_i) depth 16

sums_held : (t : Tally) → Parts t → T (sums_hold (state_of t))
sums_held t p = search (and_l, and_r, and_i) depth 9

module _ (t : Tally) (eight : length t.operators.paid ≡ 8) where
  bounded : Parts t → T (groups_bounded t.groups && framing_bounded t.framing && runs_bounded t.runs && operators_bounded t.operators)
  bounded p =
      let words = t.groups.voted + t.groups.split in
      let g = groups_fit t.groups p.groups in
      let few = leb→le (t.groups.weak.first + t.groups.weak.second + t.groups.weak.third) t.groups.voted p.few in
      let f = framing_fits words t.framing p.framing in
      let r = runs_fit t.framing.good t.runs p.runs in
      let sum = eqb→eq t.runs.majors (sum_by (λ k. k) t.operators.paid) p.paid in
      let groups-within = groups_bounded_lem t.groups g few in
      let framing-within = framing_bounded_lem words t.framing (omega arith) f in
      let runs-within = runs-bounded t.framing.good t.runs (omega arith) r in
      let paid-within = all-within t.operators.paid (omega arith) in
      let count = passes (eqb (length t.operators.paid) 8) (eq-eqb (length t.operators.paid) 8 eight) in
      search and_i depth 6

  order_of : Parts t → T (in_order t)
  unfolding in_order state_in_order
  order_of p =
      let b = bounded p in
      let s = sums_held t p in
      let modes = p.modes in
      search (and_l, and_r, and_i) depth 12

  pub by_sums : in_order t ≡ in_sums t
  by_sums =
      equal (in_order t) (in_sums t) (λ e. is_true (in_sums t) (sums_of t (of_order t (passes (in_order t) e))))
      (λ e. is_true (in_order t) (order_of (of_sums t (passes (in_sums t) e))))

-- ---- of numbers

module _ (n frame : List ℕ) where
  abbrev t : Tally
  t = tally_of n frame

  -- a test of the sums fails
  pub refused : {b : Bool} → b ≡ false → (Parts t → T b) → false ≡ (is_tally n && in_order t)
  refused {b} e of = rw (by_sums t refl) (go (in_sums t) (λ h. of (of_sums t h)))
    where
      go : (s : Bool) → (T s → T b) → false ≡ (is_tally n && s)
      go true f = absurd (subst T e (f tt))
      go false f = sym (and-false (is_tally n))

  -- all of them hold but that of the rule, which tells
  pub told : {rule : Bool} → is_tally n ≡ true → groups_add t.groups ≡ true → few_weak t.groups ≡ true
      → framing_adds (t.groups.voted + t.groups.split) t.framing ≡ true → runs_add t.framing.good t.runs ≡ true
      → paid_sum t.runs.majors t.operators ≡ true → t.operators.duty ≤ 7 → modes_agree t.framing t.runs ≡ true
      → rule ≡ rule_in_order t.rule t.groups.split → rule ≡ (is_tally n && in_order t)
  unfolding in_sums
  told tally groups few framing runs paid duty modes rule =
      rw (tally, by_sums t refl, groups, few, framing, runs, paid, le-leb t.operators.duty 7 duty, modes) rule
