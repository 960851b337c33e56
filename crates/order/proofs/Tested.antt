-- The tests of `in_order`, joined: from what each gave to what the definition says. Assumes nothing.
use mathlib.Core.Path.{◌≡◌, refl, sym, ap, ◌∙◌}
use mathlib.Core.Bool.{Bool, true, false, not, ◌&&◌, ◌||◌, and_assoc, and-false, true≢false}
use mathlib.Core.List.{List}
use Prim.Native.Nat.{ℕ, ◌+◌}
use native.Mathlib.Omega.{arith}
use lib.Dec.{eqb}
use lib.ListN.{length, get_or}
use Rattle.base.specs.Lists.{sum_by}
use Rattle.base.proofs.Lists.{spelled}
use Rattle.labelling.specs.declared.Tally.{Tally}
use Rattle.labelling.specs.Machine.{state_of}
use Rattle.labelling.specs.Order.{within, every, groups_bounded, framing_bounded, framing_modes, runs_bounded, sums_hold, few_weak, operators_bounded, paid_sum}
use Rattle.labelling.specs.Order.{rule_in_order, state_in_order, in_order}
use Rattle.order.proofs.Rooms.{bounded}

-- ---- eight counts

module _ (l : List ℕ) (h : length l ≡ 8) where
  abbrev n : ℕ → ℕ
  n k = get_or l k 0

  abbrev small : ℕ → Bool
  small k = within (n k)

  pub each-of_eight : (small 0 && small 1 && small 2 && small 3 && small 4 && small 5 && small 6 && small 7) ≡ every within l
  each-of_eight =
      chained (small 0) (small 1) (small 2) (small 3) (small 4) (small 5) (small 6) (small 7) ∙ ap (every within) (sym (spelled l 8 h))
    where
      chained : (a b c d e f g h : Bool) → (a && b && c && d && e && f && g && h) ≡ (a && (b && (c && (d && (e && (f && (g && (h && true))))))))
      chained a b c d e f g true = simp and_assoc
      chained a b c d e f g false = simp and_assoc

  pub sum-of_eight : n 0 + n 1 + n 2 + n 3 + n 4 + n 5 + n 6 + n 7 ≡ sum_by (λ k. k) l
  sum-of_eight = omega (arith, ap (sum_by (λ k. k)) (spelled l 8 h))

-- ---- two tests joined

pub both_hold : (a b : Bool) → (a && b) ≡ true → (a ≡ true) × (b ≡ true)
both_hold true b e = (refl, e)
both_hold false b e = absurd (true≢false (sym e))

-- ---- the whole

module _ (t : Tally) where
  -- the tests of the bounds
  abbrev pub all_bounded : Bool
  all_bounded = bounded (state_of t) && operators_bounded t.operators

  pub bounded-as : {g f r o : Bool} → g ≡ groups_bounded t.groups → f ≡ framing_bounded t.framing → r ≡ runs_bounded t.runs
      → o ≡ operators_bounded t.operators → all_bounded ≡ (g && f && r && o)
  bounded-as eg ef er eo = rw (eg, ef, er, eo)

  pub out-of_bounds : all_bounded ≡ false → false ≡ in_order t
  unfolding in_order state_in_order
  out-of_bounds e = go (bounded (state_of t)) (operators_bounded t.operators) e
    where
      go : (b o : Bool) → (b && o) ≡ false
          → false
          ≡ (b && framing_modes t.framing && sums_hold (state_of t) && few_weak t.groups && (not t.framing.hunting || eqb t.runs.building 0)
          && (o && paid_sum t.runs.majors t.operators) && rule_in_order t.rule t.groups.split)
      go true true e = absurd (true≢false e)
      go true false e = rw and-false
      go false o e = refl

  pub within-bounds : {m s w p r : Bool} → all_bounded ≡ true → m ≡ framing_modes t.framing → s ≡ sums_hold (state_of t) → w ≡ few_weak t.groups
      → p ≡ paid_sum t.runs.majors t.operators → r ≡ rule_in_order t.rule t.groups.split
      → (m && s && w && (not t.framing.hunting || eqb t.runs.building 0) && p && r) ≡ in_order t
  unfolding in_order state_in_order
  within-bounds e em es ew ep er =
      let both = both_hold (bounded (state_of t)) (operators_bounded t.operators) e in
      rw (both.0, both.1, em, es, ew, ep, er)
