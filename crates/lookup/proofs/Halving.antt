-- The halving rule: from any low and high it has one outcome, each look at least halves what lies between them, and a loop that keeps low, high
-- and the looks so far comes to the outcome of the whole search. Assumes nothing.
use mathlib.Core.Path.{◌≡◌, refl, ap, subst}
use mathlib.Core.Bool.{Bool, true, false}
use mathlib.Core.List.{List}
use mathlib.Core.Logic.{⊎_elim}
use Prim.Native.Nat.{ℕ, zero, suc, ◌+◌, ◌-◌, ◌^◌, ◌≤◌, ◌<◌}
use native.Mathlib.Nat.{pow-succ', eq-or-lt_of_le}
use native.Mathlib.Omega.{arith}
use lib.Dec.{leb}
use lib.ListN.{length, get_or}
use borrow.Author.Tests.{leb-true, leb-false}
use Rattle.lookup.specs.Halving.{halfway, Halving, met, past, before, Search}

module _ (xs : List ℕ) (wanted : ℕ) where
  -- from the same low and high, however written, the rule comes to one end with one number of looks
  same_end : {low high e k low' high' e' k' : ℕ} → Halving xs wanted low high e k → Halving xs wanted low' high' e' k' → low ≡ low' → high ≡ high'
      → (e ≡ e') × (k ≡ k')
  same_end met met l h = (l, refl)
  same_end met (past differ at_most r) l h = absurd (differ (omega arith))
  same_end met (before differ above r) l h = absurd (differ (omega arith))
  same_end (past differ at_most r) met l h = absurd (differ (omega arith))
  same_end (past differ at_most r) (past differ' at_most' r') l h = let u = same_end r r' (omega arith) h in (u.0, omega arith)
  same_end {low} {high} {low' = low'} {high' = high'} (past differ at_most r) (before differ' above' r') l h =
      let m : halfway low high ≡ halfway low' high' = omega arith in absurd (omega (arith, ap (λ (i : ℕ). get_or xs i 0) m))
  same_end (before differ above r) met l h = absurd (differ (omega arith))
  same_end {low} {high} {low' = low'} {high' = high'} (before differ above r) (past differ' at_most' r') l h =
      let m : halfway low high ≡ halfway low' high' = omega arith in absurd (omega (arith, ap (λ (i : ℕ). get_or xs i 0) m))
  same_end (before differ above r) (before differ' above' r') l h = let u = same_end r r' l (omega arith) in (u.0, omega arith)

  -- from the same low and high the rule comes to one end with one number of looks
  pub unique : {low high e k e' k' : ℕ} → Halving xs wanted low high e k → Halving xs wanted low high e' k' → (e ≡ e') × (k ≡ k')
  unique h h' = same_end h h' refl refl

  -- the end lies within low and high
  pub within : {low high e k : ℕ} → Halving xs wanted low high e k → low ≤ high → e ≤ high
  within met le = le
  within {low} {high} (past differ at_most r) le = within r (omega arith)
  within {low} {high} (before differ above r) le = omega (arith, within r (omega arith))

  -- with fewer than 2^d entries from low to high there are at most d looks
  pub few : {low high e k : ℕ} → Halving xs wanted low high e k → low ≤ high → (d : ℕ) → high < low + 2 ^ d → k ≤ d
  few met le d h = omega arith
  few (past differ at_most r) le zero h = omega arith
  few {low} {high} (past differ at_most r) le (suc d) h =
      let p = pow-succ' 2 d in
      let s = few r (omega arith) d (omega arith) in omega arith
  few (before differ above r) le zero h = omega arith
  few {low} {high} (before differ above r) le (suc d) h =
      let p = pow-succ' 2 d in
      let s = few r (omega arith) d (omega arith) in omega arith

  -- ---- the rule comes to an end
  record Ends (low high : ℕ) : Type 0 where
    end : ℕ
    looks : ℕ
    halving : Halving xs wanted low high end looks

  at_once : {low high : ℕ} → low ≡ high → Ends low high
  at_once {low} e = record { end = low; looks = 0; halving = subst (λ (high : ℕ). Halving xs wanted low high low 0) e met }

  look : {low high : ℕ} → low < high → (at_most : Bool) → leb (get_or xs (halfway low high) 0) wanted ≡ at_most
      → Ends (halfway low high + 1) high → Ends low (halfway low high) → Ends low high
  look {low} {high} lt true e r s =
      record { end = r.end; looks = r.looks + 1; halving = past (λ (z : low ≡ high). omega arith) (leb-true _ _ e) r.halving }
  look {low} {high} lt false e r s =
      record { end = s.end; looks = s.looks + 1; halving = before (λ (z : low ≡ high). omega arith) (leb-false _ _ e) s.halving }

  -- from low and high with at most n entries between them
  ends : (n low high : ℕ) → low ≤ high → high ≤ low + n → Ends low high
  ends zero low high le h = at_once (omega arith)
  ends (suc n) low high le h =
      ⊎_elim at_once
      (λ lt. look lt _ refl (ends n (halfway low high + 1) high (omega arith) (omega arith)) (ends n low (halfway low high) (omega arith) (omega arith)))
      (eq-or-lt_of_le le)

  pub record Outcome : Type 0 where
    pub low : ℕ
    pub looks : ℕ
    pub rule : Search xs wanted low looks

  pub outcome : Outcome
  outcome = let r = ends (length xs) 0 (length xs) (omega arith) (omega arith) in record { low = r.end; looks = r.looks; rule = r.halving }

  -- ---- the loop: halving from here on is the whole search, with the looks so far added
  pub record Turn (low high looks : ℕ) : Type 0 where
    pub ordered : low ≤ high
    pub within : high ≤ length xs
    -- a look takes away at least one entry
    pub spent : looks + (high - low) ≤ length xs
    pub rest : (end more : ℕ) → Halving xs wanted low high end more → Search xs wanted end (looks + more)

  -- the same halving, its looks written otherwise
  recount : {low high end k k' : ℕ} → k ≡ k' → Halving xs wanted low high end k → Halving xs wanted low high end k'
  recount {low} {high} {end} h r = subst (Halving xs wanted low high end) h r

  pub start : Turn 0 (length xs) 0
  start = record { ordered = omega arith; within = omega arith; spent = omega arith; rest = λ end more h. recount (omega arith) h }

  -- the locals after a turn that looked halfway, each by what it is of those before
  module _ {low high looks half low' high' looks' : ℕ} (t : Turn low high looks) (lt : low < high) (mid : half ≡ halfway low high)
      (counted : looks' ≡ looks + 1) where
    pub turn_past : get_or xs half 0 ≤ wanted → low' ≡ half + 1 → high' ≡ high → Turn low' high' looks'
    turn_past at_most l h =
        record {
          ordered = omega arith;
          within = omega arith;
          spent = omega arith;
          rest = rw (l, h, mid) (λ end more r.
              recount (omega arith) (t.rest end (more + 1) (past (λ (z : low ≡ high). omega arith) (rw mid at at_most) r)));
        }

    pub turn_before : wanted < get_or xs half 0 → low' ≡ low → high' ≡ half → Turn low' high' looks'
    turn_before above l h =
        record {
          ordered = omega arith;
          within = omega arith;
          spent = omega arith;
          rest = rw (l, h, mid) (λ end more r.
              recount (omega arith) (t.rest end (more + 1) (before (λ (z : low ≡ high). omega arith) (rw mid at above) r)));
        }

  pub ended : {low high looks : ℕ} → Turn low high looks → high ≤ low → Search xs wanted low looks
  ended {low} {high} {looks} t h =
      let e : low ≡ high = omega arith in
      recount (omega arith) (t.rest low 0 (subst (λ (n : ℕ). Halving xs wanted low n low 0) e met))
