-- Of a list that never falls the halving rule's answer is that of reading the whole list: at each look all before low are at most the wanted
-- instant and all from high on are above it, so that where they meet low - 1 is the last place at most the wanted one. Assumes nothing.
use mathlib.Core.Path.{◌≡◌, refl, sym, ap, ◌∙◌}
use mathlib.Core.List.{List, [], ◌∷◌}
use Rattle.std.proofs.Common.{Option, Some, None}
use Prim.Native.Nat.{ℕ, zero, suc, ◌+◌, ◌-◌, ◌≤◌, ◌<◌}
use native.Mathlib.Omega.{arith}
use lib.Dec.{eqb-suc-zero}
use lib.ListN.{length, get_or}
use borrow.Author.Tests.{le-leb, lt-leb}
use Rattle.lookup.specs.Halving.{halfway, Halving, met, past, before, Search}
use Rattle.lookup.specs.WholeReading.{read_on, last_at_most, StrictlyRises, NeverFalls}
use Rattle.lookup.specs.Answer.{found}

pub weaken : (xs : List ℕ) → StrictlyRises xs → NeverFalls xs
weaken xs rises i h = omega (arith, rises i h)

-- ---- reading on
module _ (wanted : ℕ) where
  -- a rest that is all above the wanted instant changes nothing
  above : (xs : List ℕ) (i : ℕ) (last : Option ℕ) → ((j : ℕ) → j < length xs → wanted < get_or xs j 0) → read_on wanted i last xs ≡ last
  above [] i last h = refl
  above (x ∷ xs) i last h = rw (lt-leb x wanted (h 0 (omega arith))) (above xs (i + 1) last (λ j b. h (suc j) (omega arith)))

  -- a rest of which the first e + 1 are at most the wanted instant, and no others, ends with the last of these
  at_most : (e : ℕ) (xs : List ℕ) (i : ℕ) (last : Option ℕ) → e < length xs → ((j : ℕ) → j ≤ e → get_or xs j 0 ≤ wanted)
      → ((j : ℕ) → e < j → j < length xs → wanted < get_or xs j 0) → read_on wanted i last xs ≡ Some (i + e)
  at_most e [] i last l h k = absurd (omega arith)
  at_most zero (x ∷ xs) i last l h k =
      let z : i ≡ i + 0 = omega arith in
      rw (le-leb x wanted (h 0 (omega arith))) (above xs (i + 1) (Some i) (λ j b. k (suc j) (omega arith) (omega arith)) ∙ ap Some z)
  at_most (suc e) (x ∷ xs) i last l h k =
      let z : i + 1 + e ≡ i + suc e = omega arith in
      rw (le-leb x wanted (h 0 (omega arith)))
      (at_most e xs (i + 1) (Some i) (omega arith) (λ j b. h (suc j) (omega arith)) (λ j b c. k (suc j) (omega arith) (omega arith)) ∙ ap Some z)

module _ (xs : List ℕ) (wanted : ℕ) where
  -- ---- what the rule knows on the way
  pub record Split (low high : ℕ) : Type 0 where
    pub ordered : low ≤ high
    pub within : high ≤ length xs
    pub below : (i : ℕ) → i < low → get_or xs i 0 ≤ wanted
    pub beyond : (i : ℕ) → high ≤ i → i < length xs → wanted < get_or xs i 0

  whole : Split 0 (length xs)
  whole = record { ordered = omega arith; within = omega arith; below = λ i b. omega arith; beyond = λ i b l. omega arith }

  module _ (never : NeverFalls xs) where
    -- an instant is at most the one d places on
    climbs : (d i j : ℕ) → j ≡ i + d → j < length xs → get_or xs i 0 ≤ get_or xs j 0
    climbs zero i j e h = let same : j ≡ i = omega arith in rw same (omega arith)
    climbs (suc d) i j e h =
        let next : j ≡ i + d + 1 = omega arith in
        omega (arith, climbs d i (i + d) refl (omega arith), rw (← next) at (never (i + d) (omega arith)))

    rises : (i j : ℕ) → i ≤ j → j < length xs → get_or xs i 0 ≤ get_or xs j 0
    rises i j b h = climbs (j - i) i j (omega arith) h

    split : {low high e k : ℕ} → Halving xs wanted low high e k → Split low high → Split e e
    split met s = s
    split {low} {high} (past differ at_most r) s =
        split r
        (record {
          ordered = omega arith;
          within = s.within;
          below = λ i b. omega (arith, rises i (halfway low high) (omega arith) (omega arith));
          beyond = s.beyond;
        })
    split {low} {high} (before differ above r) s =
        split r
        (record {
          ordered = omega arith;
          within = omega arith;
          below = s.below;
          beyond = λ i b l. omega (arith, rises (halfway low high) i b l);
        })

    -- ---- the law
    read_whole : (low : ℕ) → Split low low → (found low 0).place ≡ last_at_most wanted xs
    read_whole zero s = sym (above wanted xs 0 None (λ j l. s.beyond j (omega arith) l))
    read_whole (suc p) s =
        let place : suc p - 1 ≡ 0 + p = omega arith in
        rw (eqb-suc-zero p, place)
        (sym (at_most wanted p xs 0 None (omega arith) (λ j b. s.below j (omega arith)) (λ j b l. s.beyond j (omega arith) l)))

    pub never_falls : (low looks : ℕ) → Search xs wanted low looks → (found low looks).place ≡ last_at_most wanted xs
    never_falls low looks h = read_whole low (split h whole)
