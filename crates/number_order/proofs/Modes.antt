-- The modes, of a flag that is a number: three numbers are 0 where they joined are. Assumes nothing.
use mathlib.Core.Path.{◌≡◌, refl}
use mathlib.Core.Bool.{true, false, not, ◌&&◌, ◌||◌, and-true}
use mathlib.Core.List.{[], ◌∷◌}
use Prim.Native.Nat.{ℕ, zero, suc, ◌<◌}
use native.Mathlib.Omega.{arith}
use lib.Dec.{T, eqb, eqb→eq}
use lib.Ieee.Fits.{and_l, and_r}
use denote.Floats.{passes}
use borrow.Author.Tests.{eqb-true, eq-eqb, ne_eqb}
use Rattle.labelling.specs.declared.Framing.{Framing}
use Rattle.labelling.specs.declared.Runs.{Runs}
use Rattle.number_order.specs.Sums.{modes_agree}
use Rattle.number_order.proofs.Joined.{equal, absorbed, joined, each_within, sum_over}

flag_none : (e : ℕ) → e < 2 → eqb e 0 ≡ not (eqb e 1)
flag_none zero h = refl
flag_none (suc zero) h = refl
flag_none (suc (suc e)) h = absurd (omega arith)

zeros : (p e b : ℕ) → eqb (joined p (e ∷ b ∷ [])) 0 ≡ (eqb p 0 && eqb e 0 && eqb b 0)
zeros p e b = equal (eqb (joined p (e ∷ b ∷ [])) 0) (eqb p 0 && eqb e 0 && eqb b 0) to from
  where
    to : eqb (joined p (e ∷ b ∷ [])) 0 ≡ true → (eqb p 0 && eqb e 0 && eqb b 0) ≡ true
    to h =
        let none = eqb-true (joined p (e ∷ b ∷ [])) 0 h in
        let each = each_within 0 p (e ∷ b ∷ []) (omega arith) in
        rw (eq-eqb p 0 (omega arith), eq-eqb e 0 (omega arith), eq-eqb b 0 (omega arith))

    from : (eqb p 0 && eqb e 0 && eqb b 0) ≡ true → eqb (joined p (e ∷ b ∷ [])) 0 ≡ true
    from h =
        let t : T (eqb p 0 && eqb e 0 && eqb b 0) = passes (eqb p 0 && eqb e 0 && eqb b 0) h in
        let p-none : p ≡ 0 = search (and_l, and_r, eqb→eq) in
        let e-none : e ≡ 0 = search (and_l, and_r, eqb→eq) in
        let b-none : b ≡ 0 = search (and_l, and_r, eqb→eq) in
        eq-eqb (joined p (e ∷ b ∷ [])) 0 (omega (arith, sum_over p (e ∷ b ∷ [])))

-- e is the number of the erasure's flag
module _ (f : Framing) (r : Runs) (e : ℕ) (flag : e < 2) (marked : f.erasure ≡ eqb e 1) where
  pub modes_hunting : f.hunting ≡ true → eqb (joined f.placed (e ∷ r.building ∷ [])) 0 ≡ modes_agree f r
  modes_hunting h = rw (h, marked, ← flag_none e flag, absorbed (eqb f.placed 0) (eqb e 0)) (zeros f.placed e r.building)

  pub modes_placing : f.hunting ≡ false → f.matched ≡ 0 → (not (eqb f.placed 0) || eqb e 0) ≡ modes_agree f r
  modes_placing h m = rw (h, eq-eqb f.matched 0 m, marked, ← flag_none e flag, and-true)

pub modes_matching : (f : Framing) (r : Runs) → f.hunting ≡ false → (f.matched ≡ 0 → ⊥) → false ≡ modes_agree f r
modes_matching f r h m = rw (h, ne_eqb f.matched 0 m)
