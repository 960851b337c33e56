-- In 85 frames every pointer comes once, and as many frames on as `between` says. Assumes nothing.
use mathlib.Core.Path.{◌≡◌, refl, sym, ap, ◌∙◌}
use mathlib.Core.Bool.{Bool, true, false, cond}
use Prim.Native.Nat.{ℕ, zero, suc, ◌+◌, ◌*◌, ◌/◌, ◌≤◌, ◌<◌}
use native.Mathlib.Omega.{arith}
use borrow.Author.Tests.{eqb-true, eqb-false, lt-ltb, le-ltb}
use lib.Dec.{eqb, ltb, leb-suc-suc}
use lib.ListN.{length}
use Rattle.base.specs.Lists.{one, count_by}
use Rattle.data_pointer.specs.Sequence.{next, steps, walk, before, frames, Once, Fewest}
use Rattle.data_pointer.proofs.Steps.{next-pointer, steps-mod, steps-suc, no_steps, between, fewest}

-- ---- a step brings every pointer one nearer, but takes the one it leaves as far away as can be

module _ (p q : ℕ) (hp : p ≤ 84) (hq : q ≤ 84) where
  here : Fewest p q (between p q)
  here = fewest p q hp hq

  there : Fewest (next p) q (between (next p) q)
  there = fewest (next p) q (next-pointer p hp) hq

  nearer : (p ≡ q → ⊥) → between p q ≡ suc (between (next p) q)
  nearer other = by_steps (between p q) refl
    where
      by_steps : (n : ℕ) → between p q ≡ n → between p q ≡ suc (between (next p) q)
      by_steps zero e = absurd (other (sym (no_steps p) ∙ ap (λ (n : ℕ). steps n p) (sym e) ∙ here.leads))
      by_steps (suc n) e =
          let led : steps n (next p) ≡ q = sym (steps-suc n p) ∙ ap (λ (n : ℕ). steps n p) (sym e) ∙ here.leads in
          let most = there.smallest n led in
          let least = here.smallest (suc (between (next p) q)) (steps-suc (between (next p) q) p ∙ there.leads) in
          omega arith

furthest : (p : ℕ) → p ≤ 84 → between (next p) p ≡ 84
furthest p h =
    let n = between (next p) p in
    let back = fewest (next p) p (next-pointer p h) h in
    let sum = steps-mod (suc n) p h in
    let led : steps (suc n) p ≡ p = steps-suc n p ∙ back.leads in
    let quotients : 21 * suc n + 1 ≤ 47 * ((p + 38 * suc n) / 85) = omega arith in
    let most = back.within in
    omega arith

-- ---- what stands in n frames from p on

walk-length : (n p : ℕ) → length (walk n p) ≡ n
unfolding walk
walk-length zero p = refl
walk-length (suc n) p = ap suc (walk-length n (next p))

-- q comes once where it is fewer than n steps away, else not
counted : (n p q : ℕ) → n ≤ 85 → p ≤ 84 → q ≤ 84 → count_by (eqb q) (walk n p) ≡ one (ltb (between p q) n)
unfolding walk
counted zero p q hn hp hq = rw (le-ltb (between p q) 0 (omega arith))
counted (suc n) p q hn hp hq = first (eqb q p) refl (counted n (next p) q (omega arith) (next-pointer p hp) hq)
  where
    closer : (d : ℕ) → 0 + one (ltb d n) ≡ one (ltb (suc d) (suc n))
    closer d = rw leb-suc-suc (omega arith)

    first : (b : Bool) → eqb q p ≡ b → count_by (eqb q) (walk n (next p)) ≡ one (ltb (between (next p) q) n)
        → one b + count_by (eqb q) (walk n (next p)) ≡ one (ltb (between p q) (suc n))
    first true t rest =
        let same : q ≡ p = eqb-true q p t in
        let none = (here p q hp hq).smallest 0 (no_steps p ∙ sym same) in
        let far : between (next p) q ≡ 84 = rw same (furthest p hp) in
        rw (rest, le-ltb (between (next p) q) n (omega arith), lt-ltb (between p q) (suc n) (omega arith))
    first false t rest = rw (rest, nearer p q hp hq (λ e. eqb-false q p t (sym e))) (closer (between (next p) q))

pub once : (p : ℕ) → p ≤ 84 → Once p
once p hp =
    record {
      size = walk-length 85 p;
      each = λ q hq. counted 85 p q (omega arith) hp hq ∙ rw (lt-ltb (between p q) 85 (omega arith));
      again = omega (arith, steps-mod 85 p hp);
    }

-- where it comes, so many come before it
came : (n p q : ℕ) → p ≤ 84 → q ≤ 84 → between p q < n → before q (walk n p) ≡ between p q
unfolding walk before
came zero p q hp hq h = absurd (omega arith)
came (suc n) p q hp hq h = first (eqb p q) refl (came n (next p) q (next-pointer p hp) hq)
  where
    first : (b : Bool) → eqb p q ≡ b → (between (next p) q < n → before q (walk n (next p)) ≡ between (next p) q)
        → cond b 0 (1 + before q (walk n (next p))) ≡ between p q
    first true t later = let none = (here p q hp hq).smallest 0 (no_steps p ∙ eqb-true p q t) in omega arith
    first false t later =
        let step = nearer p q hp hq (eqb-false p q t) in
        let rest = later (omega arith) in
        omega arith

pub frames-between : (p q : ℕ) → p ≤ 84 → q ≤ 84 → frames p q ≡ between p q
unfolding frames
frames-between p q hp hq = came 85 p q hp hq (omega arith)
