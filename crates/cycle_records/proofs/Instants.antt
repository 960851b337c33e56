-- The instant of a record is its time code moved by whole major frames, and where the writer takes it exactly so. Assumes nothing.
use mathlib.Core.Path.{◌≡◌, refl}
use mathlib.Core.Bool.{Bool, true, false, ◌&&◌}
use Prim.Native.Nat.{ℕ, zero, suc, ◌+◌, ◌*◌, ◌-◌, ◌≤◌, ◌<◌, min}
use native.Mathlib.Omega.{arith}
use lib.Dec.{leb}
use borrow.Author.Tests.{ne_eqb, leb-true, leb-false}
use Rattle.time_code.specs.Calendar.{last_day}
use Rattle.time_code.specs.Codec.{has_code}
use Rattle.time_code.specs.Fields.{day_of}
use Rattle.cycle_records.specs.Instants.{record_instant, SameInstants, is_writable}

-- ---- moved by whole major frames
pub moved : (t k : ℕ) → k ≤ 3 → t + k * 65536 - 131072 ≡ record_instant t k
unfolding record_instant
moved t zero h = omega arith
moved t (suc zero) h = omega arith
moved t (suc (suc zero)) h = omega arith
moved t (suc (suc (suc zero))) h = omega arith
moved t (suc (suc (suc (suc k)))) h = absurd (omega arith)

-- a major frame above the last has the instant of the last
pub last_frame : (k : ℕ) → SameInstants (min k 3) k
unfolding record_instant
last_frame k = go (leb k 3) refl
  where
    go : (b : Bool) → leb k 3 ≡ b → SameInstants (min k 3) k
    go true e t = let same : min k 3 ≡ k = omega (arith, leb-true k 3 e) in rw same
    go false e t =
        let above : 3 < k = leb-false k 3 e in
        let last : min k 3 ≡ 3 = omega arith in
        rw (last, ne_eqb k 0 (λ f. omega arith), ne_eqb k 1 (λ f. omega arith), ne_eqb k 2 (λ f. omega arith))

-- ---- an instant that the writer takes was not cut off at 0, so that it is in step
day-one : (y i : ℕ) → is_writable y i ≡ true → 0 < i
unfolding has_code
day-one y i f = go (leb 1 (day_of i)) refl f
  where
    go : (b : Bool) → leb 1 (day_of i) ≡ b → (b && leb (day_of i) (last_day y)) ≡ true → 0 < i
    go true g q = let d : 1 ≤ day_of i = leb-true 1 (day_of i) g in omega arith
    go false g q = absurd (let z : ◌≡◌ {A = ℕ} 0 1 = cc in omega arith)

module _ (t : ℕ) where
  abbrev InStep : ℕ → Type 0
  InStep k = record_instant t k + 131072 ≡ t + 65536 * k

  stepped : (k : ℕ) → k ≤ 3 → 0 < record_instant t k → InStep k
  unfolding record_instant
  stepped zero h p = omega arith
  stepped (suc zero) h p = omega arith
  stepped (suc (suc zero)) h p = omega arith
  stepped (suc (suc (suc zero))) h p = omega arith
  stepped (suc (suc (suc (suc k)))) h p = absurd (omega arith)

  pub in_step : (y k : ℕ) → k ≤ 3 → is_writable y (record_instant t k) ≡ true → InStep k
  in_step y k h e = stepped k h (day-one y (record_instant t k) e)
