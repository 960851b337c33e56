-- The sixteen bytes of an answer: two stores of eight bytes, or none. Assumes nothing.
use mathlib.Core.Path.{◌≡◌, ap, ◌∙◌}
use mathlib.Core.List.{List, [], ◌++◌}
use Prim.Native.Nat.{ℕ, ◌-◌, ◌≤◌}
use native.Mathlib.Omega.{arith}
use lib.ListN.{length, drop, length-drop, drop_of_length-le}
use borrow.Author.Tests.{ne_eqb}
use borrow.Rule.Slice.PartMut.{mid_of, put_mid, mid_len}
use Rattle.base.specs.Numbers.{bytes_of}
use Rattle.pay_api.specs.Answer.{answer_bytes, Answered}

-- a number written into the part from a up to e
written : (a e x : ℕ) (l new : List ℕ) → e ≤ length l → new ≡ bytes_of (length (mid_of a (e - a) l)) x → new ≡ bytes_of (e - a) x
written a e x l new h f = f ∙ ap (λ (w : ℕ). bytes_of w x) (mid_len a e l h)

module _ (n result : ℕ) (old : List ℕ) where
  pub wrong-length : (length old ≡ 16 → ⊥) → Answered n result 2 old old
  wrong-length h = record { returns = rw (ne_eqb (length old) 16 h); bytes_are = rw (ne_eqb (length old) 16 h) }

  module _ (u v : List ℕ) (whole : length old ≡ 16) (first : u ≡ bytes_of (length (mid_of 0 8 old)) n)
      (second : v ≡ bytes_of (length (mid_of 8 8 (put_mid 0 8 old u))) result) where
    stored : put_mid 8 8 (put_mid 0 8 old u) v ≡ answer_bytes n result
    stored =
        let upper = written 0 8 n old u (omega arith) first in
        let long : 16 ≤ length (put_mid 0 8 old u) = rw upper (omega (arith, length-drop 8 old)) in
        let lower = written 8 16 result (put_mid 0 8 old u) v long second in
        let none : drop 8 (drop 8 old) ≡ [] = drop_of_length-le (drop 8 old) {i = 8} (omega (arith, length-drop 8 old)) in
        rw (upper, lower) (ap (λ (r : List ℕ). bytes_of 8 n ++ (bytes_of 8 result ++ r)) none)

    pub put : Answered n result n old (put_mid 8 8 (put_mid 0 8 old u) v)
    put = record { returns = rw whole; bytes_are = stored ∙ rw whole }
