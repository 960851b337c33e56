-- The lists that are a tally's are exactly the numbers of tallies. A count or a copy crosses as it is; a flag crosses as 1 or 0, and is read as
-- whether its number is 1. Assumes nothing.
use mathlib.Core.Path.{◌≡◌, refl, sym, ap}
use mathlib.Core.Bool.{Bool, true, false}
use mathlib.Core.List.{List, [], ◌∷◌, ◌++◌}
use Prim.Native.Nat.{ℕ, zero, suc, ◌<◌}
use native.Mathlib.Nat.{mod-lt, mod-eq_of_lt}
use native.Mathlib.Omega.{arith}
use lib.Dec.{T, eqb, ltb, ltb→lt}
use lib.ListN.{length, get_or, length-append}
use lib.Ieee.Fits.{and_l, and_r}
use borrow.Author.Tests.{lt-ltb}
use denote.Floats.{passes}
use Rattle.base.specs.Lists.{one}
use Rattle.base.proofs.Lists.{elements, spelled}
use Rattle.labelling.specs.declared.Operators.{Operators}
use Rattle.labelling.specs.declared.Tally.{Tally}
use Rattle.tally_numbers.specs.Numbers.{run_numbers, weak_numbers, operator_numbers, is_tally, framing_of, tally_of, numbers_of, number_count, Sized, Layout}

-- what a list that is a tally's has shown
pub record Passed (n : List ℕ) : Type 0 where
  pub first_byte : get_or n 6 0 < 256
  pub second-byte : get_or n 7 0 < 256
  pub hunting_flag : get_or n 13 0 < 2
  pub erasure_flag : get_or n 15 0 < 2

pub passed : (n : List ℕ) → is_tally n ≡ true → Passed n
unfolding is_tally
passed n e = let h : T (is_tally n) = passes (is_tally n) e in search (and_l, and_r, ltb→lt) depth 8

-- ---- a flag and its number

flag_read : (b : Bool) → eqb (one b) 1 ≡ b
flag_read true = refl
flag_read false = refl

flag_small : (b : Bool) → ltb (one b) 2 ≡ true
flag_small true = refl
flag_small false = refl

flag_written : (x : ℕ) → x < 2 → one (eqb x 1) ≡ x
flag_written zero h = refl
flag_written (suc zero) h = refl
flag_written (suc (suc x)) h = absurd (omega arith)

-- ---- a tally written out

-- the operators' numbers, one by one
abbrev each_operator : Operators → List ℕ
each_operator o = elements o.paid 0 8 ++ o.duty ∷ []

each-operator : (o : Operators) → length o.paid ≡ 8 → each_operator o ≡ operator_numbers o
each-operator o h = ap (λ (l : List ℕ). l ++ o.duty ∷ []) (sym (spelled o.paid 8 h))

-- and the rule after them
each_last : (o : Operators) (rule : ℕ) → length o.paid ≡ 8 → each_operator o ++ rule ∷ [] ≡ operator_numbers o ++ rule ∷ []
each_last o rule h = ap (λ (l : List ℕ). l ++ rule ∷ []) (each-operator o h)

-- all numbers, where the copies and the flags are these
abbrev each_number : Tally → ℕ → ℕ → ℕ → ℕ → List ℕ
each_number t first second hunting erasure =
    let g = t.groups in
    let f = t.framing in
    (g.bytes ∷ g.fill ∷ g.stray ∷ g.voted ∷ g.split ∷ g.«open» ∷ first ∷ second ∷ [])
    ++ (f.hunted ∷ f.good ∷ f.damaged ∷ f.unsynced ∷ f.placed ∷ hunting ∷ f.matched ∷ erasure ∷ [])
    ++ run_numbers t.runs
    ++ weak_numbers g.weak
    ++ each_operator t.operators
    ++ t.rule ∷ []

pub written_out : (t : Tally) {first second hunting erasure : ℕ} → first ≡ t.groups.first → second ≡ t.groups.second
    → hunting ≡ one t.framing.hunting → erasure ≡ one t.framing.erasure → length t.operators.paid ≡ 8
    → each_number t first second hunting erasure ≡ numbers_of t
written_out t a b c d h = rw (a, b, c, d, each_last t.operators t.rule h)

-- ---- both ways

-- the second layer needs no bound
pub framing_back : (t : Tally) → framing_of (numbers_of t) ≡ t.framing
framing_back t = rw (flag_read t.framing.hunting, flag_read t.framing.erasure)

crosses : (t : Tally) → Sized t → is_tally (numbers_of t) ≡ true
unfolding is_tally
crosses t k =
    rw (
      lt-ltb t.groups.first 256 k.first_byte,
      lt-ltb t.groups.second 256 k.second-byte,
      flag_small t.framing.hunting,
      flag_small t.framing.erasure,
    )

count-is : (t : Tally) → Sized t → length (numbers_of t) ≡ number_count
count-is t k =
    omega (arith, length-append (operator_numbers t.operators) (t.rule ∷ []), length-append t.operators.paid (t.operators.duty ∷ []), k.eight)

reads_back : (t : Tally) → Sized t → tally_of (numbers_of t) t.frame ≡ t
reads_back t k =
    rw (
      mod-eq_of_lt k.first_byte,
      mod-eq_of_lt k.second-byte,
      flag_read t.framing.hunting,
      flag_read t.framing.erasure,
      ← each_last t.operators t.rule k.eight,
    )
    (ap (λ (l : List ℕ). record {
      groups = t.groups;
      framing = t.framing;
      runs = t.runs;
      operators = record { paid = l; duty = t.operators.duty };
      rule = t.rule;
      frame = t.frame;
    })
    (sym (spelled t.operators.paid 8 k.eight)))

writes_back : (n frame : List ℕ) → length n ≡ number_count → is_tally n ≡ true → (numbers_of (tally_of n frame) ≡ n) × Sized (tally_of n frame)
writes_back n frame h e =
    let p = passed n e in (
      rw (
        mod-eq_of_lt p.first_byte,
        mod-eq_of_lt p.second-byte,
        flag_written (get_or n 13 0) p.hunting_flag,
        flag_written (get_or n 15 0) p.erasure_flag,
      )
          (sym (spelled n number_count h)),
      record { first_byte = mod-lt (get_or n 6 0) (omega arith); second-byte = mod-lt (get_or n 7 0) (omega arith); eight = refl },
    )

pub layout : Layout
layout = record { count-is = count-is; crosses = crosses; reads_back = reads_back; writes_back = writes_back }
