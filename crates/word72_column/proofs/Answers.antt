-- The promises of `gather` and `kind`, from the answer that the code gives on each way out; what they say beyond the answer follows from the
-- definitions alone. And whether seven bytes are a time, by the codec's answer. Assumes nothing.
use Rattle.std.proofs.Common.{◌≡◌, refl, ◌∙◌, Bool, true, false, cond, not, ◌||◌, List, [], ◌∷◌, ℕ, length, Result, Ok, Err, arith}
use borrow.Author.Tests.{ne_eqb}
use Rattle.base.specs.declared.refusal.Refusal.{Refusal}
use Rattle.base.specs.declared.refusal.Refusal.TheVariants.{WrongLength, NoSuchKind, TimeOutOfRange, YearOutsideSpan}
use Rattle.std.specs.Result.{is_ok}
use Rattle.base.specs.Refusals.{◌when◌, answered, permitted, number_of}
use Rattle.base.proofs.Lines.{told}
use Rattle.time_code.specs.Calendar.{in_span}
use Rattle.time_code.specs.Codec.{time_of, decoded}
use Rattle.time_code.specs.Fields.{is_time}
use Rattle.time_code.proofs.Codes.{of_seven}
use Rattle.word72_column.specs.Columns.{gathered, gather_lines, gather_after, between, bears, timed, has_kind, kind_of, kind_lines, column_kind, identifier_of}
use Rattle.word72_column.specs.Promise.{GatherPromise, KindPromise}

-- ---- gather
module _ (area column : List ℕ) where
  -- what `gather` answers, and what it leaves
  pub record Gathers (new : List ℕ) (r : Result Unit Refusal) : Type 0 where
    pub answer : r ≡ permitted (gather_lines area column)
    pub promise : GatherPromise area column new (number_of r)

  gathers : (new : List ℕ) (r : Result Unit Refusal) → r ≡ permitted (gather_lines area column) → new ≡ gather_after area column → Gathers new r
  gathers new r e after =
      let t = told (gather_lines area column) tt r e in
      record { answer = e; promise = record { answer = t.refusal_is; after = after } }

  pub wrong-area : (length area ≡ 16384 → ⊥) → Gathers column (Err WrongLength)
  wrong-area h = let no = ne_eqb (length area) 16384 h in gathers column (Err WrongLength) (rw no) (rw no)

  pub wrong-column : length area ≡ 16384 → (length column ≡ 128 → ⊥) → Gathers column (Err WrongLength)
  wrong-column a h = let no = ne_eqb (length column) 128 h in gathers column (Err WrongLength) (rw (a, no)) (rw (a, no))

  pub all-gathered : (new : List ℕ) → length area ≡ 16384 → length column ≡ 128 → new ≡ gathered area → Gathers new (Ok tt)
  all-gathered new a c e = gathers new (Ok tt) (rw (a, c)) (rw (a, c) e)

-- ---- kind

-- whether there is a kind, by the number that the three tests give and the test of the time
module _ (a b c : Bool) where
  abbrev number : ℕ
  number = cond a 1 (cond b 2 (cond c 3 0))

identified : (a b c t : Bool) → (number a b c ≡ 0 → ⊥) → (a || b || c || t) ≡ true
identified true b c t h = refl
identified false true c t h = refl
identified false false true t h = refl
identified false false false t h = absurd (h refl)

by_time : (a b c t : Bool) → number a b c ≡ 0 → (a || b || c || t) ≡ t
by_time true b c t e = absurd (omega arith)
by_time false true c t e = absurd (omega arith)
by_time false false true t e = absurd (omega arith)
by_time false false false t e = refl

module _ (y : ℕ) (column : List ℕ) where
  kind_promise : (r : Result ℕ Refusal) → r ≡ column_kind y column → KindPromise y column r
  unfolding column_kind
  kind_promise r e =
      let t = told (kind_lines y column) (kind_of column) r e in
      record { answer = e; refusal_is = t.refusal_is; kind_is = t.value-is }

  pub kind_refused_2 : (length column ≡ 128 → ⊥) → KindPromise y column (Err WrongLength)
  unfolding column_kind
  kind_refused_2 h = kind_promise _ (rw (ne_eqb (length column) 128 h))

  pub kind_refused_13 : length column ≡ 128 → in_span y ≡ false → KindPromise y column (Err YearOutsideSpan)
  unfolding column_kind
  kind_refused_13 l s = kind_promise _ (rw (l, s))

  module _ (l : length column ≡ 128) (s : in_span y ≡ true) where
    pub kind_named : (k : ℕ) → k ≡ identifier_of (between 96 104 column) → (k ≡ 0 → ⊥) → KindPromise y column (Ok k)
    unfolding column_kind identifier_of
    kind_named k e h =
        let has : has_kind y column ≡ true = identified (bears 1 column) (bears 2 column) (bears 3 column) (timed y column) (λ z. h (e ∙ z)) in
        kind_promise _ (rw (l, s, has, e))

    module _ (none : identifier_of (between 96 104 column) ≡ 0) where
      has_kind_lem : has_kind y column ≡ timed y column
      unfolding identifier_of
      has_kind_lem = by_time (bears 1 column) (bears 2 column) (bears 3 column) (timed y column) none

      pub kind_timed : timed y column ≡ true → KindPromise y column (Ok 0)
      unfolding column_kind identifier_of
      kind_timed t = kind_promise _ (rw (l, s, has_kind_lem, t, none))

      pub kind_refused_6 : timed y column ≡ false → KindPromise y column (Err NoSuchKind)
      unfolding column_kind
      kind_refused_6 t = kind_promise _ (rw (l, s, has_kind_lem, t))

-- ---- whether seven bytes are a time
pub time_accepted : (y : ℕ) (bs : List ℕ) → length bs ≡ 7 → in_span y ≡ true → is_ok (decoded y bs) ≡ is_time y bs
time_accepted y bs h s = rw (of_seven y bs h s) (go (is_time y bs))
  where
    go : (b : Bool) → is_ok (answered Err (TimeOutOfRange when not b ∷ []) (Ok (time_of bs))) ≡ b
    go true = refl
    go false = refl
