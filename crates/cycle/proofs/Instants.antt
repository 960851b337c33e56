-- The instant of a body: the seven bytes that it is read from, that it has 40 bits, so that it fits eight bytes, and that a cycle has one. Assumes nothing.
use mathlib.Core.Path.{◌≡◌, refl, sym, ap, subst, ◌∙◌}
use mathlib.Core.Bool.{Bool, true, false, cond, not, ◌||◌}
use mathlib.Core.List.{List, [], ◌∷◌}
use Prim.Native.Nat.{ℕ, ◌+◌, ◌*◌, ◌^◌, ◌≤◌, ◌<◌}
use native.Mathlib.Omega.{arith}
use lib.Dec.{T, eqb}
use lib.Ieee.Fits.{and_l, and_r}
use lib.ListN.{length, get_or, take}
use lib.Seq.{get_or-take}
use Rattle.base.specs.Format.{major_frame}
use Rattle.base.specs.Ranges.{each}
use Rattle.base.specs.declared.refusal.Refusal.TheVariants.{WrongLength, NoSuchKind, YearOutsideSpan}
use Rattle.base.specs.Refusals.{◌when◌, answered}
use Rattle.base.specs.Rows.{row}
use Rattle.time_code.specs.Calendar.{in_span}
use Rattle.time_code.specs.Codec.{decoded, time_of}
use Rattle.time_code.specs.Fields.{day, hour, minute, second, millisecond, sixteenth, decimal, in_range, is_time, instant}
use Rattle.std.proofs.Common.{Result, Ok, Err}
use Rattle.base.specs.declared.refusal.Refusal.{Refusal}
use Rattle.time_code.specs.declared.TimeCode.{TimeCode}
use Rattle.time_code.proofs.Codes.{to-accepted}
use Rattle.time_fields.proofs.Fields.{Digits, to-digits, InRange, to-range}
use Rattle.word72_column.specs.Columns.{gathered, bears, timed, column_kind}
use Rattle.cycle.specs.Cycle.{cycle_length, all_numbered, answers_kind, is_kind, is_major, is_cycle, time_bytes, instant_in, instant_of}

-- word 72 of the minor frames 96 to 102
pub time_bytes_lem : (body : List ℕ) (b0 b1 b2 b3 b4 b5 b6 : ℕ) → b0 ≡ get_or body 12360 0 → b1 ≡ get_or body 12488 0 → b2 ≡ get_or body 12616 0
    → b3 ≡ get_or body 12744 0 → b4 ≡ get_or body 12872 0 → b5 ≡ get_or body 13000 0 → b6 ≡ get_or body 13128 0
    → b0 ∷ b1 ∷ b2 ∷ b3 ∷ b4 ∷ b5 ∷ b6 ∷ [] ≡ time_bytes body
unfolding time_bytes gathered row
time_bytes_lem body b0 b1 b2 b3 b4 b5 b6 e0 e1 e2 e3 e4 e5 e6 =
    rw (e0 ∙ first 12360 (omega arith), e1 ∙ first 12488 (omega arith), e2 ∙ first 12616 (omega arith), e3 ∙ first 12744 (omega arith))
    (rw (e4 ∙ first 12872 (omega arith), e5 ∙ first 13000 (omega arith), e6 ∙ first 13128 (omega arith)))
  where
    -- in the first major frame
    first : (k : ℕ) → k < 16384 → get_or body k 0 ≡ get_or (take 16384 body) k 0
    first k h = sym (get_or-take 16384 body k 0 h)

module _ (y : ℕ) (w : List ℕ) (t : T (is_time y w)) where
  abbrev in_range_test : Bool
  in_range_test = in_range y (day w) (hour w) (minute w) (second w)

  digits : Digits w 1 12
  unfolding is_time
  digits = to-digits w 1 12 (and_l (decimal w 1 12) in_range_test t)

  range : InRange (day w) (hour w) (minute w) (second w)
  unfolding is_time
  range = to-range y (day w) (hour w) (minute w) (second w) (and_r (decimal w 1 12) in_range_test t)

  time_small : instant w < 2 ^ 40
  time_small =
      let r = range in
      let milliseconds : millisecond w < 1000 = let f = digits in omega arith in
      let sixteenths : sixteenth w < 16 = omega arith in
      bound (day w) (hour w) (minute w) (second w) (millisecond w) (sixteenth w) r milliseconds sixteenths
    where
      bound : (d h m s ms x : ℕ) → InRange d h m s → ms < 1000 → x < 16 → ((((d * 24 + h) * 60 + m) * 60 + s) * 1000 + ms) * 16 + x < 2 ^ 40
      bound d h m s ms x r MS X = omega arith

-- ---- the instant that was read
pub instant-is : (y : ℕ) (body code : List ℕ) (d : Result TimeCode Refusal) → code ≡ time_bytes body → d ≡ decoded y code → instant_in d ≡ instant_of y body
unfolding instant_of
instant-is y body code d e f = ap instant_in (f ∙ ap (decoded y) e)

pub instant-small : (y : ℕ) (body : List ℕ) → instant_of y body < 2 ^ 40
unfolding instant_of
instant-small y body = go (decoded y (time_bytes body)) refl
  where
    go : (d : Result TimeCode Refusal) → decoded y (time_bytes body) ≡ d → instant_in d < 2 ^ 40
    go (Ok t) e =
        let a = to-accepted y (time_bytes body) t e in
        let f = time_small y (time_bytes body) a.is_time_fact in
        let same = ap (λ (u : _). u.instant) a.is_read in
        omega arith
    go (Err n) e = omega arith

pub instant-fits : (y : ℕ) (body : List ℕ) → instant_of y body < 256 ^ 8
instant-fits y body = omega (arith, instant-small y body)

-- ---- a cycle has a time code, so that its instant is never the 0 of a refused one

-- a column that is answered kind 0 bears a time code of a year of the span
kind_timed : (y : ℕ) (c : List ℕ) → T (answers_kind 0 (column_kind y c)) → (in_span y ≡ true) × (timed y c ≡ true)
unfolding column_kind
kind_timed y c h = go (eqb (length c) 128) (in_span y) (bears 1 c) (bears 2 c) (bears 3 c) (timed y c) h
  where
    go : (long inside one two three time : Bool)
        → T (answers_kind 0 (answered Err
        (WrongLength when not long ∷ YearOutsideSpan when not inside ∷ NoSuchKind when not (one || two || three || time) ∷ [])
        (Ok (cond one 1 (cond two 2 (cond three 3 0))))))
        → (inside ≡ true) × (time ≡ true)
    go false inside one two three time h = absurd h
    go true false one two three time h = absurd h
    go true true true two three time h = absurd h
    go true true false true three time h = absurd h
    go true true false false true time h = absurd h
    go true true false false false true h = (refl, refl)
    go true true false false false false h = absurd h

module _ (y : ℕ) (body : List ℕ) (cycle : is_cycle y body ≡ true) where
  abbrev frame : List ℕ
  frame = row major_frame body 0

  first_kind : T (is_kind y 0 frame)
  unfolding is_cycle is_major
  first_kind =
      let majors = and_r (eqb (length body) cycle_length) (each (λ k. is_major y k (row major_frame body k)) 0 4) (subst T (sym cycle) tt) in
      and_r (all_numbered frame) (is_kind y 0 frame) (and_l (is_major y 0 frame) (each (λ k. is_major y k (row major_frame body k)) 1 3) majors)

  timed-so : (in_span y ≡ true) × (is_time y (time_bytes body) ≡ true)
  unfolding is_kind time_bytes
  timed-so = kind_timed y (gathered frame) first_kind

  seven : length (time_bytes body) ≡ 7
  unfolding time_bytes gathered
  seven = refl

  pub cycle_timed : decoded y (time_bytes body) ≡ Ok (time_of (time_bytes body))
  unfolding decoded
  cycle_timed = rw (seven, timed-so.0, timed-so.1)

  pub cycle_instant : 0 < instant_of y body
  unfolding instant_of
  cycle_instant =
      let w = time_bytes body in
      let r = range y w (subst T (sym timed-so.1) tt) in
      rw cycle_timed (positive (day w) (hour w) (minute w) (second w) (millisecond w) (sixteenth w) r.first)
    where
      positive : (d h m s ms x : ℕ) → 1 ≤ d → 0 < ((((d * 24 + h) * 60 + m) * 60 + s) * 1000 + ms) * 16 + x
      positive d h m s ms x first = omega arith
