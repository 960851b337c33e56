-- The record of a column, from its values one by one. Assumes nothing.
use Rattle.std.proofs.Common.{◌≡◌, sym, ap, ◌∙◌, List, [], ◌∷◌, ℕ, Float, length, Result, Ok, Err, IsErrAnd}
use Rattle.base.specs.declared.refusal.Refusal.{Refusal}
use Rattle.base.specs.Refusals.{answered}
use Rattle.base.proofs.Lines.{ok-none}
use Rattle.cycle_records.specs.Columns.{count_at}
use Rattle.cycle_records.proofs.Refusals.{refused-first, left_over}
use Rattle.float1750.specs.Codec.{decoded}
use Rattle.float1750.specs.Promise.{DecodePromise}
use Rattle.float1750.specs.Word.{value}
use Rattle.orbit_clock.specs.declared.Clock.{Clock}
use Rattle.orbit_clock.specs.Record.{clock_update, normal_line, clock_in}
use Rattle.orbit_clock.specs.Promise.{ClockIn}

-- a word of six bytes is refused where it is neither zero nor normalised
module _ (c : List ℕ) (six : length (clock_update c) ≡ 6) (d : Result Float Refusal) (p : DecodePromise (clock_update c) d) where
  six_read : d ≡ answered Err (normal_line c) (Ok (value (clock_update c)))
  unfolding decoded
  six_read = p.answer ∙ rw six

  pub clock_unread : (e : Refusal) (r : Result Clock Refusal) → d ≡ Err e → IsErrAnd r (λ (f : Refusal). f ≡ e) → ClockIn c r
  clock_unread e (Ok a) f h = absurd h
  clock_unread e (Err g) f h =
      record { answer = refused-first (normal_line c) (value (clock_update c)) (Ok (clock_in c)) e (Err g) (sym six_read ∙ f) h; exact = tt }

  pub clock_read : (v : Float) (b r a : ℕ) → d ≡ Ok v → b ≡ count_at 2 c 36 → r ≡ count_at 2 c 38 → a ≡ count_at 2 c 40
      → ClockIn c (Ok (record { updated = v; bias = b; rate = r; acceleration = a }))
  clock_read v b r a e f g h =
      let is = sym six_read ∙ e in
      let same : value (clock_update c) ≡ v = (ok-none (normal_line c) (value (clock_update c)) v is).1 in
      record {
        answer = rw (sym same, f, g, h) (left_over (normal_line c) (value (clock_update c)) (Ok (clock_in c)) v is);
        exact = p.exact v (rw e);
      }
