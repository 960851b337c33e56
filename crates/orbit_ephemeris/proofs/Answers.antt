-- The promise of `read`, on each way out: what is refused is refused by the lines, and what is given is given where none of them holds.
-- Assumes nothing.
use Rattle.std.proofs.Common.{◌≡◌, sym, ap, ◌∙◌, List, ℕ, Result, Ok, Err, IsErrAnd}
use Rattle.base.specs.declared.refusal.Refusal.{Refusal}
use Rattle.base.specs.Refusals.{number_of}
use Rattle.base.proofs.Lines.{numbered}
use Rattle.cycle_records.specs.Columns.{column_of}
use Rattle.cycle_records.specs.Lines.{dated_lines}
use Rattle.cycle_records.proofs.Known.{i, instant_answer, Dated}
use Rattle.cycle_records.proofs.Refusals.{refused-first, left_over}
use Rattle.orbit_ephemeris.specs.declared.Ephemeris.{Ephemeris}
use Rattle.orbit_ephemeris.specs.Record.{ephemeris_place, ephemeris_in, ephemeris_of}
use Rattle.orbit_ephemeris.specs.Promise.{EphemerisIn, EphemerisPromise}

module _ (cycle : List ℕ) (y k : ℕ) (d : Result ℕ Refusal) (is : d ≡ instant_answer cycle y k) where
  abbrev given : Ephemeris
  given = ephemeris_in (i cycle y k) (column_of cycle k) (ephemeris_place k)

  pub ephemeris_refused : (e : Refusal) (r : Result Ephemeris Refusal) → d ≡ Err e → IsErrAnd r (λ (f : Refusal). f ≡ e) → EphemerisPromise cycle y k r
  unfolding ephemeris_of
  ephemeris_refused e (Ok a) f h = absurd h
  ephemeris_refused e (Err g) f h =
      let answer = refused-first (dated_lines cycle y k) (i cycle y k) (Ok given) e (Err g) (sym is ∙ f) h in
      record { answer = answer; refusal_is = ap number_of answer ∙ numbered (dated_lines cycle y k) given; in_step = tt; exact = tt }

  pub ephemeris_given : (t : ℕ) (c : List ℕ) (p : ℕ) (a : Ephemeris) → d ≡ Ok t → Dated cycle y k t → c ≡ column_of cycle k → p ≡ ephemeris_place k
      → EphemerisIn t c p a → EphemerisPromise cycle y k (Ok a)
  unfolding ephemeris_of
  ephemeris_given t c p a e known f g h =
      let same : EphemerisIn (i cycle y k) (column_of cycle k) (ephemeris_place k) a = rw (sym known.is, f, g) at h in
      let answer = ap Ok same.answer ∙ left_over (dated_lines cycle y k) (i cycle y k) (Ok given) t (sym is ∙ e) in
      record {
        answer = answer;
        refusal_is = ap number_of answer ∙ numbered (dated_lines cycle y k) given;
        in_step = rw same.answer known.in_step_fact;
        exact = same.exact;
      }
