-- The lead-in, fed a byte at a time where a lock awaits its word, is three groups of equal copies: so it leaves `led_in` under either rule, and the
-- call after it begins there. Assumes nothing.
use mathlib.Core.Path.{◌≡◌, refl, sym, ap, ◌∙◌}
use mathlib.Core.Bool.{Bool, true, false}
use mathlib.Core.List.{List, [], ◌∷◌}
use Prim.Native.Nat.{ℕ, ◌+◌, ◌^◌, ◌≤◌, ◌<◌}
use native.Mathlib.Omega.{arith}
use lib.ListN.{length, get_or}
use lib.Seq.{length-sets}
use Rattle.base.specs.Format.{SYNC, sync_word, major_frame}
use Rattle.labelling.specs.declared.Framing.{Framing}
use Rattle.labelling.specs.declared.Tally.{Tally}
use Rattle.labelling.specs.Votes.{rule_vote}
use Rattle.labelling.specs.Machine.{State, state_of, with_state}
use Rattle.labelling.specs.Order.{in_order}
use Rattle.labelling.specs.Calls.{TakeCall, take_refusal, Answer, Progress, answer, answer_with, feed}
use Rattle.labelling.proofs.CallLaws.{passed, no_refusal, accepted-answer, answer-ordered}
use Rattle.labelling.proofs.Feeding.{loop_start}
use Rattle.labelling.proofs.Votes.{unanimous}
use Rattle.nominal.specs.Stretches.{Group, Nominal, ends, group}
use Rattle.nominal.proofs.Effect.{plain_feed, placed-plain}
use Rattle.own_sync.specs.Relocking.{lead_in_bytes, lead_in}
use Rattle.quiet.specs.Quiet.{Byte}
use Rattle.reader.specs.Shapes.{call_of, locked_by}
use Rattle.tally_numbers.specs.Numbers.{framing_of, tally_of}
use Rattle.in_place.specs.Places.{call_in}
use Rattle.in_place.specs.Leading.{LeadFits, after_lead, Tested, led_in, begun_with}
use Rattle.in_place.proofs.Laws.{none-booked}

-- ---- what the lead-in does to a state

lead-byte : (i b : ℕ) → i < 12 → get_or lead_in_bytes i 0 ≡ b → Byte lead_in_bytes i b
lead-byte i b h e = record { inside = h; is = e }

lead-nominal : Nominal lead_in_bytes 0 12 (sync_word 0 ∷ sync_word 1 ∷ sync_word 2 ∷ [])
lead-nominal = group (sync_word 0) first (group (sync_word 1) second (group (sync_word 2) third ends))
  where
    first : Group lead_in_bytes 0 (sync_word 0)
    first = record {
      sync = lead-byte 0 SYNC (omega arith) refl;
      first = lead-byte 1 (sync_word 0) (omega arith) refl;
      second = lead-byte 2 (sync_word 0) (omega arith) refl;
      third = lead-byte 3 (sync_word 0) (omega arith) refl;
    }

    second : Group lead_in_bytes 4 (sync_word 1)
    second = record {
      sync = lead-byte 4 SYNC (omega arith) refl;
      first = lead-byte 5 (sync_word 1) (omega arith) refl;
      second = lead-byte 6 (sync_word 1) (omega arith) refl;
      third = lead-byte 7 (sync_word 1) (omega arith) refl;
    }

    third : Group lead_in_bytes 8 (sync_word 2)
    third = record {
      sync = lead-byte 8 SYNC (omega arith) refl;
      first = lead-byte 9 (sync_word 2) (omega arith) refl;
      second = lead-byte 10 (sync_word 2) (omega arith) refl;
      third = lead-byte 11 (sync_word 2) (omega arith) refl;
    }

lead-fed : (rule : ℕ) (t : State) (a : List ℕ) → t.framing.hunting ≡ false → t.framing.placed ≡ 0 → t.groups.«open» ≡ 0
    → feed (rule_vote rule) t a lead_in_bytes ≡ record { state = led_in t; area = a; taken = 12; complete = false }
lead-fed rule t a places at_first outside =
    loop_start (rule_vote rule) t a lead_in_bytes
    ∙ plain_feed (placed-plain (unanimous rule) {a = a} lead-nominal t record { closed = outside; places = places; room = omega (arith, at_first) })

-- ---- what it does to a tally

-- the tally that the run begins with
abbrev pub begun_tally : Bool → Tally → Tally
begun_tally led t = with_state (begun_with led (state_of t)) t

-- the call, after the lead-in or not, begins with that tally, and is accepted
pub record Begins (led : Bool) (c : TakeCall) : Type 0 where
  pub call-is : after_lead led c ≡ call_of (begun_tally led c.tally) c.piece c.area
  pub order : in_order (begun_tally led c.tally) ≡ true
  pub fits : (begun_tally led c.tally).groups.bytes + length c.piece ≤ 2 ^ 40
  pub frame-length : length (begun_tally led c.tally).frame ≡ length c.tally.frame

module _ (n frame piece area : List ℕ) (o : in_order (tally_of n frame) ≡ true) (w : length area ≡ major_frame) where
  abbrev c : TakeCall
  c = call_in n frame piece area

  module _ (h : LeadFits n (length piece)) where
    lead-accepted : take_refusal (lead_in c) ≡ 0
    lead-accepted = no_refusal c.tally lead_in_bytes area o w (omega (arith, h.fits))

    lead-answer : answer (lead_in c) ≡ record { tally = begun_tally true c.tally; area = area; taken = 12; complete = false }
    lead-answer =
        let fed = lead-fed c.tally.rule (state_of c.tally) area h.places h.at_first h.outside_group in
        accepted-answer (lead_in c) lead-accepted
        ∙ ap (λ (r : Progress). answer_with c.tally r) fed
        ∙ rw (none-booked c.tally.operators)

    pub begins-led : Begins true c
    begins-led = record {
      call-is = ap (λ (x : Answer). call_of x.tally piece x.area) lead-answer;
      order = ap (λ (x : Answer). in_order x.tally) (sym lead-answer) ∙ answer-ordered (lead_in c) o;
      fits = omega (arith, h.fits);
      frame-length = length-sets frame c.tally.framing.placed (sync_word 0 ∷ sync_word 1 ∷ sync_word 2 ∷ []);
    }

pub begins : (led : Bool) (n frame piece area : List ℕ) → Tested led n frame piece area → Begins led (call_in n frame piece area)
begins true n frame piece area t = begins-led n frame piece area t.order t.area_length (t.leads refl)
begins false n frame piece area t = record { call-is = refl; order = t.order; fits = t.fits; frame-length = refl }

-- the call after the lead-in, or without it, is accepted where the call itself is; and it hunts as that does
pub next-call : (n frame piece area : List ℕ) (led : Bool) → (led ≡ true → LeadFits n (length piece)) → let c = call_in n frame piece area in
    take_refusal c ≡ 0
    → (take_refusal (after_lead led c) ≡ 0) × ((f : Framing) → locked_by (framing_of n) f ≡ locked_by (after_lead led c).tally.framing f)
next-call n frame piece area false h e = (e, λ f. refl)
next-call n frame piece area true h e =
    let c = call_in n frame piece area in
    let p = passed c e in
    let b = begins-led n frame piece area p.ordered_tally p.whole-area (h refl) in (
      ap take_refusal b.call-is ∙ no_refusal (begun_tally true c.tally) piece area b.order p.whole-area b.fits,
      λ f. ap (λ (x : TakeCall). locked_by x.tally.framing f) (sym b.call-is),
    )
