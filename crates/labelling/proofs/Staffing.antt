-- Every stream with its shifts has a list of calls: before each shift its operator is named, which is never refused, and then its bytes are read.
-- Assumes nothing.
use mathlib.Core.Path.{◌≡◌, refl, ap, ap₂, ◌∙◌}
use mathlib.Core.List.{List, [], ◌∷◌, ◌++◌, map, append_assoc, append-nil, map-append}
use Prim.Native.Nat.{ℕ, ◌+◌, ◌^◌, ◌≤◌}
use native.Mathlib.Omega.{arith}
use lib.ListN.{length, length-append}
use Rattle.labelling.specs.declared.Tally.{Tally}
use Rattle.labelling.specs.Calls.{DutyCall, duty_refusal, duty_answer, Call, changes, duty_after, last_duty, joined, stamped, done, changed}
use Rattle.labelling.specs.Calls.{Reads, no_call, takes_all, stops}
use Rattle.labelling.specs.Once.{ReadBySome, Shift, bytes_in, AllOperators, WorkedBySome}
use Rattle.labelling.proofs.CallLaws.{duty_no_refusal, duty_accepted, duty_rule, duty_ordered}
use Rattle.labelling.proofs.Reaching.{handed-append, Reached, reads_reached, readable}

-- ---- one list after another

duty_append : (k : ℕ) (cs ds : List Call) → last_duty k (cs ++ ds) ≡ last_duty (last_duty k cs) ds
duty_append k [] ds = refl
duty_append k (c ∷ cs) ds = duty_append (duty_after k c) cs ds

stamped-append : (k : ℕ) (cs ds : List Call) → stamped k (cs ++ ds) ≡ stamped k cs ++ stamped (last_duty k cs) ds
stamped-append k [] ds = refl
stamped-append k (c ∷ cs) ds = rw (stamped-append (duty_after k c) cs ds, append_assoc)

-- ---- an operator is named, who is still on duty after the calls cs

module _ (d : DutyCall) (cs ds : List Call) (k : ℕ) (e : duty_refusal d ≡ 0) (stays : last_duty d.operator cs ≡ d.operator) where
  comes-on : duty_after k (changes d) ≡ d.operator
  comes-on = rw e

  named-duty : last_duty k (changes d ∷ (cs ++ ds)) ≡ last_duty d.operator ds
  named-duty = ap (λ (j : ℕ). last_duty j (cs ++ ds)) comes-on ∙ duty_append d.operator cs ds ∙ ap (λ (j : ℕ). last_duty j ds) stays

  named-stamped : stamped k (changes d ∷ (cs ++ ds)) ≡ stamped d.operator cs ++ stamped d.operator ds
  named-stamped =
      ap (λ (j : ℕ). stamped j (cs ++ ds)) comes-on
      ∙ stamped-append d.operator cs ds
      ∙ ap (λ (j : ℕ). stamped d.operator cs ++ stamped j ds) stays

-- ---- a list that reads pieces names nobody

reads_duty : {t u : Tally} {a b : List ℕ} {ps qs : List (List ℕ)} {cs : List Call} (k : ℕ) → Reads t a ps cs u b qs → last_duty k cs ≡ k
reads_duty k no_call = refl
reads_duty k (takes_all c e n r) = reads_duty k r
reads_duty k (stops c e n r) = reads_duty k r

reads_stamped : {t u : Tally} {a b : List ℕ} {ps qs : List (List ℕ)} {cs : List Call} (k : ℕ) → Reads t a ps cs u b qs
    → stamped k cs ≡ map (λ b. (b, k)) (joined cs)
unfolding joined
reads_stamped k no_call = refl
reads_stamped k (takes_all c e n r) = rw (map-append, reads_stamped k r)
reads_stamped k (stops c e n r) = rw (map-append, reads_stamped k r)

-- ---- the shifts

module _ (rule : ℕ) (a₀ : List ℕ) where
  -- some calls work the shifts ss, whatever bytes are before
  abbrev Workable : List Shift → Type 0
  Workable ss = (t : Tally) (a xs : List ℕ) → Reached rule a₀ t a xs → length xs + length (bytes_in ss) ≤ 2 ^ 40 → WorkedBySome t a ss

  -- one shift, where those after it are workable
  one_shift : (s : Shift) (ss : List Shift) → s.operator ≤ 7 → Workable ss → Workable (s ∷ ss)
  one_shift s ss few then-rest t a xs i fits = record {
    calls = changes d ∷ (r.calls ++ w.calls);
    tally = w.tally;
    area = w.area;
    handed = changed d accepts (handed-append r.handed w.handed);
    stamped_is = λ k. named-stamped d r.calls w.calls k accepts stays ∙ ap₂ (λ (x y : List (ℕ × ℕ)). x ++ y) on-duty (w.stamped_is s.operator);
    duty_is = λ k. named-duty d r.calls w.calls k accepts stays ∙ w.duty_is s.operator;
  }
    where
      whole : length (bytes_in (s ∷ ss)) ≡ length s.bytes + length (bytes_in ss)
      whole = length-append s.bytes (bytes_in ss)

      d : DutyCall
      d = record { tally = t; operator = s.operator }

      accepts : duty_refusal d ≡ 0
      accepts = duty_no_refusal t s.operator i.order few

      named : Reached rule a₀ (duty_answer d) a xs
      named = record { inv = rw (duty_accepted d accepts) i.inv; order = duty_ordered d i.order; rule_is = duty_rule d accepts ∙ i.rule_is }

      r : ReadBySome (duty_answer d) a (s.bytes ∷ [])
      r = readable rule a₀ (s.bytes ∷ []) (duty_answer d) a xs named (rw (append-nil s.bytes) (omega (arith, whole)))

      bytes_are : joined r.calls ≡ s.bytes
      bytes_are = r.joined_is ∙ append-nil s.bytes

      stays : last_duty s.operator r.calls ≡ s.operator
      stays = reads_duty s.operator r.reads

      on-duty : stamped s.operator r.calls ≡ map (λ b. (b, s.operator)) s.bytes
      on-duty = reads_stamped s.operator r.reads ∙ ap (λ (l : List ℕ). map (λ b. (b, s.operator)) l) bytes_are

      after : Reached rule a₀ r.tally r.area (xs ++ s.bytes)
      after = rw bytes_are at (reads_reached rule a₀ xs r.reads named)

      w : WorkedBySome r.tally r.area ss
      w = then-rest r.tally r.area (xs ++ s.bytes) after (omega (arith, whole, length-append xs s.bytes))

  pub worked : (ss : List Shift) → AllOperators ss → Workable ss
  worked [] all t a xs i fits = record { calls = []; tally = t; area = a; handed = done; stamped_is = λ k. refl; duty_is = λ k. refl }
  worked (s ∷ ss) all t a xs i fits = one_shift s ss all.0 (worked ss all.1) t a xs i fits
