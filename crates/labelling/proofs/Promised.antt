-- What a fresh tally promises, put together, for the rule that is given: the one asked for, or rule 1. Assumes nothing.
use mathlib.Core.Path.{◌≡◌, refl}
use mathlib.Core.Bool.{Bool, true, false}
use Prim.Native.Nat.{ℕ}
use Rattle.labelling.specs.declared.Tally.{Tally}
use Rattle.labelling.specs.Machine.{fresh}
use Rattle.labelling.specs.Order.{is_rule}
use Rattle.labelling.specs.Once.{fresh_refusal, rule_given, FreshPromise}
use Rattle.labelling.proofs.Demand.{once, reaches, reaches_shifts}
use Rattle.labelling.proofs.SideBySide.{cuts-duties}
use Rattle.labelling.proofs.BothRules.{read_alike, cuts-suffice}
use Rattle.labelling.proofs.CopyErrors.{reach}
use Rattle.labelling.proofs.Unharmed.{unharmed, stops_same, reads_likewise}

-- ---- the refusal

pub rule_known : (rule : ℕ) → is_rule rule ≡ true → (fresh_refusal rule ≡ 0) × (rule_given rule ≡ rule)
unfolding fresh_refusal rule_given
rule_known rule h = (rw h, rw h)

pub rule_unknown : (rule : ℕ) → is_rule rule ≡ false → (fresh_refusal rule ≡ 15) × (rule_given rule ≡ 1)
unfolding fresh_refusal rule_given
rule_unknown rule h = (rw h, rw h)

-- what is given is a rule
given-rule : (rule : ℕ) → is_rule (rule_given rule) ≡ true
given-rule rule = go (is_rule rule) refl
  where
    go : (b : Bool) → is_rule rule ≡ b → is_rule (rule_given rule) ≡ true
    go true h = rw (rule_known rule h).1 h
    go false h = rw (rule_unknown rule h).1

-- ---- the promise

pub fresh-promise : (rule n : ℕ) (r : Tally) → n ≡ fresh_refusal rule → r ≡ fresh (rule_given rule) → FreshPromise rule n r
fresh-promise rule n r e f = rw (e, f) record {
  refusal_is = refl;
  is_fresh = refl;
  once = once (rule_given rule) (given-rule rule);
  reaches = reaches (rule_given rule) (given-rule rule);
  reaches_shifts = reaches_shifts (rule_given rule) (given-rule rule);
  alike = record { read_alike = read_alike; cuts-suffice = cuts-suffice };
  copy_errors = record {
    unharmed = unharmed (rule_given rule) (given-rule rule);
    cuts-suffice = cuts-duties;
    stops_same = stops_same (rule_given rule) (given-rule rule);
    reads_likewise = reads_likewise (rule_given rule) (given-rule rule);
    not_empty = reach;
  };
}
