-- The promise of `find` on each of its two ways out: it follows from where the halving rule ends and from the laws of the rule. Assumes nothing.
use Rattle.std.proofs.Common.{◌≡◌, refl, ap, ◌∙◌, Bool, true, false, cond, List, ℕ, ◌-◌, ◌≤◌, ◌<◌, Option, Some, None, SomeIff, Result, Ok, Err}
use native.Mathlib.Omega.{arith}
use lib.Dec.{eqb, ltb}
use lib.ListN.{length}
use borrow.Author.Tests.{lt-ltb, le-ltb, ne_eqb, eqb-false}
use Rattle.base.specs.declared.refusal.Refusal.{Refusal}
use Rattle.base.specs.declared.refusal.Refusal.TheVariants.{ListTooLong}
use Rattle.base.specs.Refusals.{answered}
use Rattle.base.proofs.Lines.{told}
use Rattle.lookup.specs.declared.Found.{Found}
use Rattle.lookup.specs.Halving.{Search}
use Rattle.lookup.specs.Answer.{find_lines, found, Halved, place_of, looks_of}
use Rattle.lookup.specs.Promise.{FindPromise}
use Rattle.lookup.proofs.Halving.{unique, within, few, outcome}
use Rattle.lookup.proofs.WholeReading.{weaken, never_falls}

-- one less, or none where there is none less
pub place_is : (low looks : ℕ) (p : Option ℕ) → SomeIff p (1 ≤ low) (low - 1) → p ≡ (found low looks).place
place_is low looks None h = let e : low ≡ 0 = omega arith in rw e refl
place_is low looks (Some p) h = rw (ne_eqb low 0 (λ e. omega arith)) (ap Some h.1)

module _ (xs : List ℕ) (wanted low looks : ℕ) (rule : Search xs wanted low looks) where
  -- the answer, by whether the list is too long
  abbrev by_length : Bool → Result Found Refusal
  by_length too_long = cond too_long (Err ListTooLong) (Ok (found low looks))

  looks_told : (too_long : Bool) → looks_of (by_length too_long) ≤ looks
  looks_told true = omega arith
  looks_told false = omega arith

  place-told : (too_long : Bool) → ◌≡◌ {A = ℕ} (cond too_long 12 0) 0 → place_of (by_length too_long) ≡ (found low looks).place
  place-told true e = absurd (omega arith)
  place-told false e = refl

  place-there : (too_long low-0 : Bool) (p : ℕ) → eqb low 0 ≡ low-0
      → place_of (cond too_long (Err ListTooLong) (Ok (record { place = cond low-0 None (Some (low - 1)); looks = looks }))) ≡ Some p → p < length xs
  place-there true b p e h = absurd cc
  place-there false true p e h = absurd cc
  place-there false false p e h = let q : low - 1 ≡ p = cc in omega (arith, within xs wanted rule (omega arith), eqb-false low 0 e)

  pub promised : (r : Result Found Refusal) → r ≡ answered Err (find_lines xs) (Ok (found low looks)) → FindPromise xs wanted r
  promised r e =
      let too_long = ltb 100000 (length xs) in
      let fewer = looks_told too_long in
      record {
        low = low;
        looks = looks;
        rule = rule;
        no_other = λ l k other. unique xs wanted other rule;
        answers = told (find_lines xs) (found low looks) r e;
        there = λ p h. place-there too_long (eqb low 0) p refl (rw e at h);
        few_looks = λ d h. rw e (omega (arith, few xs wanted rule (omega arith) d (omega arith)));
        no_looks = λ h. rw e (omega (arith, few xs wanted rule (omega arith) 0 (omega arith)));
        whole_reading = λ ok rises. rw e (place-told too_long ok ∙ never_falls xs wanted (weaken xs rises) low looks rule);
      }

module _ (xs : List ℕ) (wanted : ℕ) where
  pub refused-12 : 100000 < length xs → FindPromise xs wanted (Err ListTooLong)
  refused-12 h = let o = outcome xs wanted in promised xs wanted o.low o.looks o.rule _ (rw lt-ltb)

  pub accepted : {f : Found} → length xs ≤ 100000 → Halved xs wanted f → FindPromise xs wanted (Ok f)
  accepted h f = promised xs wanted f.low f.looks f.rule _ (rw (le-ltb 100000 (length xs)) (ap Ok f.found_is))

  -- there is an answer for every list
  pub record Answerable : Type 0 where
    pub found : Result Found Refusal
    pub promised : FindPromise xs wanted found

  pub answerable : Answerable
  answerable =
      let o = outcome xs wanted in
      let r = answered Err (find_lines xs) (Ok (found o.low o.looks)) in
      record { found = r; promised = promised xs wanted o.low o.looks o.rule r refl }
