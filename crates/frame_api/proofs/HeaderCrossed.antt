-- What checking and repairing a header promise, said of what crosses. Assumes nothing.
use Rattle.std.proofs.Common.{◌≡◌, ap, ◌∙◌, Bool, List, ℕ, Result, Ok, Err}
use Rattle.base.specs.declared.refusal.Refusal.{Refusal}
use Rattle.base.specs.Lists.{one}
use Rattle.base.specs.Refusals.{number_of, given_or}
use Rattle.base.proofs.Lines.{answered-of}
use Rattle.vcdu_header.specs.Header.{symbols}
use Rattle.vcdu_header.specs.Answers.{header_lines, repair_lines, changes}
use Rattle.vcdu_header.specs.Promise.{CheckPromise, RepairPromise}
use Rattle.frame_api.specs.Headers.{CheckCrossed, RepairCrossed}

-- what the lent place holds after a check: 1 or 0, or what was there
abbrev pub checked_or : ℕ → Result Bool Refusal → ℕ
checked_or old (Ok word) = one word
checked_or old (Err r) = old

pub check_crossed : {h : List ℕ} {code old new : ℕ} {r : Result Bool Refusal} → CheckPromise h r
    → code ≡ number_of r → new ≡ checked_or old r → CheckCrossed h code old new
check_crossed {h} {old = old} {r = r} p e f = record {
  checked = r;
  promised = p;
  refusal_is = e ∙ p.answers.refusal_is;
  word-is = f ∙ ap (checked_or old) p.answers.answer ∙ answered-of (checked_or old) Err (header_lines h) (Ok p.word);
}

pub repair_crossed : {before after : List ℕ} {code old new : ℕ} {r : Result ℕ Refusal} → RepairPromise before after r
    → code ≡ number_of r → new ≡ given_or old r → RepairCrossed before after code old new
repair_crossed {before} {old = old} {r = r} p e f = record {
  repaired = r;
  promised = p;
  refusal_is = e ∙ p.answers.refusal_is;
  count-is =
      f ∙ ap (given_or old) p.answers.answer
      ∙ answered-of (given_or old) Err (repair_lines before p.near) (Ok (changes (symbols before) p.near));
}
