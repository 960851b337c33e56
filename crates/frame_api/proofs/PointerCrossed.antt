-- What `data_pointer` promises of an answer, said of what crosses. Assumes nothing.
use Rattle.std.proofs.Common.{◌≡◌, ap, ◌∙◌, List, ℕ, Result, Ok, Err}
use Rattle.base.specs.declared.refusal.Refusal.{Refusal}
use Rattle.base.specs.Refusals.{Line, number_of, given_or, Answers}
use Rattle.base.proofs.Lines.{answered-of}
use Rattle.frame_api.specs.Pointer.{PointerCrossed}

pub pointer_crossed : {lines : List Line} {v code old new : ℕ} {r : Result ℕ Refusal} → Answers lines v r
    → code ≡ number_of r → new ≡ given_or old r → PointerCrossed lines v code old new
pointer_crossed {lines = lines} {v = v} {old = old} p e f = record {
  refusal_is = e ∙ p.refusal_is;
  value-is = f ∙ ap (given_or old) p.answer ∙ answered-of (given_or old) Err lines (Ok v);
}
