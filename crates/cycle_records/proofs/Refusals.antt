-- Laws of an answer by lines that others follow: these refuse first, and alone matter where the first do not. Assumes nothing.
use Rattle.std.proofs.Common.{◌≡◌, sym, ap, ◌∙◌, List, Result, Ok, Err, IsErrAnd}
use Rattle.base.specs.declared.refusal.Refusal.{Refusal}
use Rattle.base.specs.Refusals.{Line, answered}
use Rattle.base.proofs.Lines.{answered-of}

module _ {A B : Type 0} where
  -- what follows an answer: this where it is no refusal
  abbrev followed : Result A Refusal → Result B Refusal → Result B Refusal
  followed (Ok a) next = next
  followed (Err r) next = Err r

  module _ (ls : List Line) (given : A) (next : Result B Refusal) where
    any_next : followed (answered Err ls (Ok given)) next ≡ answered Err ls next
    any_next = answered-of (λ (a : Result A Refusal). followed a next) Err ls (Ok given)

    -- lines that refuse do so whatever follows: `?` hands the refusal on
    pub refused-first : (r : Refusal) (out : Result B Refusal) → answered Err ls (Ok given) ≡ Err r → IsErrAnd out (λ (s : Refusal). s ≡ r)
        → out ≡ answered Err ls next
    refused-first r (Ok b) e h = absurd h
    refused-first r (Err s) e h = ap Err h ∙ sym (ap (λ (a : Result A Refusal). followed a next) e) ∙ any_next

    -- lines that do not refuse leave what follows
    pub left_over : (a : A) → answered Err ls (Ok given) ≡ Ok a → next ≡ answered Err ls next
    left_over a e = sym (ap (λ (b : Result A Refusal). followed b next) e) ∙ any_next
