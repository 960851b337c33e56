-- `layer_steps::minor::hunt` meets its contract: the word is the next of FA F3 20, or FA, or neither. Assumes nothing.
use mathlib.Core.Path.{◌≡◌, sym, ap, ◌∙◌}
use Prim.Native.Nat.{ℕ}
use borrow.Author.Tests.{ne_eqb}
use Rattle.base.specs.Format.{sync_word}
use Rattle.labelling.specs.MinorFrames.{is_word}
use Rattle.layer_steps.proofs.minor.hunt.Goals as goal
use Rattle.layer_steps.proofs.minor.hunt.Goals.{After-is_word}

-- the word that is waited for is compared
module _ (c : After-is_word) where
  is_next : is_word (sync_word c.args.f.matched) c.args.w ≡ c.is_word.result
  is_next = sym (c.is_word.ensures ∙ ap (λ (n : ℕ). is_word n c.args.w) c.sync_word.ensures)

pub returns-then-f-eq2 : goal.returns-then-f-eq2
returns-then-f-eq2 c =
    rw (is_next (goal.at.returns-then-f-eq2 c).After-is_word ∙ c.if-is_word.true, c.if-f-eq2.true)

pub returns-then-is_word : goal.returns-then-is_word
returns-then-is_word c =
    rw (is_next (goal.at.returns-then-is_word c).After-is_word ∙ c.if-is_word.true, ne_eqb _ _ c.if-f-eq2.false, c.requires.hunting_value)

pub returns-then-is_word-2 : goal.returns-then-is_word-2
returns-then-is_word-2 c =
    let first = sym c.is_word-2.ensures ∙ c.if-is_word-2.true in
    rw (is_next (goal.at.returns-then-is_word-2 c).After-is_word ∙ c.if-is_word.false, first, c.requires.hunting_value)

pub returns : goal.returns
returns c =
    let first = sym c.is_word-2.ensures ∙ c.if-is_word-2.false in
    rw (is_next (goal.at.returns c).After-is_word ∙ c.if-is_word.false, first, c.requires.hunting_value)
