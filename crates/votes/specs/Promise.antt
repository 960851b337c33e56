-- What the two votes promise. Definitions only.
use Rattle.std.specs.Prelude.{◌≡◌, Bool, cond, ℕ}
use Rattle.labelling.specs.declared.Word.TheVariants as word
use Rattle.labelling.specs.Words.{Vote, weak_copy}
use Rattle.labelling.specs.Votes.{bit_vote, VotedByBits}
use Rattle.votes.specs.declared.Voted.{Voted}

-- which copy is weak, from which of the copies a, b, c are equal: the case table of `weak_copy`
abbrev pub weak_from : Bool → Bool → Bool → ℕ
weak_from ab ac bc = cond ab (cond ac 0 3) (cond ac 2 (cond bc 1 0))

-- the word that the copies a, b, c give by this vote, and the copy that is weak (02, request 2)
pub record VotePromise (vote : Vote) (a b c : ℕ) (r : Voted) : Type 0 where
  pub word-is : r.word ≡ vote a b c
  pub weak_is : r.weak ≡ weak_copy a b c

-- the vote by bits (02, request 6): there is a word always, which is 02's, and three different copies name none of them
pub record BitVotePromise (a b c : ℕ) (r : Voted) : Type 0 where
  pub answer_is : VotePromise bit_vote a b c r
  pub value : ℕ
  pub always_a_word : r.word ≡ word.Voted value
  pub by_bits : VotedByBits a b c value
  pub none-weak : (a ≡ b → ⊥) → (a ≡ c → ⊥) → (b ≡ c → ⊥) → r.weak ≡ 0
