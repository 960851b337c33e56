-- The two rules of the vote (02, request 6): rule 1 is 01's, by bytes (`byte_vote`); rule 2 goes by bits. And what the laws need of a vote,
-- whichever it is. Definitions only.
use Rattle.std.specs.Prelude.{◌≡◌, cond, ℕ, zero, suc, ◌+◌, ◌*◌, ◌/◌, ◌%◌, ◌^◌, ◌≤◌, eqb, leb}
use Rattle.base.specs.Lists.{one}
use Rattle.labelling.specs.declared.Word.TheVariants.{Voted, Erased}
use Rattle.labelling.specs.Words.{Vote, byte_vote}

-- ---- 02's sentence

-- bit i of n, counted from the lowest
abbrev pub bit_at : ℕ → ℕ → ℕ
bit_at i n = n / 2 ^ i % 2

-- how many of three bits are x
abbrev pub how_many : ℕ → ℕ → ℕ → ℕ → ℕ
how_many x p q r = one (eqb p x) + one (eqb q x) + one (eqb r x)

-- each bit of w is the one that at least two of the copies a, b, c have
abbrev pub EachBit : ℕ → ℕ → ℕ → ℕ → Type 0
EachBit a b c w = (i : ℕ) → 2 ≤ how_many (bit_at i w) (bit_at i a) (bit_at i b) (bit_at i c)

-- ---- the vote by bits

-- of three bits, the one that at least two are
abbrev pub most : ℕ → ℕ → ℕ → ℕ
most p q r = cond (leb 2 (p + q + r)) 1 0

-- of the n lowest bits of three numbers, each the one that at least two have
abbrev pub voted_bits : ℕ → ℕ → ℕ → ℕ → ℕ
voted_bits zero a b c = 0
voted_bits (suc n) a b c = voted_bits n (a / 2) (b / 2) (c / 2) * 2 + most (a % 2) (b % 2) (c % 2)

-- As many bits as the copies need, and not eight: a number has no more bits than its value says, so a + b + c are enough. So the vote is one on
-- any three numbers, and no law about it has to ask for bytes. That this is 02's sentence, and that no other word is, is `VotedByBits`
unfoldable pub bit_vote : Vote
bit_vote a b c = Voted (voted_bits (a + b + c) a b c)

-- w is the word of a, b, c by bits
pub record VotedByBits (a b c w : ℕ) : Type 0 where
  pub each-bit : EachBit a b c w
  pub no_other : (v : ℕ) → EachBit a b c v → v ≡ w
  -- where the vote by bytes gives a word, it is the same
  pub as_by_bytes : (v : ℕ) → byte_vote a b c ≡ Voted v → v ≡ w

-- ---- the vote of a rule

unfoldable pub rule_vote : ℕ → Vote
rule_vote rule = cond (eqb rule 2) bit_vote byte_vote

-- ---- what the laws need of a vote

-- three equal copies give their word
pub record Unanimous (vote : Vote) : Type 0 where
  pub all_three : (x : ℕ) → vote x x x ≡ Voted x

-- two equal copies decide, whatever the third is
pub record Majority (vote : Vote) : Type 0 where
  pub first_two : (x y : ℕ) → vote x x y ≡ Voted x
  pub outer_two : (x y : ℕ) → vote x y x ≡ Voted x
  pub last_two : (x y : ℕ) → vote y x x ≡ Voted x

-- no group is split
abbrev pub NeverSplit : Vote → Type 0
NeverSplit vote = (a b c : ℕ) → vote a b c ≡ Erased → ⊥
