-- A vote by tests that are joined without branches, and where the two votes agree. Assumes nothing.
use mathlib.Core.Path.{◌≡◌, refl, sym, ◌∙◌}
use mathlib.Core.Bool.{Bool, true, false, cond, not, ◌&&◌, ◌||◌, true≢false}
use Prim.Native.Nat.{ℕ, ◌+◌, ◌*◌, ◌≤◌}
use native.Mathlib.Omega.{arith}
use lib.Dec.{eqb}
use Rattle.std.specs.Int.{from_bool}
use Rattle.labelling.specs.declared.Word.TheVariants.{Voted, Erased}
use Rattle.labelling.specs.Words.{byte_vote}
use Rattle.labelling.specs.Votes.{bit_vote, rule_vote}
use Rattle.labelling.proofs.Votes.{majority, same_word}
use Rattle.votes.specs.Promise.{weak_from}

-- the number of the weak copy, added up
pub numbered : (ab ac bc : Bool) → 3 * from_bool (ab && not ac) + 2 * from_bool (not ab && ac) + from_bool (not ab && not ac && bc) ≡ weak_from ab ac bc
numbered true true bc = refl
numbered true false bc = refl
numbered false true bc = refl
numbered false false true = refl
numbered false false false = refl

-- at most 3, so that one more fits a byte
pub numbered-few : (ab ac bc : Bool) → weak_from ab ac bc ≤ 3
numbered-few true true bc = omega arith
numbered-few true false bc = omega arith
numbered-few false true bc = omega arith
numbered-few false false true = omega arith
numbered-few false false false = omega arith

pub flag-few : (b : Bool) → from_bool b ≤ 1
flag-few true = omega arith
flag-few false = omega arith

-- two copies are equal exactly where one is weak or the first two are equal
pub any_equal : (ab ac bc : Bool) → (weak_from ab ac bc + from_bool ab ≡ 0 → ⊥) → (ab || ac || bc) ≡ true
any_equal true ac bc h = refl
any_equal false true bc h = refl
any_equal false false true h = refl
any_equal false false false h = absurd (h refl)

pub none_equal : (ab ac bc : Bool) → weak_from ab ac bc + from_bool ab ≡ 0 → (ab || ac || bc) ≡ false
none_equal true true bc h = absurd (omega arith)
none_equal true false bc h = absurd (omega arith)
none_equal false true bc h = absurd (omega arith)
none_equal false false true h = absurd (omega arith)
none_equal false false false h = refl

-- where two copies are equal the vote by bits is the vote by bytes
pub agreed : (a b c : ℕ) → (eqb a b || eqb a c || eqb b c) ≡ true → bit_vote a b c ≡ byte_vote a b c
unfolding byte_vote rule_vote
agreed a b c h = go (eqb a b || eqb a c) (eqb b c) refl refl h
  where
    decided : (w : ℕ) → byte_vote a b c ≡ Voted w → bit_vote a b c ≡ byte_vote a b c
    decided w e = same_word (majority 2) a b c w e ∙ sym e

    go : (p q : Bool) → (eqb a b || eqb a c) ≡ p → eqb b c ≡ q → (p || q) ≡ true → bit_vote a b c ≡ byte_vote a b c
    go true q e f h = decided a (rw e)
    go false true e f h = decided b (rw (e, f))
    go false false e f h = absurd (true≢false (sym h))

-- where none are, it gives no word
pub split : (a b c : ℕ) → (eqb a b || eqb a c || eqb b c) ≡ false → Erased ≡ byte_vote a b c
unfolding byte_vote
split a b c h = go (eqb a b || eqb a c) (eqb b c) h
  where
    go : (p q : Bool) → (p || q) ≡ false → Erased ≡ cond p (Voted a) (cond q (Voted b) Erased)
    go true q h = absurd (true≢false h)
    go false true h = absurd (true≢false h)
    go false false h = refl
