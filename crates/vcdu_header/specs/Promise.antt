-- What the three entries promise: the complete answer and every lent byte afterwards, refused calls too. Definitions only.
use Rattle.std.specs.Prelude.{◌≡◌, Bool, true, List, ℕ, ◌<◌, get_or, take, Result}
use Rattle.std.proofs.Math.Option.{Option, some}
use Rattle.base.specs.declared.refusal.Refusal.{Refusal}
use Rattle.base.specs.Refusals.{answered, refusal, number_of, Answers}
use Rattle.header_code.specs.Code.{CodeWord, Near}
use Rattle.vcdu_header.specs.Header.{symbols, counter, placed}
use Rattle.vcdu_header.specs.Answers.{header_lines, repair_lines, changes, restored}

-- `encode` of a header answers r, by number
pub record EncodePromise (before after : List ℕ) (r : ℕ) : Type 0 where
  -- the one code word with the header's six symbols
  pub word : List ℕ
  pub is_word : CodeWord word
  pub same-six : take 6 word ≡ take 6 (symbols before)
  pub only : (w : List ℕ) → CodeWord w → take 6 w ≡ take 6 (symbols before) → w ≡ word
  -- the answer and the bytes are the refusal table's; where it has none, the header has that word's symbols
  pub answer : r ≡ refusal (header_lines before)
  pub after_is : after ≡ answered (λ n. before) (header_lines before) (placed word before)
  pub symbols-after : r ≡ 0 → symbols after ≡ word
  -- no byte but the last two changes
  pub others_stay : (i : ℕ) → i < 6 → get_or after i 0 ≡ get_or before i 0

-- `check` of a header answers r
pub record CheckPromise (h : List ℕ) (r : Result Bool Refusal) : Type 0 where
  -- whether the ten symbols are a code word
  pub word : Bool
  pub if_yes : word ≡ true → CodeWord (symbols h)
  pub if_word : CodeWord (symbols h) → word ≡ true
  -- the answer is the refusal table's, and where it has none, that
  pub answers : Answers (header_lines h) word r

-- `repair` of a header answers r
pub record RepairPromise (before after : List ℕ) (r : Result ℕ Refusal) : Type 0 where
  -- the code word within two symbols, which is the only one; or there is none
  pub near : Option (List ℕ)
  pub nearest : Near (symbols before) near
  -- the answer and the bytes are the refusal table's; where it has none, the number of wrong symbols, and the header has the word's symbols
  pub answers : Answers (repair_lines before near) (changes (symbols before) near) r
  pub after_is : after ≡ answered (λ n. before) (repair_lines before near) (restored before near)
  pub symbols-after : (c : List ℕ) → number_of r ≡ 0 → near ≡ some c → symbols after ≡ c
  -- no byte of the counter changes
  pub counter_stays : counter after ≡ counter before
