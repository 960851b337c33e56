-- The table of check symbols: six symbols, followed by what is added up of it for them, are a code word. Assumes nothing.
use mathlib.Core.Path.{◌≡◌, refl, sym, ap, ◌∙◌, subst}
use mathlib.Core.List.{List, ◌++◌}
use Prim.Native.Nat.{ℕ, zero, suc, ◌+◌, ◌*◌, ◌≤◌, ◌<◌}
use native.Mathlib.Omega.{arith}
use lib.Bits.{xor_self}
use lib.ListN.{get_or, take}
use Rattle.header_code.specs.Field.{◌⊕◌}
use Rattle.header_code.specs.Code.{Word, end, symbol, CodeWord}
use Rattle.header_code.specs.Symbols.{symbols_of, combined}
use Rattle.header_code.specs.Decoder.{syndromes, checks}
use Rattle.header_patterns.proofs.Every.{same2}
use Rattle.header_code.proofs.Sums.{assoc}
use Rattle.header_code.proofs.Words.{length-word, add-word}
use Rattle.header_code.proofs.Symbols.{symbols-word, symbols-sum}
use Rattle.header_code.proofs.Syndromes.{is_syndrome, syndrome-add, syndrome-code}

-- what four symbols that are one number add to a syndrome
abbrev four : ℕ → ℕ
four z = combined syndromes (symbols_of 4 z)

four-none : four 0 ≡ 0
unfolding syndromes symbols_of
four-none = refl

four-sum : (x y : ℕ) → four (x ⊕ y) ≡ four x ⊕ four y
four-sum x y =
    let u = symbols-word 4 x in
    let v = symbols-word 4 y in
    ap (combined syndromes) (symbols-sum 4 x y)
    ∙ rw (is_syndrome (add-word u v) (omega arith), is_syndrome u (omega arith), is_syndrome v (omega arith)) (syndrome-add u v)

-- the check symbols of a symbol undo its syndrome, and a check symbol has none
table-rule : (n c : ℕ) → n < 6 → c < 16 → get_or syndromes ((n + 4) * 16 + c) 0 ≡ four (get_or checks ((n + 4) * 16 + c) 0)
unfolding syndromes checks symbols_of
table-rule = same2 6 16 (λ n c. get_or syndromes ((n + 4) * 16 + c) 0) (λ n c. four (get_or checks ((n + 4) * 16 + c) 0)) tt

no_checks : (n c : ℕ) → n < 4 → c < 16 → get_or checks (n * 16 + c) 0 ≡ 0
unfolding checks
no_checks = same2 4 16 (λ n c. get_or checks (n * 16 + c) 0) (λ n c. 0) tt

last_four : {m : ℕ} {w : List ℕ} → Word m w → m ≤ 4 → combined checks w ≡ 0
last_four end h = refl
last_four (symbol {n = n} {c = c} hc r) h = rw (length-word r, no_checks n c (omega arith) hc) (last_four r (omega arith))

-- the first n of n + 4 symbols, and four others
module _ {v : List ℕ} (y : Word 4 v) where
  pub with-four : (n : ℕ) {m : ℕ} {w : List ℕ} → m ≡ n + 4 → Word m w → Word m (take n w ++ v)
  with-four zero e x = subst (λ (k : ℕ). Word k v) (sym (e ∙ omega arith)) y
  with-four (suc n) e end = absurd (omega arith)
  with-four (suc n) e (symbol h x) = symbol h (with-four n (omega arith) x)

  whole : (n : ℕ) {m : ℕ} {w : List ℕ} → m ≡ n + 4 → n ≤ 6 → Word m w → combined syndromes (take n w ++ v) ≡ four (combined checks w) ⊕ combined syndromes v
  whole zero e l x = sym (ap (λ (z : ℕ). z ⊕ combined syndromes v) (ap four (last_four x (omega arith)) ∙ four-none))
  whole (suc n) e l end = absurd (omega arith)
  whole (suc n) e l (symbol {n = m} {c = c} {w = w} h x) =
      let z = combined checks w in
      let here : m ≡ n + 4 = omega arith in
      let rest = whole n here (omega arith) x in
      let entry = get_or checks ((n + 4) * 16 + c) 0 in
      rw (length-word (with-four n here x), length-word x, here, table-rule n c (omega arith) h, rest, four-sum entry z)
      (sym (assoc (four entry) (four z) (combined syndromes v)))

pub encoded : {w : List ℕ} → Word 10 w → CodeWord (take 6 w ++ symbols_of 4 (combined checks w))
encoded {w} x =
    let z = combined checks w in
    let y = symbols-word 4 z in
    let whole_word = with-four y 6 refl x in
    syndrome-code whole_word (sym (is_syndrome whole_word (omega arith)) ∙ whole y 6 refl (omega arith) x ∙ xor_self (four z))
