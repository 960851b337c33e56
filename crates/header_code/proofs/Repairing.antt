-- Which code word lies within two symbols of a word, from what is located: on each way that repairing ends. Assumes nothing.
use mathlib.Core.Path.{◌≡◌, refl, sym, ap, ◌∙◌}
use mathlib.Core.Bool.{Bool, true, false}
use mathlib.Core.List.{List}
use mathlib.Core.Option.{Option, none, some}
use Prim.Native.Nat.{ℕ, ◌≤◌, ◌<◌}
use native.Mathlib.Omega.{arith}
use lib.Bits.{xor_self}
use lib.Dec.{eqb}
use borrow.Author.Tests.{eqb-true, eqb-false}
use Rattle.header_code.specs.Field.{◌⊕◌}
use Rattle.header_code.specs.Code.{Word, CodeWord, distance, add, weight, Near, the_only, no_word}
use Rattle.header_code.specs.Symbols.{symbols_of, number_of, combined}
use Rattle.header_code.specs.Decoder.{syndromes, located}
use Rattle.header_code.proofs.Words.{value-lt, add-word, add-undo, weight-add, distance_self}
use Rattle.header_code.proofs.Symbols.{symbols-word, number-symbols}
use Rattle.header_code.proofs.Syndromes.{syndrome, is_syndrome, syndrome-add, syndrome-code, code_syndrome}
use Rattle.header_code.proofs.Light.{located-light}
use Rattle.header_code.proofs.Unique.{same-syndrome, difference, unique}

module _ {w : List ℕ} (x : Word 10 w) where
  pub syndrome-fits : combined syndromes w < 65536
  syndrome-fits = omega (arith, is_syndrome x (omega arith), value-lt 6 x, value-lt 7 x, value-lt 8 x, value-lt 9 x)

  only : {c : List ℕ} → CodeWord c → distance w c ≤ 2 → Near w (some c)
  only g h = the_only g h (λ d g' h'. unique x g' g h' h)

  -- wrong symbols that have the word's syndrome
  module _ (e : ℕ) (same : combined syndromes (symbols_of 10 e) ≡ combined syndromes w) where
    abbrev errors : List ℕ
    errors = symbols_of 10 e

    y : Word 10 errors
    y = symbols-word 10 e

    clean : CodeWord (add w errors)
    clean =
        syndrome-code (add-word x y)
        (syndrome-add x y ∙ ap (λ (s : ℕ). syndrome w ⊕ s) (sym (is_syndrome y (omega arith)) ∙ same ∙ is_syndrome x (omega arith)) ∙ xor_self (syndrome w))

    pub changed : distance w (add w errors) ≡ weight errors
    changed = sym (weight-add x (add-word x y)) ∙ ap weight (add-undo x y)

    pub repaired : weight errors ≤ 2 → Near w (some (add w errors))
    repaired h = only clean (omega (arith, changed))

  -- a code word within two symbols of the word leads to what is located
  module _ {c : List ℕ} (g : CodeWord c) (h : distance w c ≤ 2) where
    found : located (combined syndromes w) ≡ number_of (add w c)
    found = ap located (is_syndrome x (omega arith)) ∙ difference x g h

  pub unlike : (combined syndromes (symbols_of 10 (located (combined syndromes w))) ≡ combined syndromes w → ⊥) → Near w none
  unlike other = no_word (λ c g h. other (reached g h))
    where
      reached : {c : List ℕ} → CodeWord c → distance w c ≤ 2 → combined syndromes (symbols_of 10 (located (combined syndromes w))) ≡ combined syndromes w
      reached {c} g h =
          let z = add-word x g.word in
          ap (λ (n : ℕ). combined syndromes (symbols_of 10 n)) (found g h) ∙ ap (combined syndromes) (number-symbols z)
          ∙ is_syndrome z (omega arith) ∙ same-syndrome x g ∙ sym (is_syndrome x (omega arith))

  -- a word whose syndrome is 0 is a code word, and a code word's is 0
  pub is_code : combined syndromes w ≡ 0 → CodeWord w
  is_code e = syndrome-code x (sym (is_syndrome x (omega arith)) ∙ e)

  pub is_clean : CodeWord w → combined syndromes w ≡ 0
  is_clean g = is_syndrome x (omega arith) ∙ code_syndrome g

  pub itself : combined syndromes w ≡ 0 → Near w (some w)
  itself e = only (is_code e) (omega (arith, distance_self w))

  -- what there is of a word is decided by what is located
  pub record Outcome : Type 0 where
    pub near : Option (List ℕ)
    pub nearest : Near w near

  pub outcome : Outcome
  outcome = go (eqb (combined syndromes (symbols_of 10 e)) (combined syndromes w)) refl
    where
      e : ℕ
      e = located (combined syndromes w)

      go : (same : Bool) → eqb (combined syndromes (symbols_of 10 e)) (combined syndromes w) ≡ same → Outcome
      go false s = record { near = none; nearest = unlike (eqb-false (combined syndromes (symbols_of 10 e)) (combined syndromes w) s) }
      go true s =
          let same : combined syndromes (symbols_of 10 e) ≡ combined syndromes w = eqb-true (combined syndromes (symbols_of 10 e)) (combined syndromes w) s in
          record { near = some (add w (symbols_of 10 e)); nearest = repaired e same (located-light (combined syndromes w) syndrome-fits) }
