-- Laws of the sum without carries, of all numbers. Assumes nothing.
use mathlib.Core.Path.{◌≡◌, refl, sym, ap, ap₂, ◌∙◌}
use Prim.Native.Nat.{ℕ, zero, suc, ◌+◌, ◌*◌, ◌/◌, ◌%◌, ◌<◌}
use native.Mathlib.Nat.{mod-lt, zero-lt-suc}
use native.Mathlib.Omega.{arith}
use lib.Arith.{bin_ind}
use lib.Bits.{differ, xor_step, xor_shr, xor_mod, xor_comm, xor_self, xor_zero_r}
use Rattle.header_code.specs.Field.{◌⊕◌}
use Rattle.header_patterns.proofs.Every.{same2}

bit : (a : ℕ) → a % 2 < 2
bit a = mod-lt a (zero-lt-suc 1)

last_bit : (a b : ℕ) → (a ⊕ b) % 2 ≡ differ (a % 2) (b % 2)
last_bit a b = xor_mod a b 1 ∙ same2 2 2 (λ a b. a ⊕ b) differ tt (a % 2) (b % 2) (bit a) (bit b)

bits-assoc : (c a b : ℕ) → c < 2 → a < 2 → b < 2 → differ (differ a b) c ≡ differ a (differ b c)
bits-assoc zero a b hc = same2 2 2 (λ a b. differ (differ a b) 0) (λ a b. differ a (differ b 0)) tt a b
bits-assoc (suc zero) a b hc = same2 2 2 (λ a b. differ (differ a b) 1) (λ a b. differ a (differ b 1)) tt a b
bits-assoc (suc (suc c)) a b hc = absurd (omega arith)

pub assoc : (a b c : ℕ) → a ⊕ b ⊕ c ≡ a ⊕ (b ⊕ c)
assoc =
    bin_ind (λ (n : ℕ). (b c : ℕ) → n ⊕ b ⊕ c ≡ n ⊕ (b ⊕ c)) (λ b c. refl)
    (λ n ih b c. xor_step (n ⊕ b) c
    ∙ ap₂ (λ (x y : ℕ). x * 2 + y)
    (ap (λ (x : ℕ). x ⊕ c / 2) (xor_shr n b 1) ∙ ih (b / 2) (c / 2) ∙ ap (λ (x : ℕ). n / 2 ⊕ x) (sym (xor_shr b c 1)))
    (ap (λ (x : ℕ). differ x (c % 2)) (last_bit n b) ∙ bits-assoc (c % 2) (n % 2) (b % 2) (bit c) (bit n) (bit b)
    ∙ ap (λ (x : ℕ). differ (n % 2) x) (sym (last_bit b c)))
    ∙ sym (xor_step n (b ⊕ c)))

pub swap : (a b c d : ℕ) → (a ⊕ b) ⊕ (c ⊕ d) ≡ (a ⊕ c) ⊕ (b ⊕ d)
swap a b c d =
    assoc a b (c ⊕ d) ∙ ap (λ (x : ℕ). a ⊕ x) (sym (assoc b c d) ∙ ap (λ (x : ℕ). x ⊕ d) (xor_comm b c) ∙ assoc c b d)
    ∙ sym (assoc a c (b ⊕ d))

pub undo : (a b : ℕ) → a ⊕ (a ⊕ b) ≡ b
undo a b = sym (assoc a a b) ∙ ap (λ (x : ℕ). x ⊕ b) (xor_self a)

pub equal : (a b : ℕ) → a ⊕ b ≡ 0 → a ≡ b
equal a b e = sym (xor_zero_r a) ∙ ap (λ (x : ℕ). a ⊕ x) (sym e) ∙ undo a b
