-- Quiet stretches of a piece, which have no SYNC, taken many bytes at a time. Definitions only.
use Rattle.std.specs.Prelude.{◌≡◌, Bool, not, List, ℕ, ◌+◌, ◌<◌, eqb, length, get_or, take, drop}
use Rattle.base.specs.Format.{SYNC, FILL}

-- byte i of the piece p is b
pub record Byte (p : List ℕ) (i b : ℕ) : Type 0 where
  pub inside : i < length p
  pub is : get_or p i 0 ≡ b

-- from i to j no byte of p is SYNC, and n of them are not FILL
pub data Quiet (p : List ℕ) : ℕ → ℕ → ℕ → Type 0 where
  ends : {i : ℕ} → Quiet p i i 0
  fill : {i j n : ℕ} → Byte p i FILL → Quiet p (i + 1) j n → Quiet p i j n
  stray : {i j n : ℕ} (b : ℕ) → Byte p i b → (b ≡ SYNC → ⊥) → (b ≡ FILL → ⊥) → Quiet p (i + 1) j n → Quiet p i j (n + 1)

-- a quiet stretch from i, which ends where SYNC stands or p ends
pub record ToSync (p : List ℕ) (i j n : ℕ) : Type 0 where
  pub quiet : Quiet p i j n
  pub stops : j < length p → Byte p j SYNC

-- the n bytes of p from i on, and the tests by which they are counted
abbrev pub block : List ℕ → ℕ → ℕ → List ℕ
block p i n = take n (drop i p)

abbrev pub is_sync : ℕ → Bool
is_sync b = eqb b SYNC

abbrev pub not_fill : ℕ → Bool
not_fill b = not (eqb b FILL)
