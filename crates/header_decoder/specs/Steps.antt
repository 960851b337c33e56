-- What the functions that locate wrong symbols promise one another. Definitions only.
use Rattle.std.specs.Prelude.{◌≡◌, ℕ, ◌<◌}

-- r is a symbol, the one given
pub record Symbol (c r : ℕ) : Type 0 where
  pub is : r ≡ c
  pub small : r < 16
