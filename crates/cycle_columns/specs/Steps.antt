-- A record in step with its cycle's time code. Definitions only.
use Rattle.std.specs.Prelude.{◌≡◌, List, ℕ, ◌+◌, ◌*◌}
use Rattle.cycle.specs.Cycle.{instant_of}

-- the instant i of major frame k's records: 8.192 s on it is the time code, k major frames of 4.096 s later
abbrev pub InStep : List ℕ → ℕ → ℕ → ℕ → Type 0
InStep cycle y k i = i + 131072 ≡ instant_of y cycle + 65536 * k
