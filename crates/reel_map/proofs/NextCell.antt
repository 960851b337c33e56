-- The next cell. Assumes nothing.
use mathlib.Core.Path.{◌≡◌, refl}
use mathlib.Core.List.{List}
use Prim.Native.Nat.{ℕ, ◌+◌, ◌*◌, ◌/◌, ◌^◌, ◌≤◌, ◌<◌}
use native.Mathlib.Omega.{arith}
use lib.ListN.{length}
use Rattle.map_cells.specs.Cells.{halved}
use Rattle.reel_map.specs.Drawing.{NextPromise}
use Rattle.reel_map.specs.declared.Map.{Map}

module _ (m r : Map) (old : List ℕ) where
  pub next-none : length old ≤ m.cell → NextPromise m old old r
  next-none h = record { goes_on = λ l. absurd (omega (arith, h, l)); joins = λ e. absurd (omega (arith, h, e)) }

  pub next-goes : m.cell + 1 < length old → (r.cell ≡ m.cell + 1) × (r.length ≡ m.length) → NextPromise m old old r
  next-goes h e = record { goes_on = λ _. (refl, e.0, e.1); joins = λ f. absurd (omega (arith, h, f)) }

  pub next-joins : (new : List ℕ) → length old ≤ m.cell + 1 → new ≡ halved old
      → (r.cell ≡ (m.cell + 1) / 2) × (m.length < 2 ^ 61 → r.length ≡ 2 * m.length) → NextPromise m old new r
  next-joins new h e f = record { goes_on = λ l. absurd (omega (arith, h, l)); joins = λ _. (e, f.0, f.1) }
