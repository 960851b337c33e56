-- `lookup_bytes::instant_at` meets its contract: the eight bytes of an instant that there is are there, and its two halves are the
-- instant's. Assumes nothing.
use Rattle.std.proofs.Common.{◌+◌, ◌*◌, ◌≤◌, ◌<◌, length, ℕ, List}
use native.Mathlib.Omega.{arith}
use Rattle.lookup_bytes.specs.Promise.{instants_in}
use Rattle.lookup_bytes.proofs.Instants.{count_is, instant-read}
use Rattle.lookup_bytes.proofs.instant_at.Goals as goal

there : (bytes : List ℕ) (place : ℕ) → place < length (instants_in bytes) → 8 * place + 8 ≤ length bytes
there bytes place h = omega (arith, h, count_is bytes)

pub overflow_mul-at : goal.overflow_mul-at
overflow_mul-at c = omega (arith, there c.args.bytes.now c.args.place c.requires, c.type_inv.bytes 0)

pub overflow_add-at : goal.overflow_add-at
overflow_add-at c = omega (arith, there c.args.bytes.now c.args.place c.requires)

pub four-requires : goal.four-requires
four-requires c = omega (arith, there c.args.bytes.now c.args.place c.requires)

pub four-requires-2 : goal.four-requires-2
four-requires-2 c = omega (arith, there c.args.bytes.now c.args.place c.requires)

pub returns : goal.returns
returns c =
    instant-read c.args.bytes.now c.args.place (there c.args.bytes.now c.args.place c.requires) _ _ c.four-2.ensures c.four.ensures
