use mathlib.Core.Path.{◌≡◌, refl}
use mathlib.Core.Bool.{Bool, true, false, cond}
use Prim.Native.Nat.{ℕ, ◌+◌, ◌-◌, ◌≤◌, ◌<◌}
use native.Mathlib.Omega.{arith}
use lib.Dec.{leb}
use borrow.Author.Tests.{leb-true}
use Rattle.nominal.specs.Stretches.{last_place}
use Rattle.voted.proofs.blocks.blocks.Goals as goal

-- places are left, and fewer where a block was whole
fewer_left : (t : Bool) (a b : ℕ) → leb (a + 64) b ≡ t → a ≤ last_place → b ≤ last_place → cond t (128 - b) 0 < 128 - a
fewer_left true a b e h l = omega (arith, leb-true (a + 64) b e)
fewer_left false a b e h l = omega arith

pub loop-more-init : goal.loop-more-init
loop-more-init c = record { kept = λ i q f k. k; has_room = c.requires }

pub block-next-requires : goal.block-next-requires
block-next-requires c = c.loop-more.invariant.has_room

pub overflow_add-more : goal.overflow_add-more
overflow_add-more c = omega (arith, c.loop-more.invariant.has_room.room)

pub loop-more-smaller : goal.loop-more-smaller
loop-more-smaller c =
    rw c.loop-more-test.true
    (fewer_left _ c.loop-more.next.placed c.block-next.result.placed refl c.loop-more.invariant.has_room.room c.block-next.ensures.0.has_room.room)

pub loop-more-preserved : goal.loop-more-preserved
loop-more-preserved c =
    let went = c.block-next.ensures.0 in
    record { kept = λ i q f b. went.kept i q f (c.loop-more.invariant.kept i q f b); has_room = went.has_room }

pub returns : goal.returns
returns c = c.loop-more.invariant
