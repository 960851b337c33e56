-- `reel_map::class_of` meets its contract: its tests are the definition's, in its order. Assumes nothing.
use borrow.Author.Tests.{lt-ltb, le-ltb}
use Rattle.reel_map.proofs.class_of.Goals as goal

pub returns-then-before-after : goal.returns-then-before-after
returns-then-before-after c = rw (lt-ltb _ _ c.if-before-after.true)

pub returns-then-before-after-2 : goal.returns-then-before-after-2
returns-then-before-after-2 c = rw (le-ltb _ _ c.if-before-after.false, lt-ltb _ _ c.if-before-after-2.true)

pub returns-then-before-after-3 : goal.returns-then-before-after-3
returns-then-before-after-3 c =
    rw (le-ltb _ _ c.if-before-after.false, le-ltb _ _ c.if-before-after-2.false, lt-ltb _ _ c.if-before-after-3.true)

pub returns-then-before-after-4 : goal.returns-then-before-after-4
returns-then-before-after-4 c =
    rw (le-ltb _ _ c.if-before-after.false, le-ltb _ _ c.if-before-after-2.false, le-ltb _ _ c.if-before-after-3.false, lt-ltb _ _ c.if-before-after-4.true)

pub returns-then-before-after-5 : goal.returns-then-before-after-5
returns-then-before-after-5 c =
    rw (le-ltb _ _ c.if-before-after.false, le-ltb _ _ c.if-before-after-2.false, le-ltb _ _ c.if-before-after-3.false, le-ltb _ _ c.if-before-after-4.false, lt-ltb _ _ c.if-before-after-5.true)

pub returns-then-before-after-6 : goal.returns-then-before-after-6
returns-then-before-after-6 c =
    rw (
      le-ltb _ _ c.if-before-after.false,
      le-ltb _ _ c.if-before-after-2.false,
      le-ltb _ _ c.if-before-after-3.false,
      le-ltb _ _ c.if-before-after-4.false,
      le-ltb _ _ c.if-before-after-5.false,
      lt-ltb _ _ c.if-before-after-6.true,
    )

pub returns : goal.returns
returns c =
    rw (
      le-ltb _ _ c.if-before-after.false,
      le-ltb _ _ c.if-before-after-2.false,
      le-ltb _ _ c.if-before-after-3.false,
      le-ltb _ _ c.if-before-after-4.false,
      le-ltb _ _ c.if-before-after-5.false,
      le-ltb _ _ c.if-before-after-6.false,
    )
