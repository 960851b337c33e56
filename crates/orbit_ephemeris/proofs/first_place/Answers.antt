-- `orbit_ephemeris::first_place` meets its contract. Assumes nothing.
use Prim.Native.Nat.{◌%◌}
use native.Mathlib.Omega.{arith}
use borrow.Author.Tests.{ne_eqb}
use Rattle.orbit_ephemeris.proofs.first_place.Goals as goal

pub returns-then-k-eq0 : goal.returns-then-k-eq0
returns-then-k-eq0 c = (rw c.if-k-eq0.true, omega arith)

pub returns : goal.returns
returns c = (rw (ne_eqb (c.args.k % 2) 0 c.if-k-eq0.false), omega arith)
