-- `vcdu_header::check` meets its contract on each of its two ways out. Assumes nothing.
use Prim.Native.Nat.{ℕ, ◌<◌}
use native.Mathlib.Omega.{arith}
use lib.ListN.{get_or}
use Rattle.vcdu_header.proofs.Promises.{check_refused, check_told}
use Rattle.vcdu_header.proofs.check.Goals as goal

pub returns-then-header-ne-HEADER : goal.returns-then-header-ne-HEADER
returns-then-header-ne-HEADER c =
    let header = c.args.header.now in
    let bytes : (i : ℕ) → get_or header i 0 < 256 = λ i. omega (arith, c.type_inv.header i) in
    check_refused header bytes c.if-header-ne-HEADER.true

pub returns : goal.returns
returns c =
    let header = c.args.header.now in
    let bytes : (i : ℕ) → get_or header i 0 < 256 = λ i. omega (arith, c.type_inv.header i) in
    check_told header bytes _ _ c.if-header-ne-HEADER.false c.pack-word.ensures c.syndrome.ensures _ (omega arith)
