-- `header_symbols::pack` meets its contract: bytes more at the end of a number are symbols more. Assumes nothing.
use Prim.Native.Nat.{ℕ, ◌<◌}
use native.Mathlib.Omega.{arith}
use lib.ListN.{get_or}
use Rattle.header_symbols.proofs.Bytes.{header_symbols_lem}
use Rattle.header_symbols.proofs.pack.Goals as goal

pub returns : goal.returns
returns c =
    let header = c.args.header.now in
    let bytes : (i : ℕ) → get_or header i 0 < 256 = λ i. omega (arith, c.type_inv.header i) in
    header_symbols_lem header _ _ _ _ _ _ bytes c.byte_at.ensures c.byte_at-2.ensures c.byte_at-3.ensures
    c.byte_at-4.ensures c.byte_at-5.ensures c.join.ensures
