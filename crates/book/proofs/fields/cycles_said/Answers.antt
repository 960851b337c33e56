-- `book::fields::cycles_said` meets its contract: two bytes are a number below 65,536. Assumes nothing.
use native.Mathlib.Omega.{arith}
use Rattle.base.proofs.Numbers.{Bytes}
use Rattle.book.proofs.Said.{cycles_read, cycles_below}
use Rattle.book.proofs.fields.cycles_said.Goals as goal

pub returns : goal.returns
returns c =
    let b = c.args.bytes.now in
    let are_bytes_lem : Bytes b = λ k. omega (arith, c.type_inv.bytes k) in
    let is = cycles_read b _ c.read.ensures in
    let below = cycles_below b are_bytes_lem in
    (is, omega arith)
