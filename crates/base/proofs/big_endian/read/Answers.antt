use Rattle.std.proofs.Common.{◌≡◌, ap, ◌∙◌, List, ℕ, ◌%◌, ◌^◌, ◌<◌}
use native.Mathlib.Nat.{mod-eq_of_lt}
use native.Mathlib.Omega.{arith}
use lib.Seq.{take_all}
use Rattle.base.specs.Numbers.{big_endian}
use Rattle.base.proofs.Numbers.{Bytes, read_step, big_endian-fits}
use Rattle.base.proofs.big_endian.read.Goals as goal

pub loop-b-init : goal.loop-b-init
unfolding big_endian
loop-b-init c = omega arith

pub loop-b-preserved : goal.loop-b-preserved
loop-b-preserved c =
    let l = c.loop-b in
    let bytes = c.args.bytes.now in
    let byte : c.from.result < 256 = omega (arith, c.type_inv.bytes l.b-index) in
    read_step bytes l.b-index l.n c.from.result (omega arith) c.from.ensures byte l.invariant

pub returns : goal.returns
returns c =
    let l = c.loop-b in
    let bytes = c.args.bytes.now in
    let modulo : l.n ≡ big_endian bytes % 2 ^ 64 = l.invariant ∙ ap (λ (w : List ℕ). big_endian w % 2 ^ 64) (take_all l.b-index bytes (omega arith)) in
    let are_bytes_lem : Bytes bytes = λ k. omega (arith, c.type_inv.bytes k) in
    record { modulo = modulo; whole = λ short. modulo ∙ mod-eq_of_lt (big_endian-fits bytes short are_bytes_lem) }
