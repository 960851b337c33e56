use Rattle.std.proofs.Common.{◌≡◌, refl, ap, ◌∙◌, ℕ, ◌+◌, ◌*◌, ◌%◌, get_or}
use native.Mathlib.Omega.{arith}
use lib.Bits.{bit_xor}
use Rattle.header_code.specs.Symbols.{symbols_of, combined}
use Rattle.header_code.proofs.Symbols.{next-rest, combined-next}
use Rattle.header_symbols.proofs.combine.Goals as goal

pub loop-place-init : goal.loop-place-init
unfolding symbols_of
loop-place-init c = (omega arith, refl)

pub loop-place-preserved : goal.loop-place-preserved
loop-place-preserved c =
    let a = c.args in
    let l = c.loop-place in (
      next-rest _ _ _ l.invariant.0,
      ap (bit_xor (get_or a.table.now (l.place * 16 + l.rest % 16) 0)) l.invariant.1
          ∙ combined-next a.table.now l.place a.word l.rest l.invariant.0,
    )

pub returns : goal.returns
returns c =
    let l = c.loop-place in
    let ten : l.place ≡ 10 = omega arith in
    l.invariant.1 ∙ ap (λ (n : ℕ). combined c.args.table.now (symbols_of n c.args.word)) ten
