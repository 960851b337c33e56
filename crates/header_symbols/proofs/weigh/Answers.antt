use Rattle.std.proofs.Common.{◌≡◌, refl, ap, ◌∙◌, ℕ, ◌%◌, ◌≤◌, Bool, true, false, cond, not, eqb}
use native.Mathlib.Omega.{arith}
use mir.Val.{bool_byte}
use Rattle.header_code.specs.Code.{weight}
use Rattle.header_code.specs.Symbols.{symbols_of}
use Rattle.header_code.proofs.Symbols.{next-rest, weight-next}
use Rattle.header_symbols.proofs.weigh.Goals as goal

-- 1 for a symbol that is not 0, else 0
marked : (c r : ℕ) → r ≡ bool_byte (not (eqb c 0)) → (r ≡ cond (eqb c 0) 0 1) × (r ≤ 1)
marked c r e = go (eqb c 0) e
  where
    go : (b : Bool) → r ≡ bool_byte (not b) → (r ≡ cond b 0 1) × (r ≤ 1)
    go true h = (h, omega arith)
    go false h = (h, omega arith)

pub loop-init : goal.loop-init
unfolding symbols_of
loop-init c = (omega arith, omega arith, refl)

pub loop-preserved : goal.loop-preserved
loop-preserved c =
    let inv = c.loop.invariant in
    let mark = marked (c.loop.rest % 16) c.from-count.result c.from-count.ensures in
    (omega (arith, mark.1), next-rest _ _ _ inv.1, omega (arith, mark.0, weight-next _ c.args.word _ inv.1))

pub returns : goal.returns
returns c =
    let ten : c.loop.counter ≡ 10 = omega arith in
    c.loop.invariant.2 ∙ ap (λ (n : ℕ). weight (symbols_of n c.args.word)) ten
