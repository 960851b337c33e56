-- `feeding::piece_end` meets its contract: what is left of a piece is a byte at least. Assumes nothing.
use Prim.Native.Nat.{◌<◌}
use native.Mathlib.Nat.{mod-lt}
use native.Mathlib.Omega.{arith}
use Rattle.feeding.proofs.Laws.{ends_with-the_stream, ends_at-a_multiple}
use Rattle.feeding.proofs.piece_end.Goals as goal

pub returns-then-size-at : goal.returns-then-size-at
returns-then-size-at c =
    let w = c.args in
    (omega arith, λ h. omega arith, λ h. h, ends_with-the_stream w.at w.piece w.size (λ h. omega arith))

pub returns-then-piece-eq0 : goal.returns-then-piece-eq0
returns-then-piece-eq0 c =
    let w = c.args in
    (omega arith, λ h. h, λ h. h, ends_with-the_stream w.at w.piece w.size (λ h. omega arith))

pub overflow_sub-left : goal.overflow_sub-left
overflow_sub-left c = let w = c.args in let some : 0 < w.piece = omega arith in omega (arith, mod-lt w.at some)

pub returns-then-size-at-2 : goal.returns-then-size-at-2
returns-then-size-at-2 c =
    let w = c.args in
    (omega arith, λ h. h, λ h. h, ends_with-the_stream w.at w.piece w.size (λ h. omega arith))

pub returns : goal.returns
returns c =
    let w = c.args in
    let some : 0 < w.piece = omega arith in
    (omega arith, λ h. omega (arith, mod-lt w.at some), λ h. omega arith, ends_at-a_multiple w.at w.piece w.size some (omega arith))
