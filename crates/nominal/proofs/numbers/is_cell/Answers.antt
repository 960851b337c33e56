-- `nominal::numbers::is_cell` meets its contract: equal numbers of eight digits have equal digits, and the ninth byte is looked at.
-- Assumes nothing.
use mathlib.Core.Path.{◌≡◌}
use Prim.Native.Nat.{ℕ}
use native.Mathlib.Omega.{arith}
use borrow.Author.Tests.{eq-eqb, eqb-true}
use Rattle.nominal.proofs.Digits.{cell-is, cell-sum}
use Rattle.nominal.proofs.numbers.is_cell.Goals as goal

pub returns-then-eight-from : goal.returns-then-eight-from
returns-then-eight-from c =
    let w = c.from in
    let cell = cell-is c.args.x w.result w.ensures (omega arith) c.eight.ensures (omega arith) c.if-eight-from.true in
    record { holds = λ q. cell record { inside = c.requires; is = eqb-true _ _ q }; told = λ k. eq-eqb _ _ k.fifth.is }

pub returns : goal.returns
returns c =
    let e = c.eight.ensures in
    let w = c.from in
    record {
      holds = λ q. let z : ◌≡◌ {A = ℕ} 0 1 = cc in absurd (omega arith);
      told = λ k. absurd (c.if-eight-from.false (cell-sum c.args.x w.result w.ensures (omega arith) e k));
    }
