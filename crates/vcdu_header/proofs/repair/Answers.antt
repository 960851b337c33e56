-- `vcdu_header::repair` meets its contract on each of its four ways out. Assumes nothing.
use Prim.Native.Nat.{ℕ, ◌<◌}
use lib.ListN.{get_or}
use borrow.Author.Rules.{rules}
use Rattle.vcdu_header.proofs.Promises.{repair_refused, repair_clean, repair_unlike, repair_done}
use Rattle.vcdu_header.proofs.repair.Goals as goal

pub returns-then-header-ne-HEADER : goal.returns-then-header-ne-HEADER
returns-then-header-ne-HEADER c =
    let header = c.args.header.now in
    let bytes : (i : ℕ) → get_or header i 0 < 256 = λ i. search rules in
    repair_refused header bytes c.if-header-ne-HEADER.true

pub returns-then-left-eq0 : goal.returns-then-left-eq0
returns-then-left-eq0 c =
    let header = c.args.header.now in
    let bytes : (i : ℕ) → get_or header i 0 < 256 = λ i. search rules in
    repair_clean header bytes _ _ c.if-header-ne-HEADER.false c.pack-word.ensures c.syndrome-left.ensures c.if-left-eq0.true

pub returns-then-syndrome-left : goal.returns-then-syndrome-left
returns-then-syndrome-left c =
    let header = c.args.header.now in
    let bytes : (i : ℕ) → get_or header i 0 < 256 = λ i. search rules in
    repair_unlike header bytes _ _ c.if-header-ne-HEADER.false c.pack-word.ensures c.syndrome-left.ensures _ c.located-errors.ensures
    _ c.syndrome.ensures c.if-syndrome-left.true

pub returns : goal.returns
returns c =
    let header = c.args.header.now in
    let bytes : (i : ℕ) → get_or header i 0 < 256 = λ i. search rules in
    repair_done header bytes _ _ c.if-header-ne-HEADER.false c.pack-word.ensures c.syndrome-left.ensures _ c.located-errors.ensures
    _ c.syndrome.ensures c.if-syndrome-left.false _ _ c.put.ensures c.weigh.ensures
