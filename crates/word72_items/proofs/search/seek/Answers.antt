-- `word72_items::search::seek` meets its contract: numbers never fall, so that the smaller ones end at the place sought. Assumes nothing.
use Rattle.std.proofs.Common.{rules, ◌≡◌, ◌+◌, ◌*◌, ◌-◌, ltb, arith}
use Rattle.std.proofs.lemmas.List.Sorted.{IsPartitionPoint-from_clause}
use Rattle.word72_items.proofs.Found.{row, parted, found}
use Rattle.word72_items.proofs.search.seek.Goals as goal

pub returns : goal.returns
returns c =
    let a = c.args in
    let p = c.partition_point in
    let wide : 128 * (a.kind + 1) - 128 * a.kind ≡ 128 = omega arith in
    let ensures = rw (c.requires.1, wide) at p.ensures in
    let point =
    IsPartitionPoint-from_clause (λ x. ltb x a.number) (row a.kind) p.result ensures.partitioned (parted a.kind (omega arith) a.number)
    (λ x r q k. search rules) in
    found a.kind (omega arith) a.number p.result ensures.bound point
