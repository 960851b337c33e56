use Rattle.std.proofs.Common.{arith}
use Rattle.word72_column.proofs.Words.{is_gathered}
use Rattle.word72_column.proofs.put_words.Goals as goal

pub returns : goal.returns
returns c =
    let l = c.loop-frame in
    is_gathered c.args.area.now l.column l.invariant.1 (λ m b. l.invariant.2 m (omega arith))
