-- `vectors::sums::others` meets its contract: the bytes that pass are counted as base counts them. Assumes nothing.
use Rattle.std.proofs.Common.{rules}
use Rattle.vectors.specs.Folds.{is_other}
use Rattle.vectors.proofs.Folding.{count_by-std}
use Rattle.vectors.proofs.sums.others.Goals as goal

pub returns : goal.returns
returns c = rw (count_by-std (is_other c.args.b) c.args.bytes.now) (search rules)
