-- `tally_numbers::put_counts` meets its contract: two numbers are copies, two are flags, and eight are the paid counts. Assumes nothing.
use mathlib.Core.Path.{◌≡◌}
use lib.ListN.{length}
use Rattle.tally_numbers.specs.Numbers.{counts_only}
use Rattle.tally_numbers.proofs.Numbers.{written_out}
use borrow.Author.Rules.{rules}
use Rattle.tally_numbers.proofs.put_counts.Goals as goal
use Rattle.tally_numbers.proofs.put_counts.Goals.{Start}

-- the struct has eight counts
eight : (s : Start) → length s.args.o.paid ≡ 8
eight s = search rules

pub returns : goal.returns
returns c =
    let a = c.args in
    written_out (counts_only a.g a.f a.r a.o a.rule) c.from-first.ensures c.from-second.ensures c.flag-hunting.ensures
    c.flag-erasure.ensures (eight (goal.at.returns c).Start)
