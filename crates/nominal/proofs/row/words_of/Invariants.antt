-- `nominal::row::words_of` meets its contract: one word more at each turn, the second digit of its group's number. Assumes nothing.
use mathlib.Core.Path.{◌≡◌}
use Prim.Native.Nat.{◌-◌, ◌≤◌}
use lib.ListN.{length}
use Rattle.nominal.proofs.Rows.{WordsTo}
use Rattle.nominal.proofs.row.words_of.Given as goal

abbrev pub invariant-loop-k : goal.invariant-loop-k
invariant-loop-k l = (l.k ≤ 16) × (length l.words ≡ 16) × WordsTo l.piece l.at l.words l.k

abbrev pub decreases-loop-k : goal.decreases-loop-k
decreases-loop-k l = 16 - l.k
