-- `word72_column::put_words` meets its contract: each turn puts one more word in its place, and steps to the next. Assumes nothing.
use Rattle.std.proofs.Common.{◌≡◌, ◌<◌, ◌+◌, ◌*◌, ℕ, length, get_or}
use Rattle.word72_column.specs.Columns.{word72}
use Rattle.word72_column.proofs.put_words.Given as goal

abbrev pub invariant-loop-frame : goal.invariant-loop-frame
invariant-loop-frame l = (l.at ≡ 128 * l.frame + 72) × (length l.column ≡ 128) × ((k : ℕ) → k < l.frame → get_or l.column k 0 ≡ word72 l.area k)
