-- `book_writer::put_entries` meets its contract: behind the header stand the entries so far, and then what was there before. Assumes nothing.
use mathlib.Core.Path.{◌≡◌}
use mathlib.Core.List.{◌++◌}
use Prim.Native.Nat.{◌+◌, ◌*◌, ◌-◌, ◌≤◌}
use lib.ListN.{length, take, drop}
use Rattle.base.specs.Ranges.{joined}
use Rattle.book.specs.Layout.{entry}
use Rattle.book_writer.specs.Writing.{bodies_in}
use Rattle.book_writer.proofs.put_entries.Given as goal

abbrev pub invariant-loop-i : goal.invariant-loop-i
invariant-loop-i l = (length l.out ≡ length l.initial.out)
    × (l.out ≡ take 4 l.initial.out ++ (joined (entry l.year (bodies_in l.bodies)) 0 l.i ++ drop (4 + 12 * l.i) l.initial.out))
