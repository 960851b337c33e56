-- `writer::put_stream` meets its contract: after i turns the slice holds the stream of the first i bytes. Assumes nothing.
use Rattle.writer.proofs.Putting.{Holds}
use Rattle.writer.proofs.put_stream.Given as goal

abbrev pub invariant-loop-i : goal.invariant-loop-i
invariant-loop-i l = Holds l.step l.bytes l.initial.out l.i l.out
