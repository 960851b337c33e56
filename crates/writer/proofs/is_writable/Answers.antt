-- `writer::is_writable` meets its contract: its tests are the definition's. Assumes nothing.
use Rattle.labelling.specs.Machine.{synced_bytes}
use Rattle.writer.specs.Stream.{is_writable}
use borrow.Author.Rules.{rules}
use Rattle.writer.proofs.is_writable.Goals as goal

pub returns : goal.returns
unfolding is_writable synced_bytes
returns c = search rules
