-- `book_writer::put_entry` meets its contract: two numbers, one behind the other. Assumes nothing.
use Rattle.book_writer.proofs.Stores.{entry-put}
use Rattle.book_writer.proofs.put_entry.Goals as goal

pub returns : goal.returns
returns c =
    entry-put c.args.instant c.args.offset c.args.out.now _ _ c.requires c.write.ensures c.write-2.ensures
