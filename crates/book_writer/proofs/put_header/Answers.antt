-- `book_writer::put_header` meets its contract: two numbers, one behind the other, before what stays. Assumes nothing.
use Rattle.book_writer.proofs.Stores.{header_put}
use Rattle.book_writer.proofs.put_header.Goals as goal

pub returns : goal.returns
returns c =
    header_put c.args.n c.args.year c.args.out.now _ _ c.requires c.write.ensures c.write-2.ensures
