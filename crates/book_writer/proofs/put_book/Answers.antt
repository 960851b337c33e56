-- `book_writer::put_book` meets its contract: the header, the entries and the bodies are the book. Assumes nothing.
use Rattle.book_writer.proofs.Stores.{book-put}
use Rattle.book_writer.proofs.put_book.Goals as goal

pub returns : goal.returns
returns c =
    let a = c.args in
    book-put a.year a.bodies.now a.n c.requires.1 a.out.now _ _ _ c.requires.2 c.put_header.ensures c.put_entries.ensures
    c.copy_from_slice.ensures.after
