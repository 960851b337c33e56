-- `pcd_book::writing::write` ends, and lends a room of the book's length. Assumes nothing.
use Rattle.pcd_book.proofs.Binding.{writable}
use Rattle.pcd_book.proofs.writing.write.Goals as goal

pub write_made-requires : goal.write_made-requires
write_made-requires g c =
    let a = c.args in
    writable a.year a.bodies.now a.room.now c.requires c.book_length-length.result c.book_length-length.ensures c.if-room-length.false
