-- `book::header::has_size` meets its contract. Assumes nothing.
use native.Mathlib.Omega.{arith}
use Rattle.book.proofs.Headers.{too_short, long_enough}
use Rattle.book.proofs.header.has_size.Goals as goal

pub returns-then-bytes-lt-HEADER : goal.returns-then-bytes-lt-HEADER
returns-then-bytes-lt-HEADER c = too_short c.args.bytes.now c.if-bytes-lt-HEADER.true

pub returns : goal.returns
returns c = let long = long_enough c.args.bytes.now c.if-bytes-lt-HEADER.false in grind arith
