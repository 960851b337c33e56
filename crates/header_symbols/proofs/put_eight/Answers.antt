-- `header_symbols::put_eight` meets its contract: the five stores leave the header with the word's symbols. Assumes nothing.
use native.Mathlib.Omega.{arith}
use lib.ListN.{length-set}
use Rattle.header_symbols.proofs.Bytes.{put-placed}
use Rattle.header_symbols.proofs.put_eight.Goals as goal

pub bounds-header-7 : goal.bounds-header-7
bounds-header-7 c = simp length-set (omega arith)

pub returns : goal.returns
returns c = put-placed c.args.word c.args.header.now c.requires
