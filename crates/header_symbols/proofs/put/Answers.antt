-- `header_symbols::put` meets its contract: eight bytes take the symbols, and others stay. Assumes nothing.
use mathlib.Core.Path.{◌∙◌}
use Rattle.header_code.specs.Symbols.{symbols_of}
use Rattle.header_symbols.proofs.Bytes.{put_other, put-header}
use Rattle.header_symbols.proofs.put.Goals as goal

pub returns-then-header-ne-HEADER : goal.returns-then-header-ne-HEADER
returns-then-header-ne-HEADER c =
    let a = c.args in
    put_other (symbols_of 10 a.word) a.header.now c.if-header-ne-HEADER.true

pub returns : goal.returns
returns c =
    let a = c.args in
    c.put_eight.ensures ∙ put-header (symbols_of 10 a.word) a.header.now c.if-header-ne-HEADER.false
