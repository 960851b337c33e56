-- `reader_run::stretch::after_words` meets its contract: where there are words, the last of them is what the group holds. Assumes nothing.
use Rattle.reader_run.proofs.Onward.{no_words, some_words}
use Rattle.reader_run.proofs.stretch.after_words.Goals as goal

pub returns-then-w-eq0 : goal.returns-then-w-eq0
returns-then-w-eq0 c =
    let a = c.args in
    λ ws h. no_words a.g a.n ws a.w a.x h c.if-w-eq0.true

pub returns : goal.returns
returns c =
    let a = c.args in
    λ ws h. some_words a.g a.n ws a.w a.x h c.if-w-eq0.false
