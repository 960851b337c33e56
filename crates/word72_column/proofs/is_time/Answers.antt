-- `word72_column::is_time` meets its contract: seven bytes that the time codec accepts in a year of the span are a good time code of it, by
-- its own definition. Assumes nothing.
use Rattle.std.proofs.Common.{◌∙◌, ap}
use Rattle.std.specs.Result.{is_ok}
use Rattle.word72_column.proofs.Answers.{time_accepted}
use Rattle.word72_column.proofs.is_time.Goals as goal

pub returns : goal.returns
returns c =
    c.is_ok.ensures.value ∙ ap is_ok c.decode.ensures.answer ∙ time_accepted c.args.year c.args.bytes.now c.requires.0 c.requires.1
