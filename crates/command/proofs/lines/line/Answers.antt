-- `command::lines::line` meets its contract: the parts between line feeds are the lines. Assumes nothing.
use Rattle.std.proofs.Common.{rules, tests}
use Rattle.std.proofs.lemmas.Iterator.Consumers.{nth_from_yields_List}
use Rattle.std.proofs.lemmas.Iterator.Splits.{YieldsList-from_slice_split}
use Rattle.command.proofs.LineLaws.{is_feed, line_is, unwrap_or-map}
use Rattle.command.proofs.lines.line.Goals as goal

pub returns : goal.returns
returns c =
    let text = c.args.text.now in
    let split = c.split.ensures in
    let part =
    nth_from_yields_List c.nth.result c.nth.new.self c.args.n c.nth.ensures.ran
    (YieldsList-from_slice_split _ is_feed text split.rest split.done split.closure (λ x r q k. search (rules, tests))) in
    rw (c.unwrap_or.ensures, unwrap_or-map (λ x. x.now) c.nth.result _, part) (line_is text c.args.n)
