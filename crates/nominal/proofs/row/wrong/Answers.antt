-- `nominal::row::wrong` meets its contract: where no test holds, the byte is right at its place. Assumes nothing.
use Rattle.nominal.proofs.Rows.{belongs}
use Rattle.nominal.proofs.row.wrong.Goals as goal

pub returns : goal.returns
returns c =
    let a = c.args in
    belongs a.place a.x a.y
