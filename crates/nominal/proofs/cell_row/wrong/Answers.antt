-- `nominal::cell_row::wrong` meets its contract: where neither test holds, the byte is right at its place. Assumes nothing.
use native.Mathlib.Omega.{arith}
use Rattle.nominal.proofs.Rows.{in_cell}
use Rattle.nominal.proofs.cell_row.wrong.Goals as goal

-- the place after which FILL is looked for is read off the code; it is not past the third copy's
pub returns : goal.returns
returns c =
    let a = c.args in
    let u = c.usual in
    λ e. in_cell _ a.place a.x a.y u.result e (omega arith) u.ensures
