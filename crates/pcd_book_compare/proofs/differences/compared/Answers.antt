-- `pcd_book_compare::differences::compared` meets its contract: no line comes of equal books alone. Assumes nothing.
use Rattle.std.proofs.Common.{ap, Ok}
use native.Mathlib.Omega.{arith}
use Rattle.pcd_book_compare.proofs.differences.compared.Goals as goal

pub returns-in-Ok : goal.returns-in-Ok
returns-in-Ok g c =
    λ none. (c.in-Ok.ensures.none_same (ap Ok (c.show_lines.ensures none))).equal

pub returns-in-Err : goal.returns-in-Err
returns-in-Err g c = λ none. absurd (omega arith)
