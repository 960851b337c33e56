-- `nominal::placing::all_cells` meets its contract: rows of cells and the cells after them are one stretch; where a cell stands and no row is taken, the
-- cell is. Assumes nothing.
use mathlib.Core.Path.{◌≡◌, sym, ◌∙◌, subst}
use Prim.Native.Nat.{ℕ, ◌<◌}
use native.Mathlib.Omega.{arith}
use Rattle.nominal.specs.Stretches.{Cell}
use Rattle.nominal.proofs.Joining.{nominal_far, stored-join}
use Rattle.nominal.proofs.placing.all_cells.Goals as goal

pub cell_rows-rowed-requires : goal.cell_rows-rowed-requires
cell_rows-rowed-requires c = omega arith

pub cells-requires : goal.cells-requires
cells-requires c = c.cell_rows-rowed.ensures.room (omega arith)

pub returns : goal.returns
returns c =
    let rowed = c.cell_rows-rowed in
    let p = c.args.piece.now in
    let rows = rowed.ensures in
    let one = c.cells.ensures in record {
      stored = stored-join rows one.stored;
      goes_on = λ x cell h e.
          let stays : rowed.result.at ≡ c.args.from = omega (arith, e, nominal_far rows.stretch, nominal_far one.stored.stretch) in
          let room : rowed.result.placed < 127 = omega (arith, h, stays, rows.place_is, nominal_far rows.stretch) in
          one.goes_on x (subst (λ (i : ℕ). Cell p i x) (sym stays) cell) room (e ∙ sym stays);
    }
