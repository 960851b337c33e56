-- `reel_reading::on_piece` meets its contract: what the step takes is taken of the reel. Assumes nothing.
use Prim.Native.Nat.{◌≤◌}
use native.Mathlib.Omega.{arith}
use lib.ListN.{length}
use Rattle.reel_reading.proofs.Laws.{advances, stepped_nowhere, keeps_advanced}
use Rattle.reel_reading.proofs.on_piece.Goals as goal

pub returns-then-reel-gt-LIMIT : goal.returns-then-reel-gt-LIMIT
returns-then-reel-gt-LIMIT c = keeps_advanced _ _ _ c.refused.ensures.keeps

pub returns-then-reel-gt-LIMIT-2 : goal.returns-then-reel-gt-LIMIT-2
returns-then-reel-gt-LIMIT-2 c = keeps_advanced _ _ _ c.refused-then-reel-gt-LIMIT-2.ensures.keeps

pub returns-in-Err : goal.returns-in-Err
returns-in-Err c = advances _ _ _ _ _ _ c.in-Err.ensures (stepped_nowhere _ _ c.refused-in-Err.ensures.keeps)

pub returns-in-Ok : goal.returns-in-Ok
returns-in-Ok c =
    let asked = c.requires in
    let room = c.stepped.ensures in
    let few : c.in-Ok.s.taken ≤ length c.args.piece.now = c.in-Ok.ensures.within in
    advances _ _ _ _ _ _ c.in-Ok.ensures
    (room
    (record {
      bytes_bounded = omega arith;
      frames_bounded = omega arith;
      piece_bounded = omega (arith, few, asked.0);
      within = omega (arith, few, asked.1);
    }))
