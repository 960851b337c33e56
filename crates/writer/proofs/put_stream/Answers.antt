use Rattle.std.proofs.Common.{◌+◌, ◌*◌, ◌≤◌, length}
use native.Mathlib.Omega.{arith}
use Rattle.writer.proofs.Putting.{holds-none, holds-put, room_left}
use Rattle.writer.proofs.put_stream.Goals as goal

pub loop-i-init : goal.loop-i-init
loop-i-init c = holds-none c.args.step c.args.bytes.now c.args.out.now

pub loop-i-preserved : goal.loop-i-preserved
loop-i-preserved c =
    let l = c.loop-i in
    let a = c.args in
    let left = room_left a.step a.bytes.now a.out.now c.requires.0 l.i c.loop-i-test.true in
    let room : l.i * a.step + a.step ≤ length l.out = omega (arith, left, l.auto.out, c.requires.3) in
    holds-put a.step a.bytes.now a.out.now c.requires.0 l.i l.out c.put_group.new.out c.loop-i-test.true l.invariant room c.put_group.ensures
