use mathlib.Core.Path.{refl}
use native.Mathlib.Omega.{arith}
use Rattle.command.proofs.TextLaws.{counted}
use Rattle.pcd_map.proofs.picture.put_row.Goals as goal

pub loop-i-init : goal.loop-i-init
loop-i-init c = (omega arith, refl, counted c.args.out.now 0 (omega arith))

pub loop-i-smaller : goal.loop-i-smaller
loop-i-smaller c = omega (arith, c.run_end-stop.ensures.goes_on c.loop-i-test.true, c.loop-i-test.true)
