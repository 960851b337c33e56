-- `reader::booked` meets its contract: one more, or none, to the count of whoever is on duty. Assumes nothing.
use mathlib.Core.Bool.{Bool, true, false}
use Prim.Native.Nat.{◌≤◌}
use native.Mathlib.Omega.{arith}
use mir.Val.{bool_byte}
use Rattle.reader.proofs.booked.Goals as goal

at_most_one : (b : Bool) → bool_byte b ≤ 1
at_most_one true = omega arith
at_most_one false = omega arith

pub overflow_add-next : goal.overflow_add-next
overflow_add-next c = omega (arith, at_most_one c.args.complete, c.requires.paid_max)
