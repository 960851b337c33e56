-- `fixed_point::double` meets its contract: the sum that it makes is a pattern, which is read as the number asked for. Assumes nothing.
use native.Mathlib.Omega.{arith}
use Rattle.fixed_point.proofs.Doubles.{made-read, zeros_before}
use Rattle.fixed_point.proofs.double.Goals as goal

pub overflow_sub-magnitude : goal.overflow_sub-magnitude
overflow_sub-magnitude c = (zeros_before c.args.sign c.args.magnitude c.args.places c.requires (omega arith)).0

pub overflow_add-result-2 : goal.overflow_add-result-2
overflow_add-result-2 c =
    rw (c.from.ensures, c.from-shift.ensures)
    (omega (arith, (made-read c.args.sign c.args.magnitude c.args.places c.requires (omega arith)).below))

pub float_from_bits-result : goal.float_from_bits-result
float_from_bits-result c =
    let finite = (made-read c.args.sign c.args.magnitude c.args.places c.requires (omega arith)).finite in
    rw (c.from.ensures, c.from-shift.ensures, finite) tt

pub returns : goal.returns
returns c = rw (c.from.ensures, c.from-shift.ensures) (made-read c.args.sign c.args.magnitude c.args.places c.requires (omega arith)).is
