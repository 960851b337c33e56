-- `double_text::put_product` meets its contract: the digits stand in the front of the array. Assumes nothing.
use native.Mathlib.Omega.{arith}
use Prim.Native.Nat.{ℕ, ◌+◌, ◌*◌, ◌^◌, ◌≤◌}
use lib.ListN.{length, replicate, length-replicate}
use mathlib.Core.Path.{sym}
use mathlib.Core.List.{List}
use lib.Seq.{length-take-le}
use Rattle.double_text.specs.Decimal.{product}
use Rattle.double_text.proofs.Laws.{fits-array, is_front, front_length}
use Rattle.double_text.proofs.put_product.Goals as goal
use Rattle.double_text.proofs.put_product.Goals.{Start}

abbrev zeros : List ℕ
zeros = replicate 1100 0

-- the array has room for the digits
room : (s : Start) → 20 + s.args.k ≤ length zeros
room s = omega (arith, s.requires.1, length-replicate {A = ℕ} 1100 0)

abbrev number : Start → ℕ
number s = s.args.n * s.args.factor ^ s.args.k

pub slice_bounds-expand-end : goal.slice_bounds-expand-end
slice_bounds-expand-end c = sym (length-take-le (20 + c.args.k) zeros (room (goal.at.slice_bounds-expand-end c).Start))

pub slice_bounds-space-end-2 : goal.slice_bounds-space-end-2
slice_bounds-space-end-2 c =
    fits-array zeros c.expand.new.digits (20 + c.args.k) (number (goal.at.slice_bounds-space-end-2 c).Start) (room (goal.at.slice_bounds-space-end-2 c).Start) c.expand.ensures

pub slice_bounds-put_pointed-end : goal.slice_bounds-put_pointed-end
slice_bounds-put_pointed-end c =
    front_length zeros c.expand.new.digits (20 + c.args.k) (number (goal.at.slice_bounds-put_pointed-end c).Start) (room (goal.at.slice_bounds-put_pointed-end c).Start) c.expand.ensures

pub put_pointed-requires : goal.put_pointed-requires
put_pointed-requires c =
    let size = front_length zeros c.expand.new.digits (20 + c.args.k) (number (goal.at.put_pointed-requires c).Start) (room (goal.at.put_pointed-requires c).Start) c.expand.ensures in
    rw (sym size) c.requires.2

pub returns : goal.returns
unfolding product
returns c =
    let front = is_front zeros c.expand.new.digits (20 + c.args.k) (number (goal.at.returns c).Start) (room (goal.at.returns c).Start) c.expand.ensures in
    rw (sym front) c.put_pointed.ensures
