-- `header_decoder::lift` meets its contract: a symbol times its place fits, since no place is above 16^14. Assumes nothing.
use Prim.Native.Nat.{◌^◌, ◌≤◌}
use Rattle.header_code.proofs.Light.{place-fits}
use Rattle.header_code.specs.Decoder.{sixths}
use Rattle.header_decoder.proofs.Locating.{lift_fits, lift_law}
use borrow.Author.Rules.{rules}
use Rattle.header_decoder.proofs.lift.Goals as goal

pub overflow_mul-result : goal.overflow_mul-result
overflow_mul-result c =
    let scaled = c.product in
    let low : c.place.result ≤ 16 ^ 14 = rw c.place.ensures (place-fits _ (search rules)) in
    record { fits = lift_fits scaled.result c.place.result scaled.ensures.small low }

pub returns : goal.returns
unfolding sixths
returns c = lift_law _ _ _ _ _ c.digit.ensures.is c.product.ensures.is c.place.ensures
