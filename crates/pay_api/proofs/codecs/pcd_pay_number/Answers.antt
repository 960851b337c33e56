-- `pay_api::codecs::pcd_pay_number` meets its contract: what a word reads as has bits. Assumes nothing.
use Rattle.pay_api.proofs.Results.{has_bits}
use Rattle.pay_api.proofs.codecs.pcd_pay_number.Goals as goal

pub map-requires : goal.map-requires
map-requires c = λ x e h. has_bits c.decode.ensures e
