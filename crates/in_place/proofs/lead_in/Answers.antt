-- `in_place::lead_in` meets its contract: the words at places 0 to 2, and their counts. Assumes nothing.
use mathlib.Core.Path.{refl}
use native.Mathlib.Nat.{add-zero}
use Rattle.in_place.proofs.lead_in.Goals as goal

pub returns : goal.returns
returns c = rw (c.requires.2, add-zero c.args.l.groups.fill) refl
