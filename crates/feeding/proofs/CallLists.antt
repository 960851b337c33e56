-- Lists of one call and of none, and what two lists, one after the other, pay. Assumes nothing.
use mathlib.Core.Path.{◌≡◌, refl}
use mathlib.Core.List.{List, [], ◌∷◌, ◌++◌, append-nil}
use Rattle.base.proofs.Lists.{concat_map-append}
use Rattle.labelling.specs.Calls.{TakeCall, take_refusal, answer, taken, pays, Call, takes, paid_by, joined, paid, Handed, done, accepted}

pub paid-append : (cs ds : List Call) → paid (cs ++ ds) ≡ paid cs ++ paid ds
unfolding paid
paid-append cs ds = concat_map-append paid_by cs ds

-- ---- one call more

pub handed-one : (c : TakeCall) → take_refusal c ≡ 0 → Handed c.tally c.area (takes c ∷ []) (answer c).tally (answer c).area
handed-one c e = accepted c e done

pub joined-one : (c : TakeCall) → joined (takes c ∷ []) ≡ taken c
unfolding joined
joined-one c = append-nil (taken c)

pub paid-one : (c : TakeCall) → paid (takes c ∷ []) ≡ pays c
unfolding paid
paid-one c = append-nil (pays c)

pub joined-none : joined [] ≡ []
unfolding joined
joined-none = refl

pub paid-none : paid [] ≡ []
unfolding paid
paid-none = refl
