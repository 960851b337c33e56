-- `lookup::find_among` meets its contract: instants that are too many are refused, and any others are halved. Assumes nothing.
use native.Mathlib.Omega.{arith}
use Rattle.lookup.proofs.Promises.{refused-12, accepted}
use Rattle.lookup.proofs.find_among.Goals as goal

pub returns-then-count-gt-MOST_INSTANTS : goal.returns-then-count-gt-MOST_INSTANTS
returns-then-count-gt-MOST_INSTANTS g c = refused-12 (g.I.Instants.items c.args.instants.now) c.args.wanted (omega arith)

pub returns : goal.returns
returns g c = accepted (g.I.Instants.items c.args.instants.now) c.args.wanted (omega arith) c.halve_among.ensures
