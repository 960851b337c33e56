-- `lookup::find` meets its contract: instants that are too many are refused, and any others are halved. Assumes nothing.
use native.Mathlib.Omega.{arith}
use Rattle.lookup.proofs.Promises.{refused-12, accepted}
use Rattle.lookup.proofs.find.Goals as goal

pub returns-then-instants-gt-MOST_INSTANTS : goal.returns-then-instants-gt-MOST_INSTANTS
returns-then-instants-gt-MOST_INSTANTS c = refused-12 c.args.instants.now c.args.wanted (omega arith)

pub returns : goal.returns
returns c = accepted c.args.instants.now c.args.wanted (omega arith) c.halve.ensures
