-- `lookup_bytes::find` meets its contract: a wrong length is refused, and of any other the answer is that of `lookup::find`.
-- Assumes nothing.
use Rattle.std.proofs.Common.{◌≡◌, ◌%◌, length}
use native.Mathlib.Omega.{arith}
use Rattle.lookup.proofs.Promises.{refused-12, accepted}
use Rattle.lookup_bytes.specs.Promise.{instants_in}
use Rattle.lookup_bytes.proofs.Instants.{count_is, refused-2, as_numbers}
use Rattle.lookup_bytes.proofs.find.Goals as goal

pub returns-then-instants-ne0 : goal.returns-then-instants-ne0
returns-then-instants-ne0 c = refused-2 _ _ (λ whole. omega arith)

pub returns-then-instants-gt-MOST_INSTANTS : goal.returns-then-instants-gt-MOST_INSTANTS
returns-then-instants-gt-MOST_INSTANTS c =
    let bytes = c.args.instants.now in
    let whole : length bytes % 8 ≡ 0 = omega arith in
    as_numbers bytes c.args.wanted _ whole (refused-12 (instants_in bytes) c.args.wanted (omega (arith, count_is bytes)))

pub returns : goal.returns
returns c =
    let bytes = c.args.instants.now in
    let whole : length bytes % 8 ≡ 0 = omega arith in
    as_numbers bytes c.args.wanted _ whole (accepted (instants_in bytes) c.args.wanted (omega (arith, count_is bytes)) c.halve.ensures)
