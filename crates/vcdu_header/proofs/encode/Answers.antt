-- `vcdu_header::encode` meets its contract on each of its two ways out. Assumes nothing.
use Rattle.std.proofs.Common.{ℕ, ◌<◌}
use native.Mathlib.Omega.{arith}
use lib.ListN.{length, get_or}
use borrow.Author.Rules.{rules}
use borrow.Author.Tests.{eq-eqb, ne_eqb}
use Rattle.vcdu_header.proofs.Promises.{encode_refused, encode_done}
use Rattle.vcdu_header.proofs.encode.Goals as goal

pub returns-then-header-ne-HEADER : goal.returns-then-header-ne-HEADER
returns-then-header-ne-HEADER c =
    let header = c.args.header.now in
    let bytes : (i : ℕ) → get_or header i 0 < 256 = λ i. search rules in
    record {
      answer = rw (ne_eqb (length header) 8 c.if-header-ne-HEADER.true);
      bytes = encode_refused header bytes c.if-header-ne-HEADER.true;
    }

pub returns : goal.returns
returns c =
    let header = c.args.header.now in
    let bytes : (i : ℕ) → get_or header i 0 < 256 = λ i. search rules in
    record {
      answer = rw (eq-eqb (length header) 8 c.if-header-ne-HEADER.false);
      bytes =
          encode_done header bytes _ c.check_symbols-checks.result c.if-header-ne-HEADER.false c.pack-word.ensures (omega arith)
          c.check_symbols-checks.ensures;
    }
