use mathlib.Core.Path.{◌≡◌, refl, ap, ◌∙◌}
use mathlib.Core.List.{◌++◌}
use Prim.Native.Nat.{ℕ, ◌+◌, ◌*◌}
use native.Mathlib.Omega.{arith}
use lib.ListN.{take, drop}
use borrow.Rule.Slice.PartMut.{mid_len}
use borrow.Author.Rules.{rules}
use Rattle.base.specs.Ranges.{joined}
use Rattle.book.specs.Layout.{entry}
use Rattle.book_writer.specs.Writing.{bodies_in}
use Rattle.book_writer.proofs.Stores.{entry-is, holds-none, holds_more}
use Rattle.book_writer.proofs.put_entries.Goals as goal

pub loop-i-init : goal.loop-i-init
loop-i-init c =
    (refl, holds-none c.args.year c.args.bodies.now c.args.n c.requires.1 c.args.out.now)

pub instant_in-instant-requires : goal.instant_in-instant-requires
instant_in-instant-requires c = let p = c.requires in omega arith

pub put_entry-requires : goal.put_entry-requires
put_entry-requires c =
    let p = c.requires in
    mid_len (4 + 12 * c.loop-i.i) (4 + 12 * c.loop-i.i + 12) c.loop-i.out (omega arith) ∙ omega arith

pub loop-i-preserved : goal.loop-i-preserved
loop-i-preserved c =
    let y = c.args.year in
    let bodies = c.args.bodies.now in
    let n = c.args.n in
    let i = c.loop-i.i in
    let is = entry-is y bodies n c.requires.1 i _ _ c.loop-i-test.true c.instant_in-instant.ensures c.body_start-offset.ensures in
    let entry = c.put_entry.ensures ∙ is in (
      search rules,
      holds_more y bodies n c.requires.1 c.args.out.now i c.loop-i.out _ c.requires.2 c.loop-i-test.true c.loop-i.invariant.1 entry,
    )

pub shape_of-out : goal.shape_of-out
shape_of-out c = c.loop-i.invariant.0

pub returns : goal.returns
returns c =
    let old = c.args.out.now in
    let E = joined (entry c.args.year (bodies_in c.args.bodies.now)) 0 in
    let all : c.loop-i.i ≡ c.args.n = omega arith in
    c.loop-i.invariant.1 ∙ ap (λ (m : ℕ). take 4 old ++ (E m ++ drop (4 + 12 * m) old)) all
