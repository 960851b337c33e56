-- `book_compare::merge::step_both` meets its contract: each way out is a step of the merge. Assumes nothing.
use mathlib.Core.Path.{sym, ap, ◌∙◌}
use native.Mathlib.Omega.{arith}
use lib.ListN.{length}
use Rattle.book.proofs.Headers.{few_cycles}
use Rattle.book_parts.proofs.Held.{instant-there, body_bytes, body-length}
use Rattle.book_compare.proofs.Merging.{first-lower, second-lower, together-past}
use Rattle.book_compare.proofs.FirstByte.{differing_same}
use Rattle.book_compare.proofs.merge.step_both.Goals as goal

pub past_first-requires : goal.past_first-requires
past_first-requires c =
    let few = few_cycles _ c.requires.0.sized in
    let below = c.requires.0.below in
    omega arith

pub returns-then-s-t : goal.returns-then-s-t
returns-then-s-t c =
    let s = c.instant-s.ensures ∙ instant-there _ _ c.requires.0 in
    let t = c.instant-t.ensures ∙ instant-there _ _ c.requires.1 in
    first-lower _ _ _ _ _ c.requires.0 c.requires.1 _ _ s t c.if-s-t.true c.past_first.ensures

pub past_second-requires : goal.past_second-requires
past_second-requires c =
    let few = few_cycles _ c.requires.1.sized in
    let below = c.requires.1.below in
    omega arith

pub returns-then-t-s : goal.returns-then-t-s
returns-then-t-s c =
    let s = c.instant-s.ensures ∙ instant-there _ _ c.requires.0 in
    let t = c.instant-t.ensures ∙ instant-there _ _ c.requires.1 in
    second-lower _ _ _ _ _ c.requires.0 c.requires.1 _ _ s t c.if-t-s.true c.past_second.ensures

pub first_differing-requires : goal.first_differing-requires
first_differing-requires c =
    let first = body_bytes _ _ c.requires.0 _ c.body-c.ensures.contents_are in
    let second = body_bytes _ _ c.requires.1 _ c.body-d.ensures.contents_are in
    ap length first ∙ body-length _ _ c.requires.0 ∙ sym (body-length _ _ c.requires.1) ∙ sym (ap length second)

pub past_both-requires : goal.past_both-requires
past_both-requires c =
    let few = few_cycles _ c.requires.0.sized in
    let below = c.requires.0.below in
    let few-2 = few_cycles _ c.requires.1.sized in
    let below-2 = c.requires.1.below in
    (omega arith, omega arith)

pub returns : goal.returns
returns c =
    let first = body_bytes _ _ c.requires.0 _ c.body-c.ensures.contents_are in
    let second = body_bytes _ _ c.requires.1 _ c.body-d.ensures.contents_are in
    let place = c.first_differing.ensures ∙ differing_same first second in
    let not_lower = c.if-s-t.false in
    let not-higher = c.if-t-s.false in
    let s = c.instant-s.ensures ∙ instant-there _ _ c.requires.0 in
    let t = c.instant-t.ensures ∙ instant-there _ _ c.requires.1 in
    together-past _ _ _ _ _ c.requires.0 c.requires.1 _ _ s t (omega arith) _ place c.past_both.ensures
