-- `book_compare::merge::next_step` meets its contract: one book has come to its end, or both have a cycle to come. Assumes nothing.
use mathlib.Core.Path.{◌∙◌}
use native.Mathlib.Omega.{arith}
use Rattle.book_parts.specs.Parts.{Entered}
use Rattle.book.proofs.Headers.{count-is, few_cycles}
use Rattle.book_parts.proofs.Held.{instant-there}
use Rattle.book_compare.proofs.Merging.{first_ended, second_ended}
use Rattle.book_compare.proofs.merge.next_step.Goals as goal

pub past_second-requires : goal.past_second-requires
past_second-requires c =
    let few = few_cycles _ c.requires.0.second_sized in
    omega arith

pub returns-then-i-cycles : goal.returns-then-i-cycles
returns-then-i-cycles c =
    let n = count-is _ c.requires.0.first_sized _ c.cycles.ensures in
    let a = c.args in
    let e : Entered a.second.now a.j = record { sized = c.requires.0.second_sized; below = omega arith } in
    first_ended _ _ _ _ _ _ (omega arith) (omega arith) (c.instant.ensures ∙ instant-there _ _ e) c.past_second.ensures

pub past_first-requires : goal.past_first-requires
past_first-requires c =
    let few = few_cycles _ c.requires.0.first_sized in
    omega arith

pub returns-then-j-cycles : goal.returns-then-j-cycles
returns-then-j-cycles c =
    let n = count-is _ c.requires.0.first_sized _ c.cycles.ensures in
    let m = count-is _ c.requires.0.second_sized _ c.cycles-2.ensures in
    let a = c.args in
    let e : Entered a.first.now a.i = record { sized = c.requires.0.first_sized; below = omega arith } in
    second_ended _ _ _ _ _ _ (omega arith) (omega arith) (c.instant-then-j-cycles.ensures ∙ instant-there _ _ e) c.past_first.ensures

pub step_both-requires : goal.step_both-requires
step_both-requires c =
    let n = count-is _ c.requires.0.first_sized _ c.cycles.ensures in
    let m = count-is _ c.requires.0.second_sized _ c.cycles-2.ensures in
    (record { sized = c.requires.0.first_sized; below = omega arith }, record { sized = c.requires.0.second_sized; below = omega arith })
