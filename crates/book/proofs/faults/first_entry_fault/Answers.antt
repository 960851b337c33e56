-- `book::faults::first_entry_fault` meets its contract: its three searches are those of the list of faults. Assumes nothing.
use Rattle.std.proofs.Common.{◌≡◌, ◌∙◌, rules}
use native.Mathlib.Omega.{arith}
use Rattle.book.proofs.Viewing.{has_size_lem, bad_body_first, bad_instant_first, the_last}
use Rattle.book.proofs.faults.first_entry_fault.Goals as goal

pub slice_bounds-first_bad_body-count : goal.slice_bounds-first_bad_body-count
slice_bounds-first_bad_body-count c =
    let size = has_size_lem c.args.bytes.now c.requires _ c.cycles_said-n.ensures.0 in
    omega arith

pub slice_bounds-first_bad_body-start : goal.slice_bounds-first_bad_body-start
slice_bounds-first_bad_body-start c =
    let size = has_size_lem c.args.bytes.now c.requires _ c.cycles_said-n.ensures.0 in
    omega arith

pub returns-in_err-unless_found : goal.returns-in_err-unless_found
returns-in_err-unless_found c =
    let same : c.from_residual.result ≡ c.unless_found.result = search rules in
    same ∙ bad_body_first c.args.bytes.now c.requires _ c.cycles_said-n.ensures.0 _ c.year_said-year.ensures _ c.first_bad_body.ensures _
    c.unless_found.ensures _ c.in_err-unless_found.was

pub first_bad_instant-requires : goal.first_bad_instant-requires
first_bad_instant-requires c =
    (has_size_lem c.args.bytes.now c.requires _ c.cycles_said-n.ensures.0, c.year_said-year.ensures)

pub returns-in_err-unless_found-2 : goal.returns-in_err-unless_found-2
returns-in_err-unless_found-2 c =
    let same : c.from_residual-in_err-unless_found-2.result ≡ c.unless_found-2.result = search rules in
    same ∙ bad_instant_first c.args.bytes.now c.requires _ c.cycles_said-n.ensures.0 _ c.year_said-year.ensures _ c.first_bad_body.ensures _
    c.unless_found.ensures c.in_ok-unless_found.was _ c.first_bad_instant.ensures _ c.unless_found-2.ensures _ c.in_err-unless_found-2.was

pub first_bad_offset-requires : goal.first_bad_offset-requires
first_bad_offset-requires c = has_size_lem c.args.bytes.now c.requires _ c.cycles_said-n.ensures.0

pub returns : goal.returns
returns c =
    the_last c.args.bytes.now c.requires _ c.cycles_said-n.ensures.0 _ c.year_said-year.ensures _ c.first_bad_body.ensures _
    c.unless_found.ensures c.in_ok-unless_found.was _ c.first_bad_instant.ensures _ c.unless_found-2.ensures c.in_ok-unless_found-2.was
    _ c.first_bad_offset.ensures _ c.unless_found-3.ensures
