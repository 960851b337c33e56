-- `book_writer::write` meets its contract: each way out is one of the promise's. Assumes nothing.
use Rattle.std.proofs.Common.{◌≡◌, Err, refl, sym, ◌∙◌, rules}
use Rattle.book_writer.proofs.Answers.{few_cycles, no_whole, whole, no_fit, fits-is, faulty, all-written}
use Rattle.book_writer.proofs.write.Goals as goal

pub returns-then-bodies-ne0 : goal.returns-then-bodies-ne0
returns-then-bodies-ne0 c =
    let a = c.args in
    no_whole a.year a.bodies.now a.out.now c.if-bodies-ne0.true

pub returns-then-not-fits : goal.returns-then-not-fits
returns-then-not-fits c =
    let a = c.args in
    no_fit a.year a.bodies.now a.out.now _ c.if-bodies-ne0.false refl _ c.fits.ensures c.if-not-fits.true

pub returns-in_err-permit_contents : goal.returns-in_err-permit_contents
returns-in_err-permit_contents c =
    let a = c.args in
    let same : c.from_residual.result ≡ Err c.in_err-permit_contents.field-0.0 = search rules in
    rw same
    (faulty a.year a.bodies.now a.out.now _ c.if-bodies-ne0.false refl _ c.fits.ensures c.if-not-fits.false _
    c.permit_contents.ensures _ c.in_err-permit_contents.was)

pub put_book-requires : goal.put_book-requires
put_book-requires c =
    let a = c.args in
    let bodies = a.bodies.now in
    let all = whole a.year bodies a.out.now _ c.if-bodies-ne0.false refl in (
      few_cycles a.year bodies _ all (sym c.in_ok-permit_contents.was ∙ c.permit_contents.ensures),
      all,
      fits-is a.year bodies a.out.now _ c.if-bodies-ne0.false refl _ c.fits.ensures c.if-not-fits.false,
    )

pub returns : goal.returns
returns c =
    let a = c.args in
    all-written a.year a.bodies.now a.out.now _ c.if-bodies-ne0.false refl _ c.fits.ensures c.if-not-fits.false _
    c.permit_contents.ensures _ c.in_ok-permit_contents.was c.put_book.ensures
