-- Yes is said of an accepted book alone. Assumes nothing.
use Rattle.std.proofs.Common.{◌≡◌, refl, sym, true, Result, Ok, Err}
use mathlib.Core.Bool.{true≢false}
use Rattle.book.specs.declared.faults.Fault.{Fault}
use Rattle.pcd_book_check.specs.Verdicts.{is_yes}

pub yes_accepted : (v : Result Unit Fault) → is_yes v ≡ true → v ≡ Ok tt
yes_accepted (Ok u) e = refl
yes_accepted (Err f) e = absurd (true≢false (sym e))
