-- `instant_text::put_padded` meets its contract: the digits are those that `io::decimal` gives, and as many zeros as are missing. Assumes nothing.
use mathlib.Core.Path.{sym, ap, ◌∙◌}
use mathlib.Core.List.{List}
use Prim.Native.Nat.{ℕ}
use native.Mathlib.Omega.{arith}
use lib.ListN.{length, replicate}
use lib.Seq.{length-take-le}
use Rattle.command.proofs.TextLaws.{adds_append, digits_are}
use Rattle.instant_text.specs.Instants.{padded}
use Rattle.instant_text.proofs.put_padded.Goals as goal

pub slice_bounds-put-end : goal.slice_bounds-put-end
slice_bounds-put-end c =
    sym (length-take-le c.saturating_sub-missing.result (replicate 8 0x30) (omega (arith, c.saturating_sub-missing.ensures, c.requires)))

pub returns : goal.returns
unfolding padded
returns c =
    let digits = c.decimal-k.ensures in
    let text = digits.digits ∙ digits_are c.args.n _ c.ranges.n.fits digits.len in
    let size = sym (digits.in_bounds.1 ∙ ap (λ (l : List ℕ). length l) text) in
    rw (size, ← c.saturating_sub-missing.ensures, ← text) (adds_append c.put-padded.ensures c.put.ensures)
