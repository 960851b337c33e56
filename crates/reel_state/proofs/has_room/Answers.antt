-- `reel_state::has_room` meets its contract: each test is one field of the definition. Assumes nothing.
use mathlib.Core.Path.{sym}
use mathlib.Core.Bool.{true≢false}
use native.Mathlib.Omega.{arith}
use Rattle.reel_state.proofs.has_room.Goals as goal

pub returns-then-taken-gt-MOST : goal.returns-then-taken-gt-MOST
returns-then-taken-gt-MOST c = (λ z. absurd (true≢false (sym z)), λ z h. omega (arith, h.bytes_bounded, c.if-taken-gt-MOST.true))

pub returns-then-frames-gt-MOST : goal.returns-then-frames-gt-MOST
returns-then-frames-gt-MOST c = (λ z. absurd (true≢false (sym z)), λ z h. omega (arith, h.frames_bounded, c.if-frames-gt-MOST.true))

pub returns-then-more-ge-TOO_LONG : goal.returns-then-more-ge-TOO_LONG
returns-then-more-ge-TOO_LONG c = (λ z. absurd (true≢false (sym z)), λ z h. omega (arith, h.piece_bounded, c.if-more-ge-TOO_LONG.true))

pub returns-then-more-at : goal.returns-then-more-at
returns-then-more-at c = (λ z. absurd (true≢false (sym z)), λ z h. omega (arith, h.within, c.if-more-at.true, c.if-more-ge-TOO_LONG.false))

pub returns : goal.returns
returns c = (
  λ z. record {
    bytes_bounded = omega (arith, c.if-taken-gt-MOST.false);
    frames_bounded = omega (arith, c.if-frames-gt-MOST.false);
    piece_bounded = omega (arith, c.if-more-ge-TOO_LONG.false);
    within = omega (arith, c.if-more-at.false, c.if-more-ge-TOO_LONG.false);
  },
  λ z. absurd (true≢false z),
)
