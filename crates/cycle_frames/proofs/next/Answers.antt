-- `cycle_frames::next` meets its contract: what it answers and leaves is the definition's in each case. Assumes nothing.
use Rattle.std.proofs.Common.{◌≡◌, refl, sym, ap, ◌∙◌, Bool, true, false, ℕ, ◌+◌, ◌≤◌, ◌<◌, Ok}
use native.Mathlib.Omega.{arith}
use Rattle.cycle.specs.Cycle.{is_frame}
use Rattle.frame_store.specs.Slots.{with_frame}
use Rattle.cycle_frames.specs.Gathering.{held_in, kept_as, all_left, brought, next_of}
use Rattle.cycle_frames.specs.declared.Brought.{Brought}
use Rattle.cycle_frames.proofs.Calls.{Accepted, accepted-where, held_none, most-held, next-taken}
use Rattle.cycle_frames.proofs.Calls.{next-follows, area_follows, next-begins, area_begins, next-neither, area_neither}
use Rattle.cycle_frames.proofs.Stored.{promised, wrong-area, wrong-frame, wrong-bits}
use Rattle.cycle_frames.proofs.next.Goals as goal
use Rattle.cycle_frames.proofs.next.Goals.{Else-held-ge-FRAMES}

-- the lengths are right, and fewer than four frames are held
ready : (e : Else-held-ge-FRAMES) → let a = e.args in Accepted a.area.now a.bits a.frame.now
ready e =
    let a = e.args in
    accepted-where a.area.now a.bits a.frame.now e.if-area-ne-CYCLE.false e.if-frame-ne-MAJOR_FRAME.false (few e.if-held-ge-FRAMES.false e.held-held.ensures)
  where
    few : {r n : ℕ} → r < 4 → r ≡ n → n < 4
    few l e = omega arith

-- what the call answers
brings : (e : Else-held-ge-FRAMES) {b : Brought} → let a = e.args in brought a.year a.bits a.frame.now ≡ b
    → Ok b ≡ next_of a.year a.area.now a.bits a.frame.now
brings e same =
    let a = e.args in
    sym (next-taken a.area.now a.bits a.frame.now a.year _ (ready e) refl ∙ ap (λ (b : Brought). Ok b) same)

-- whether the frame follows them
follows : (e : Else-held-ge-FRAMES) (r b : Bool)
    → let a = e.args in r ≡ is_frame a.year e.held-held.result a.frame.now → r ≡ b
    → is_frame a.year (held_in a.bits) a.frame.now ≡ b
follows e r b told is =
    let a = e.args in
    ap (λ (n : ℕ). is_frame a.year n a.frame.now) (sym e.held-held.ensures) ∙ sym told ∙ is

pub returns-then-area-ne-CYCLE : goal.returns-then-area-ne-CYCLE
returns-then-area-ne-CYCLE c =
    let a = c.args in
    let w = wrong-area a.year a.area.now a.bits a.frame.now c.if-area-ne-CYCLE.true in
    promised a.year a.area.now a.bits a.frame.now _ _ w.0 w.1

pub returns-then-frame-ne-MAJOR_FRAME : goal.returns-then-frame-ne-MAJOR_FRAME
returns-then-frame-ne-MAJOR_FRAME c =
    let a = c.args in
    let w = wrong-frame a.year a.area.now a.bits a.frame.now c.if-area-ne-CYCLE.false c.if-frame-ne-MAJOR_FRAME.true in
    promised a.year a.area.now a.bits a.frame.now _ _ w.0 w.1

pub returns-then-held-ge-FRAMES : goal.returns-then-held-ge-FRAMES
returns-then-held-ge-FRAMES c =
    let a = c.args in
    let four = all c.held-held.ensures c.if-held-ge-FRAMES.true (most-held a.bits) in
    let w = wrong-bits a.year a.area.now a.bits a.frame.now c.if-area-ne-CYCLE.false c.if-frame-ne-MAJOR_FRAME.false four in
    promised a.year a.area.now a.bits a.frame.now _ _ w.0 w.1
  where
    all : {r n : ℕ} → r ≡ n → 4 ≤ r → n ≤ 4 → n ≡ 4
    all e l m = omega arith

pub returns-then-is_frame : goal.returns-then-is_frame
returns-then-is_frame c =
    let a = c.args in
    let r = ready (goal.at.returns-then-is_frame c).Else-held-ge-FRAMES in
    let kind = follows (goal.at.returns-then-is_frame c).Else-held-ge-FRAMES _ true c.is_frame.ensures c.if-is_frame.true in
    let n = next-follows a.area.now a.bits a.frame.now a.year _ r refl kind in
    let l = area_follows a.area.now a.bits a.frame.now a.year _ r refl kind in
    promised a.year a.area.now a.bits a.frame.now _ _ (c.keep.ensures.0 ∙ brings (goal.at.returns-then-is_frame c).Else-held-ge-FRAMES n) (c.keep.ensures.1 ∙ sym l)

pub keep-requires-then-is_frame-2 : goal.keep-requires-then-is_frame-2
keep-requires-then-is_frame-2 c = (c.if-area-ne-CYCLE.false, c.if-frame-ne-MAJOR_FRAME.false, omega (arith, held_none))

pub returns-then-is_frame-2 : goal.returns-then-is_frame-2
returns-then-is_frame-2 c =
    let a = c.args in
    let r = ready (goal.at.returns-then-is_frame-2 c).Else-held-ge-FRAMES in
    let other = follows (goal.at.returns-then-is_frame-2 c).Else-held-ge-FRAMES _ false c.is_frame.ensures c.if-is_frame.false in
    let kind = sym c.is_frame-2.ensures ∙ c.if-is_frame-2.true in
    let n = next-begins a.area.now a.bits a.frame.now a.year _ r refl other kind in
    let l = area_begins a.area.now a.bits a.frame.now a.year _ r refl other kind in
    let slot = ap (λ (m : ℕ). with_frame m a.frame.now a.area.now) held_none in
    promised a.year a.area.now a.bits a.frame.now _ _ (c.keep-then-is_frame-2.ensures.0 ∙ ap (λ (b : Brought). Ok b) (first (goal.at.returns-then-is_frame-2 c).Else-held-ge-FRAMES) ∙ brings (goal.at.returns-then-is_frame-2 c).Else-held-ge-FRAMES n) (c.keep-then-is_frame-2.ensures.1 ∙ slot ∙ sym l)
  where
    first : (e : Else-held-ge-FRAMES) → kept_as (held_in 0) e.held-held.result ≡ kept_as 0 (held_in e.args.bits)
    first e = ap (λ (n : ℕ). kept_as n e.held-held.result) held_none ∙ ap (kept_as 0) e.held-held.ensures

pub returns : goal.returns
returns c =
    let a = c.args in
    let r = ready (goal.at.returns c).Else-held-ge-FRAMES in
    let other = follows (goal.at.returns c).Else-held-ge-FRAMES _ false c.is_frame.ensures c.if-is_frame.false in
    let none = sym c.is_frame-2.ensures ∙ c.if-is_frame-2.false in
    let n = next-neither a.area.now a.bits a.frame.now a.year _ r refl other none in
    let l = area_neither a.area.now a.bits a.frame.now a.year _ r refl other none in
    promised a.year a.area.now a.bits a.frame.now _ _ (ap (λ (m : ℕ). Ok (all_left (m + 1))) c.held-held.ensures ∙ brings (goal.at.returns c).Else-held-ge-FRAMES n) (sym l)
