-- `cycle_frames::keep` meets its contract: the frame goes into the slot behind those that are held, and so is not refused. Assumes nothing.
use Rattle.std.proofs.Common.{◌≡◌, sym, ap, ◌∙◌, ℕ, ◌+◌, ◌^◌, Ok}
use native.Mathlib.Omega.{arith}
use Rattle.frame_store.specs.declared.Stored.{Stored}
use Rattle.frame_store.specs.Answers.{bits_in}
use Rattle.cycle_frames.specs.declared.Brought.{Brought}
use Rattle.cycle_frames.specs.Gathering.{bits_of, held_in}
use Rattle.cycle_frames.proofs.Stored.{StoresAt, stores_at, kept_whole, kept_more}
use Rattle.cycle_frames.proofs.keep.Goals as goal
use Rattle.cycle_frames.proofs.keep.Goals.{After-store}

-- where the store puts the frame
placed : (s : After-store) → let a = s.args in StoresAt a.area.now a.frame.now (held_in a.bits) a.bits
placed s =
    let a = s.args in
    let p = s.requires in
    stores_at a.area.now a.frame.now a.bits p.0 p.1 p.2

bits_are : (s : After-store) (f : Stored) → s.store.result ≡ Ok f → let n = held_in s.args.bits in f.bits ≡ bits_of n + 2 ^ n
bits_are s f was =
    let n = held_in s.args.bits in
    let p = placed s in
    ap (bits_in 0) (sym was ∙ s.store.ensures.answer ∙ p.answer) ∙ ap (λ (b : ℕ). b + 2 ^ n) p.is_bits

pub returns-in_err-stored : goal.returns-in_err-stored
returns-in_err-stored c =
    let no : ◌≡◌ {A = ℕ} 0 1 = absurd (let e = sym c.in_err-stored.was ∙ c.store.ensures.answer ∙ (placed (goal.at.returns-in_err-stored c).After-store).answer in cc) in
    absurd (omega arith)

pub returns-then-stored-eq-ALL_SLOTS : goal.returns-then-stored-eq-ALL_SLOTS
returns-then-stored-eq-ALL_SLOTS c =
    let s = (goal.at.returns-then-stored-eq-ALL_SLOTS c).After-store in (
      ap (λ (b : Brought). Ok b) (kept_whole _ _ c.in_ok-stored.stored.bits c.requires.2 (bits_are s c.in_ok-stored.stored c.in_ok-stored.was) (omega (arith, c.if-stored-eq-ALL_SLOTS.true))),
      c.store.ensures.after ∙ (placed s).leaves,
    )

pub returns : goal.returns
returns c =
    let s = (goal.at.returns c).After-store in (
      ap (λ (b : Brought). Ok b) (kept_more _ _ _ c.requires.2 (bits_are s c.in_ok-stored.stored c.in_ok-stored.was) (λ all. c.if-stored-eq-ALL_SLOTS.false (omega (arith, all)))),
      c.store.ensures.after ∙ (placed s).leaves,
    )
