-- What is carried from frame to frame. Assumes nothing.
use mathlib.Core.Path.{◌≡◌, sym, ◌∙◌}
use mathlib.Core.Bool.{true, false}
use mathlib.Core.List.{List}
use Prim.Native.Nat.{ℕ, ◌<◌}
use native.Mathlib.Omega.{arith}
use Rattle.std.proofs.Common.{Result, Ok}
use Rattle.base.specs.declared.refusal.Refusal.{Refusal}
use Rattle.cycle_frames.specs.declared.Brought.{Brought}
use Rattle.cycle_frames.specs.Gathering.{Taken}
use Rattle.cycle_frames.specs.Promise.{NextPromise}
use Rattle.cycle_input.specs.declared.Read.{Read}
use Rattle.cycle_input.specs.Reading.{ReadPromise}

-- the bits and the area are what a list of frames leaves
pub record Going (y bits : ℕ) (area : List ℕ) : Type 0 where
  pub frames : List (List ℕ)
  pub cycles : List (List ℕ)
  pub left : ℕ
  pub so_far : Taken y frames cycles left bits area

clash : {A : Type 0} → true ≡ false → A
clash e = let z : ◌≡◌ {A = ℕ} 0 1 = cc in absurd (omega arith)

pub not_whole : {y before : ℕ} {area : List ℕ} (r : Read) → r.whole ≡ false → ReadPromise y before area r
not_whole r e = record { is_cycle_fact = λ w. clash (sym w ∙ e); further = λ w. clash (sym w ∙ e) }

module _ {y bits : ℕ} {area frame new : List ℕ} {r : Result Brought Refusal} {b : Brought} (g : Going y bits area) (p : NextPromise y area bits frame new r) (ok : r ≡ Ok b) where
  -- another frame is held, or none
  pub went_on : b.whole ≡ false → Going y b.bits new
  went_on w = record { frames = _; cycles = _; left = _; so_far = p.goes_on ok g.so_far }

  -- the area holds a cycle
  pub came_whole : b.whole ≡ true → (before : ℕ) (q : Read) → before < q.frames → ReadPromise y before new q
  came_whole w before q l = record { is_cycle_fact = λ z. p.is_cycle_fact ok g.so_far w; further = λ z. l }
