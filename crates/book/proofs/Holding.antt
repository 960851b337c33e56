-- What a book without a fault holds: that there is none is turned into facts about the contents once. Assumes nothing.
use mathlib.Core.Path.{◌≡◌, refl}
use mathlib.Core.Bool.{Bool, true, false, cond}
use mathlib.Core.List.{List}
use Prim.Native.Nat.{ℕ, ◌≤◌}
use native.Mathlib.Omega.{arith}
use lib.Dec.{ltb}
use lib.ListN.{length}
use borrow.Author.Tests.{ltb-false, le-leb}
use Rattle.book.specs.Layout.{cycles_said}
use Rattle.book.specs.Faults.{contents, view_refusal}
use Rattle.book.specs.Header.{has_size}
use Rattle.book.specs.Sought.{Sized}
use Rattle.book.proofs.Ways.{number, Sound, none-sound}
use Rattle.book.proofs.Said.{sized}

module _ (b : List ℕ) (none : view_refusal b ≡ 0) where
  begun : (4 ≤ length b) × (number (contents b) ≡ 0)
  unfolding view_refusal
  begun = go (ltb (length b) 4) refl none
    where
      go : (t : Bool) → ltb (length b) 4 ≡ t → ◌≡◌ {A = ℕ} (cond t 16 (number (contents b))) 0 → (4 ≤ length b) × (number (contents b) ≡ 0)
      go true e z = absurd (omega arith)
      go false e z = (ltb-false (length b) 4 e, z)

  pub sound : Sound (contents b)
  sound = none-sound (contents b) begun.1

  pub size : Sized b (cycles_said b)
  size = sized b sound.sized

  pub has_size_lem : has_size b ≡ true
  unfolding has_size
  has_size_lem = rw (le-leb 4 (length b) begun.0, sound.sized)
