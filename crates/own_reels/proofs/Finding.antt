-- How many frames are found by their own sync as the words grow by one: one more where a lock awaits its word and another than FA comes, and none else.
-- Assumes nothing.
use mathlib.Core.Path.{◌≡◌, refl, sym, ap}
use mathlib.Core.Bool.{Bool, true, false, true≢false}
use mathlib.Core.List.{List, [], ◌∷◌, ◌++◌, append_assoc, append-nil}
use Prim.Native.Nat.{ℕ, suc, ◌≤◌}
use native.Mathlib.Omega.{arith}
use borrow.Author.Tests.{lt-ltb, le-ltb}
use Rattle.labelling.specs.declared.Word.{Word}
use Rattle.labelling.specs.declared.Word.TheVariants.{Erased}
use Rattle.labelling.specs.MinorFrames.{is_word}
use Rattle.own_sync.specs.OwnCut.{own_found}
use Rattle.own_sync.proofs.Beside.{Stage, in_hunt, in_frame, at-lock, led_in, Settled, is_at_lock, Beside, Next, next_word, found-now, led, reached}
use Rattle.own_reels.specs.HandedIn.{awaits_word}

-- the count after the word
after : {s : Stage} {vs ws : List Word} {n : ℕ} {w : Word} → Next s vs ws n w → own_found (ws ++ w ∷ []) ≡ n
after x = sym (found-now x.beside x.settled)

module _ {p vs ws : List Word} {n : ℕ} (w : Word) where
  pub found_at-lock : is_word 0xfa w ≡ false → Beside at-lock p vs ws n → own_found (ws ++ w ∷ []) ≡ suc n
  found_at-lock e b = after (next_word led_in w e (led b))

  found-else : (s : Stage) → Settled s → is_at_lock s ≡ false → Beside s p vs ws n → own_found (ws ++ w ∷ []) ≡ n
  found-else in_hunt k e b = after (next_word in_hunt w tt b)
  found-else (in_frame found) k e b = after (next_word (in_frame found) w tt b)
  found-else at-lock k e b = absurd (true≢false e)
  found-else led_in k e b = absurd k

  grows : (s : Stage) → Settled s → Beside s p vs ws n → own_found ws ≤ own_found (ws ++ w ∷ [])
  grows in_hunt k b = omega (arith, found-now b k, found-else in_hunt k refl b)
  grows (in_frame found) k b = omega (arith, found-now b k, found-else (in_frame found) k refl b)
  grows at-lock k b = go (is_word 0xfa w) refl
    where
      go : (first : Bool) → is_word 0xfa w ≡ first → own_found ws ≤ own_found (ws ++ w ∷ [])
      go true e = omega (arith, found-now b k, after (next_word at-lock w e b))
      go false e = omega (arith, found-now b k, found_at-lock e b)
  grows led_in k b = absurd k

-- more words find no fewer
pub found-more : (ws vs : List Word) → own_found ws ≤ own_found (ws ++ vs)
found-more ws [] = omega (arith, ap own_found (append-nil ws))
found-more ws (v ∷ vs) =
    let r = reached ws in
    omega (arith, grows v r.stage r.settled r.beside, found-more (ws ++ v ∷ []) vs, ap own_found (append_assoc ws (v ∷ []) vs))

-- whether a lock awaits its word
pub awaits_now : {p vs ws : List Word} {n : ℕ} (s : Stage) → Settled s → Beside s p vs ws n → awaits_word ws ≡ is_at_lock s
unfolding awaits_word
awaits_now {ws = ws} in_hunt k b = le-ltb (own_found ws) (own_found (ws ++ Erased ∷ [])) (omega (arith, found-now b k, found-else Erased in_hunt k refl b))
awaits_now {ws = ws} (in_frame found) k b =
    le-ltb (own_found ws) (own_found (ws ++ Erased ∷ [])) (omega (arith, found-now b k, found-else Erased (in_frame found) k refl b))
awaits_now {ws = ws} at-lock k b = lt-ltb (own_found ws) (own_found (ws ++ Erased ∷ [])) (omega (arith, found-now b k, found_at-lock Erased refl b))
awaits_now led_in k b = absurd k
