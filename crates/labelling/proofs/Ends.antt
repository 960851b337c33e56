-- What the last words of a hunt match of FA F3 20: one word more matches one word more, or FA, or nothing. Assumes nothing.
use mathlib.Core.Path.{◌≡◌, refl, sym, ◌∙◌}
use mathlib.Core.Bool.{Bool, true, false, ◌&&◌, and_assoc, and-true, and-false, or-false, and-or_distrib_right}
use mathlib.Core.List.{List, [], ◌∷◌, ◌++◌}
use Prim.Native.Nat.{ℕ, zero, suc, ◌≤◌}
use native.Mathlib.Omega.{arith}
use lib.Dec.{eqb}
use borrow.Author.Tests.{eqb-true, ne_eqb}
use Rattle.base.specs.Format.{sync_word}
use Rattle.labelling.specs.declared.Word.{Word}
use Rattle.labelling.specs.declared.Word.TheVariants.{Voted, Erased}
use Rattle.labelling.specs.MinorFrames.{is_word, hunted}
use Rattle.labelling.specs.Machine.{WordEvent, hunts, locks, fills, closes_frame, hunt_event}
use Rattle.labelling.specs.Rest.{spells, ends_with, sync_to, hunts_after, match_in}

-- ---- one word more

too_many : (ws : List Word) (w : Word) → spells [] (ws ++ w ∷ []) ≡ false
too_many [] w = refl
too_many (x ∷ ws) w = refl

too_few : (ns : List ℕ) (n : ℕ) → spells (ns ++ n ∷ []) [] ≡ false
too_few [] n = refl
too_few (m ∷ ns) n = refl

spells-snoc : (ns : List ℕ) (n : ℕ) (ws : List Word) (w : Word) → spells (ns ++ n ∷ []) (ws ++ w ∷ []) ≡ (spells ns ws && is_word n w)
spells-snoc [] n [] w = and-true (is_word n w)
spells-snoc [] n (x ∷ ws) w = rw (too_many ws w) (and-false (is_word n x))
spells-snoc (m ∷ ns) n [] w = rw (too_few ns n) (and-false (is_word m w))
spells-snoc (m ∷ ns) n (x ∷ ws) w = rw (spells-snoc ns n ws w) (sym (and_assoc (is_word m x) (spells ns ws) (is_word n w)))

ends_snoc : (ns : List ℕ) (n : ℕ) (ws : List Word) (w : Word) → ends_with (ns ++ n ∷ []) (ws ++ w ∷ []) ≡ (ends_with ns ws && is_word n w)
ends_snoc ns n [] w = rw (spells-snoc ns n [] w, too_few ns n) (or-false (spells ns [] && is_word n w))
ends_snoc ns n (x ∷ ws) w =
    rw (spells-snoc ns n (x ∷ ws) w, ends_snoc ns n ws w) (sym (and-or_distrib_right (spells ns (x ∷ ws)) (ends_with ns ws) (is_word n w)))

ends_none : (ws : List Word) → ends_with [] ws ≡ true
ends_none [] = refl
ends_none (w ∷ ws) = ends_none ws

-- ---- the match

-- the words p end with the first n words of FA F3 20, and with no others of its beginnings; with 3 the hunt has ended
pub record Ends (n : ℕ) (p : List Word) : Type 0 where
  pub in_one : ends_with (sync_to 1) p ≡ eqb n 1
  pub in_two : ends_with (sync_to 2) p ≡ eqb n 2
  pub in_three : ends_with (sync_to 3) p ≡ eqb n 3

pub ends_nothing : Ends 0 []
ends_nothing = record { in_one = refl; in_two = refl; in_three = refl }

-- the three tests with a word more, after n words matched
module _ (n : ℕ) (p : List Word) (w : Word) (m : Ends n p) where
  then_one : ends_with (sync_to 1) (p ++ w ∷ []) ≡ is_word 0xfa w
  then_one = ends_snoc [] 0xfa p w ∙ rw (ends_none p)

  then_two : ends_with (sync_to 2) (p ++ w ∷ []) ≡ (eqb n 1 && is_word 0xf3 w)
  then_two = ends_snoc (sync_to 1) 0xf3 p w ∙ rw m.in_one

  then_three : ends_with (sync_to 3) (p ++ w ∷ []) ≡ (eqb n 2 && is_word 0x20 w)
  then_three = ends_snoc (sync_to 2) 0x20 p w ∙ rw m.in_two

  ends_by : (k : ℕ) → is_word 0xfa w ≡ eqb k 1 → (eqb n 1 && is_word 0xf3 w) ≡ eqb k 2 → (eqb n 2 && is_word 0x20 w) ≡ eqb k 3 → Ends k (p ++ w ∷ [])
  ends_by k a b c = record { in_one = then_one ∙ a; in_two = then_two ∙ b; in_three = then_three ∙ c }

-- what the event of a hunted word says of the match
abbrev pub EndsBy : WordEvent → List Word → Type 0
EndsBy (hunts n) p = Ends n p
EndsBy locks p = Ends 3 p
EndsBy fills p = Unit {0}
EndsBy (closes_frame k) p = Unit {0}

-- a word is one word only
other_word : (m n : ℕ) (w : Word) → eqb m n ≡ false → is_word m w ≡ true → is_word n w ≡ false
other_word m n (Voted k) ne e = rw (eqb-true k m e) ne
other_word m n Erased ne e = refl

pub ends_more : (n : ℕ) (p : List Word) (w : Word) → n ≤ 2 → Ends n p → EndsBy (hunt_event n (is_word (sync_word n) w) (is_word 0xfa w)) (p ++ w ∷ [])
ends_more zero p w h m = go (is_word 0xfa w) refl
  where
    go : (first : Bool) → is_word 0xfa w ≡ first → EndsBy (hunt_event 0 first first) (p ++ w ∷ [])
    go true e = ends_by 0 p w m 1 e refl refl
    go false e = ends_by 0 p w m 0 e refl refl
ends_more (suc zero) p w h m = go (is_word 0xf3 w) (is_word 0xfa w) refl refl
  where
    go : (next first : Bool) → is_word 0xf3 w ≡ next → is_word 0xfa w ≡ first → EndsBy (hunt_event 1 next first) (p ++ w ∷ [])
    go true first e f = ends_by 1 p w m 2 (other_word 0xf3 0xfa w refl e) e refl
    go false true e f = ends_by 1 p w m 1 f e refl
    go false false e f = ends_by 1 p w m 0 f e refl
ends_more (suc (suc zero)) p w h m = go (is_word 0x20 w) (is_word 0xfa w) refl refl
  where
    go : (next first : Bool) → is_word 0x20 w ≡ next → is_word 0xfa w ≡ first → EndsBy (hunt_event 2 next first) (p ++ w ∷ [])
    go true first e f = ends_by 2 p w m 3 (other_word 0x20 0xfa w refl e) refl e
    go false true e f = ends_by 2 p w m 1 f refl e
    go false false e f = ends_by 2 p w m 0 f refl e
ends_more (suc (suc (suc n))) p w h m = absurd (omega arith)

-- ---- what the definitions read off

pub match_is : (n : ℕ) (p : List Word) → n ≤ 2 → Ends n p → match_in (hunted p) ≡ n
match_is zero p h m = rw (m.in_one, m.in_two)
match_is (suc zero) p h m = rw (m.in_one, m.in_two)
match_is (suc (suc zero)) p h m = rw m.in_two
match_is (suc (suc (suc n))) p h m = absurd (omega arith)

pub still_hunts : (n : ℕ) (p : List Word) → n ≤ 2 → Ends n p → hunts_after (hunted p) ≡ true
still_hunts n p h m = rw (m.in_three, ne_eqb n 3 (omega arith))

-- a hunt that has ended, and matches nothing
pub hunt-ended : (p : List Word) → Ends 3 p → hunts_after (hunted p) ≡ false
hunt-ended p m = rw m.in_three

pub match_ended : (p : List Word) → Ends 3 p → match_in (hunted p) ≡ 0
match_ended p m = rw (m.in_one, m.in_two)
