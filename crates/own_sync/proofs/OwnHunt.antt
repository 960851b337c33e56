-- The end of a hunt: one word more leaves FA F3 20 nowhere in the words, or they now end with it, the first there is. So the tally hunts no longer.
-- Assumes nothing.
use mathlib.Core.Path.{◌≡◌, refl, ap}
use mathlib.Core.Bool.{Bool, true, false, ◌&&◌, and-false, or-true}
use mathlib.Core.List.{List, [], ◌∷◌, ◌++◌}
use Prim.Native.Nat.{ℕ, suc}
use native.Mathlib.Omega.{arith}
use lib.ListN.{length}
use borrow.Author.Tests.{eqb-true}
use Rattle.labelling.specs.declared.Word.{Word}
use Rattle.labelling.specs.declared.Word.TheVariants.{Voted, Erased}
use Rattle.labelling.specs.MinorFrames.{is_word, synced, hunt_length, hunted}
use Rattle.labelling.specs.Rest.{spells, ends_with, sync_to, hunts_after}
use Rattle.own_sync.specs.OwnCut.{before_sync}
use Rattle.own_sync.proofs.OwnCuts.{sync}

-- the clauses of the two counts
pub before-none : (w : Word) (ws : List Word) → synced (w ∷ ws) ≡ true → before_sync (w ∷ ws) ≡ 0
before-none w ws e = rw (e, before_sync)

pub before_more : (w : Word) (ws : List Word) → synced (w ∷ ws) ≡ false → before_sync (w ∷ ws) ≡ suc (before_sync ws)
before_more w ws e = rw (e, before_sync)

hunt-three : (w : Word) (ws : List Word) → synced (w ∷ ws) ≡ true → hunt_length (w ∷ ws) ≡ 3
hunt-three w ws e = rw (e, hunt_length)

hunt-more : (w : Word) (ws : List Word) → synced (w ∷ ws) ≡ false → hunt_length (w ∷ ws) ≡ suc (hunt_length ws)
hunt-more w ws e = rw (e, hunt_length)

-- two words are too few
and_none : (a b : Bool) → (a && b && false) ≡ false
and_none true true = refl
and_none true false = refl
and_none false b = refl

pub one-short : (x : Word) → synced (x ∷ []) ≡ false
unfolding synced
one-short x = and_none (is_word 0xfa x) false

two-short : (x y : Word) → synced (x ∷ y ∷ []) ≡ false
unfolding synced
two-short x y = and_none (is_word 0xfa x) (is_word 0xf3 y)

-- three in a row are the three words
is_word_lem : (n : ℕ) (w : Word) → is_word n w ≡ true → w ≡ Voted n
is_word_lem n (Voted m) e = ap Voted (eqb-true m n e)
is_word_lem n Erased e = cc

all_three : (a b c : Bool) → (a && b && c) ≡ true → (a ≡ true) × (b ≡ true) × (c ≡ true)
all_three true true true e = (refl, refl, refl)
all_three true true false e = (refl, refl, e)
all_three true false c e = (refl, e, cc)
all_three false b c e = (e, cc, cc)

pub is_sync : (x y z : Word) (r : List Word) → synced (x ∷ y ∷ z ∷ r) ≡ true → x ∷ y ∷ z ∷ [] ≡ sync
unfolding synced
is_sync x y z r e =
    let s = all_three (is_word 0xfa x) (is_word 0xf3 y) (is_word 0x20 z) e in
    rw (is_word_lem 0xfa x s.0, is_word_lem 0xf3 y s.1, is_word_lem 0x20 z s.2)

-- ---- the first FA F3 20

-- the words p end with it: q stand before it
pub record Found (p : List Word) : Type 0 where
  pub q : List Word
  pub is : p ≡ q ++ sync
  pub first : (ys : List Word) → before_sync (p ++ ys) ≡ length q
  pub ends : (ys : List Word) → hunt_length (p ++ ys) ≡ length p

-- it stands nowhere in the words p, or they end with it
pub data Sought (p : List Word) : Type 0 where
  still : before_sync p ≡ length p → Sought p
  now : Found p → Sought p

-- a word before
sought_after : (x : Word) (p : List Word) → ((ys : List Word) → synced (x ∷ (p ++ ys)) ≡ false) → synced (x ∷ p) ≡ false → Sought p → Sought (x ∷ p)
sought_after x p h e (still s) = still (omega (arith, before_more x p e))
sought_after x p h e (now f) = now record {
  q = x ∷ f.q;
  is = ap (λ (l : List Word). x ∷ l) f.is;
  first = λ ys. omega (arith, before_more x (p ++ ys) (h ys), f.first ys);
  ends = λ ys. omega (arith, hunt-more x (p ++ ys) (h ys), f.ends ys);
}

-- one word more
pub sought : (p : List Word) (w : Word) → before_sync p ≡ length p → Sought (p ++ w ∷ [])
unfolding synced
sought [] w e = still (omega (arith, before_more w [] (one-short w)))
sought (x ∷ []) w e = still (omega (arith, before_more x (w ∷ []) (two-short x w), before_more w [] (one-short w)))
sought (x ∷ y ∷ []) w e = go (synced (x ∷ y ∷ w ∷ [])) refl
  where
    go : (b : Bool) → synced (x ∷ y ∷ w ∷ []) ≡ b → Sought (x ∷ y ∷ w ∷ [])
    go true s = now record {
      q = [];
      is = is_sync x y w [] s;
      first = λ ys. before-none x (y ∷ w ∷ ys) s;
      ends = λ ys. hunt-three x (y ∷ w ∷ ys) s;
    }
    go false s =
        still (omega (arith, before_more x (y ∷ w ∷ []) s, before_more y (w ∷ []) (two-short y w), before_more w [] (one-short w)))
sought (x ∷ y ∷ z ∷ p) w e = go (synced (x ∷ y ∷ z ∷ p)) refl (sought (y ∷ z ∷ p) w)
  where
    go : (b : Bool) → synced (x ∷ y ∷ z ∷ p) ≡ b → (before_sync (y ∷ z ∷ p) ≡ length (y ∷ z ∷ p) → Sought (y ∷ z ∷ p ++ w ∷ []))
        → Sought (x ∷ y ∷ z ∷ p ++ w ∷ [])
    go true s ih = absurd (omega (arith, before-none x (y ∷ z ∷ p) s))
    go false s ih = sought_after x (y ∷ z ∷ p ++ w ∷ []) (λ ys. s) s (ih (omega (arith, before_more x (y ∷ z ∷ p) s)))

-- a hunt that finds none takes all words
pub hunts-all : (p : List Word) → before_sync p ≡ length p → hunt_length p ≡ length p
hunts-all [] e = refl
hunts-all (x ∷ p) e = go (synced (x ∷ p)) refl (hunts-all p)
  where
    go : (b : Bool) → synced (x ∷ p) ≡ b → (before_sync p ≡ length p → hunt_length p ≡ length p) → hunt_length (x ∷ p) ≡ length (x ∷ p)
    go true s ih = absurd (omega (arith, before-none x p s))
    go false s ih = omega (arith, before_more x p s, hunt-more x p s, ih (omega (arith, before_more x p s)))

-- ---- whether the tally hunts

spells-none : (x : Word) (p : List Word) → synced (x ∷ p) ≡ false → spells (sync_to 3) (x ∷ p) ≡ false
unfolding synced
spells-none x [] e = and-false (is_word 0xfa x)
spells-none x (y ∷ []) e = two (is_word 0xfa x) (is_word 0xf3 y)
  where
    two : (a b : Bool) → (a && (b && false)) ≡ false
    two true true = refl
    two true false = refl
    two false b = refl
spells-none x (y ∷ z ∷ []) e = three (is_word 0xfa x) (is_word 0xf3 y) (is_word 0x20 z) e
  where
    three : (a b c : Bool) → (a && b && c) ≡ false → (a && (b && (c && true))) ≡ false
    three true true true e = e
    three true true false e = refl
    three true false c e = refl
    three false b c e = refl
spells-none x (y ∷ z ∷ v ∷ p) e = four (is_word 0xfa x) (is_word 0xf3 y) (is_word 0x20 z)
  where
    four : (a b c : Bool) → (a && (b && (c && false))) ≡ false
    four true true true = refl
    four true true false = refl
    four true false c = refl
    four false b c = refl

pub still_hunts : (p : List Word) → before_sync p ≡ length p → hunts_after (hunted p) ≡ true
still_hunts p e = rw (none p e)
  where
    none : (p : List Word) → before_sync p ≡ length p → ends_with (sync_to 3) p ≡ false
    none [] e = refl
    none (x ∷ p) e = go (synced (x ∷ p)) refl (none p)
      where
        go : (b : Bool) → synced (x ∷ p) ≡ b → (before_sync p ≡ length p → ends_with (sync_to 3) p ≡ false) → ends_with (sync_to 3) (x ∷ p) ≡ false
        go true s ih = absurd (omega (arith, before-none x p s))
        go false s ih = rw (spells-none x p s) (ih (omega (arith, before_more x p s)))

pub hunt-ended : (p : List Word) → Found p → hunts_after (hunted p) ≡ false
hunt-ended p f = rw (f.is, ends f.q)
  where
    ends : (q : List Word) → ends_with (sync_to 3) (q ++ sync) ≡ true
    ends [] = refl
    ends (x ∷ q) = rw (ends q) (or-true (spells (sync_to 3) (x ∷ q ++ sync)))
