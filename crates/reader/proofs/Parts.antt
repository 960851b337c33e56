-- The part of a piece as far as a lock, read: how the second layer before and after it tells a lock, and that all of the piece is taken where there is
-- none. By induction over the piece: a byte completes a major frame, ends the hunt, or leaves the rest as it is. Assumes nothing.
use mathlib.Core.Path.{◌≡◌, refl, sym, ap, ◌∙◌}
use mathlib.Core.Bool.{Bool, true, false, not, ◌&&◌, ◌||◌, true≢false}
use mathlib.Core.List.{List, [], ◌∷◌}
use Prim.Native.Nat.{ℕ, ◌+◌, ◌<◌}
use native.Mathlib.Omega.{arith}
use lib.Dec.{eqb}
use borrow.Author.Tests.{eq-eqb, ne_eqb}
use Rattle.base.specs.Lists.{one}
use Rattle.labelling.specs.declared.Framing.{Framing}
use Rattle.labelling.specs.Words.{Vote}
use Rattle.labelling.specs.Machine.{State, Now, byte_step}
use Rattle.labelling.specs.Calls.{Progress, feed}
use Rattle.labelling.proofs.Feeding.{feed-more, feed-complete}
use Rattle.own_sync.specs.Locks.{ends_hunt, locks, up_to}
use Rattle.own_sync.proofs.Locks.{locks-byte, stops_at, up_stop, up_on}
use Rattle.reader.specs.Shapes.{locked_by}

-- ---- a lock, from whether the layer hunts and how many frames were unsynced, before and after

abbrev locked_of : Bool → ℕ → Bool → ℕ → Bool
locked_of h u k v = not k && (h || not (eqb v u))

pub not_at_once : (f : Framing) → locked_by f f ≡ false
not_at_once f = go f.hunting
  where
    go : (h : Bool) → locked_of h f.unsynced h f.unsynced ≡ false
    go true = refl
    go false = rw (eq-eqb f.unsynced f.unsynced refl)

-- after one byte it is whether that byte ended a hunt
by_one : (h k : Bool) (u v : ℕ) → v + one (not k) ≡ u + one (not h) + one (h && not k) → locked_of h u k v ≡ (h && not k)
by_one true true u v e = refl
by_one true false u v e = refl
by_one false true u v e = refl
by_one false false u v e = rw (eq-eqb v u (omega arith))

-- a byte that ended none may stand before
by_more : (h k l : Bool) (u v w : ℕ) → (h && not k) ≡ false → v + one (not k) ≡ u + one (not h) + one (h && not k)
    → w + one (not l) ≡ v + one (not k) + one (locked_of k v l w) → locked_of h u l w ≡ locked_of k v l w
by_more true true l u v w z e r = refl
by_more true false l u v w z e r = absurd (true≢false z)
by_more false false l u v w z e r = let same : v ≡ u = omega arith in rw same
by_more false true true u v w z e r = refl
by_more false true false u v w z e r = rw (ne_eqb w u (λ s. omega arith))

-- ---- the part

-- begun with the layer f, the part of the piece p is read as r
pub record PartRead (f : Framing) (p part : List ℕ) (r : Progress) : Type 0 where
  pub count : locks r.state.framing ≡ locks f + one (locked_by f r.state.framing)
  pub whole : r.complete ≡ false → locked_by f r.state.framing ≡ false → part ≡ p
  pub some : locked_by f r.state.framing ≡ true → 0 < r.taken

module _ (vote : Vote) where
  pub part-read : (p : List ℕ) (t : State) (a : List ℕ) → PartRead t.framing p (up_to vote true t a p) (feed vote t a (up_to vote true t a p))
  part-read [] t a =
      let none = not_at_once t.framing in
      record { count = rw none (omega arith); whole = λ c l. refl; some = λ l. absurd (true≢false (sym l ∙ none)) }
  part-read (b ∷ p) t a = go n.complete (stops_at vote true t a b) refl refl (part-read p n.state n.area)
    where
      n : Now
      n = byte_step vote t a b

      f : Framing
      f = t.framing

      g : Framing
      g = n.state.framing

      part : List ℕ
      part = up_to vote true n.state n.area p

      by_byte : locked_by f g ≡ ends_hunt f g
      by_byte = by_one f.hunting g.hunting f.unsynced g.unsynced (locks-byte vote t a b)

      counted : locks g ≡ locks f + one (locked_by f g)
      counted = rw by_byte (locks-byte vote t a b)

      go : (c l : Bool) → n.complete ≡ c → ends_hunt f g ≡ l → PartRead g p part (feed vote n.state n.area part)
          → PartRead f (b ∷ p) (up_to vote true t a (b ∷ p)) (feed vote t a (up_to vote true t a (b ∷ p)))
      go true true c l rest =
          rw (up_stop vote true t a b p l, feed-complete vote t a b [] c)
          record { count = counted; whole = λ z. absurd (true≢false z); some = λ z. omega arith }
      go true false c l rest =
          rw (up_on vote true t a b p l, feed-complete vote t a b part c)
          record { count = counted; whole = λ z. absurd (true≢false z); some = λ z. omega arith }
      go false true c l rest =
          rw (up_stop vote true t a b p l, feed-more vote t a b [] c)
          record { count = counted; whole = λ z none. absurd (true≢false (sym (by_byte ∙ l) ∙ none)); some = λ z. omega arith }
      go false false c l rest =
          let q = (feed vote n.state n.area part).state.framing in
          let same : locked_by f q ≡ locked_by g q =
          by_more f.hunting g.hunting q.hunting f.unsynced g.unsynced q.unsynced l (locks-byte vote t a b) rest.count in
          let kept : locks g ≡ locks f = rw l at (locks-byte vote t a b) ∙ omega arith in
          rw (up_on vote true t a b p l, feed-more vote t a b part c)
          record {
            count = rw (same, ← kept) rest.count;
            whole = λ z none. ap (λ (x : List ℕ). b ∷ x) (rest.whole z (sym same ∙ none));
            some = λ z. omega arith;
          }
