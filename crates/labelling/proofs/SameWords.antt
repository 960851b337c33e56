-- Two streams whose closed groups give the same words, and which are otherwise the same: their words, how many bytes have each label, their closed
-- and their major frames are the same, and so are those of their first n bytes. Assumes nothing.
use mathlib.Core.Path.{◌≡◌, refl, sym, ap, ◌∙◌}
use mathlib.Core.List.{List, [], ◌∷◌}
use Prim.Native.Nat.{ℕ, zero, suc, ◌≤◌}
use native.Mathlib.Omega.{arith}
use lib.ListN.{length, take, length-take}
use Rattle.labelling.specs.Words.{SYNC, Outside, opening, filling, straying, outside, Group, fill, stray, closed, opened, groups, bytes_of}
use Rattle.labelling.specs.Words.{Vote, Label, word_of, words, label_of, labelled}
use Rattle.labelling.specs.Once.{frames_in, majors_in}
use Rattle.labelling.proofs.ByteLayer.{value_of, value-is, labelled-is}
use Rattle.labelling.proofs.Paired.{Paired, no_pair, pair, concat_map-paired, sum_by-paired}

-- ---- the first groups of two streams

module _ {R : Group → Group → Type 0} (bs cs : List ℕ) (p : Paired R (groups bs) (groups cs)) where
  -- the same byte outside a group
  pub outer_pair : (b : ℕ) → (b ≡ SYNC → ⊥) → R fill fill → R (stray b) (stray b) → Paired R (groups (b ∷ bs)) (groups (b ∷ cs))
  outer_pair b h f s = go (outside b) refl (value-is b)
    where
      go : (k : Outside) → outside b ≡ k → b ≡ value_of k b → Paired R (groups (b ∷ bs)) (groups (b ∷ cs))
      go opening e v = absurd (h v)
      go filling e v = rw (e, groups) (pair f p)
      go straying e v = rw (e, groups) (pair s p)

  pub closed_pair : {a b c a' b' c' : ℕ} → R (closed a b c) (closed a' b' c')
      → Paired R (groups (SYNC ∷ a ∷ b ∷ c ∷ bs)) (groups (SYNC ∷ a' ∷ b' ∷ c' ∷ cs))
  unfolding outside
  closed_pair r = pair r p

-- a group not closed ends its stream
pub open_groups : (l : List ℕ) → length l ≤ 2 → groups (SYNC ∷ l) ≡ opened l ∷ []
unfolding outside
open_groups [] h = refl
open_groups (a ∷ []) h = refl
open_groups (a ∷ b ∷ []) h = refl
open_groups (a ∷ b ∷ c ∷ l) h = absurd (omega arith)

pub open_pair : {R : Group → Group → Type 0} (l m : List ℕ) → length l ≤ 2 → length m ≡ length l → R (opened l) (opened m)
    → Paired R (groups (SYNC ∷ l)) (groups (SYNC ∷ m))
open_pair l m h e r = rw (open_groups l h, open_groups m (omega arith)) (pair r no_pair)

-- ---- streams with the same words

module _ (vote : Vote) where
  pub data SameWords : List ℕ → List ℕ → Type 0 where
    both_end : SameWords [] []
    both-outer : {bs cs : List ℕ} (b : ℕ) → (b ≡ SYNC → ⊥) → SameWords bs cs → SameWords (b ∷ bs) (b ∷ cs)
    both-close : {a b c a' b' c' : ℕ} {bs cs : List ℕ} → vote a' b' c' ≡ vote a b c → SameWords bs cs
        → SameWords (SYNC ∷ a ∷ b ∷ c ∷ bs) (SYNC ∷ a' ∷ b' ∷ c' ∷ cs)
    both-open : {l m : List ℕ} → length l ≤ 2 → length m ≡ length l → SameWords (SYNC ∷ l) (SYNC ∷ m)

  -- of the first n bytes
  pub same-front : {bs cs : List ℕ} (n : ℕ) → SameWords bs cs → SameWords (take n bs) (take n cs)
  same-front zero s = both_end
  same-front (suc n) both_end = both_end
  same-front (suc n) (both-outer b h s) = both-outer b h (same-front n s)
  same-front (suc zero) (both-close e s) = both-open {l = []} {m = []} (omega arith) refl
  same-front (suc (suc zero)) (both-close {a} {a'} e s) = both-open {l = a ∷ []} {m = a' ∷ []} (omega arith) refl
  same-front (suc (suc (suc zero))) (both-close {a} {b} {a'} {b'} e s) = both-open {l = a ∷ b ∷ []} {m = a' ∷ b' ∷ []} (omega arith) refl
  same-front (suc (suc (suc (suc n)))) (both-close e s) = both-close e (same-front n s)
  same-front (suc n) (both-open {l} {m} h e) =
      both-open {l = take n l} {m = take n m} (omega (arith, length-take n l)) (omega (arith, length-take n l, length-take n m))

  pub same_length : {bs cs : List ℕ} → SameWords bs cs → length cs ≡ length bs
  same_length both_end = refl
  same_length (both-outer b h s) = ap suc (same_length s)
  same_length (both-close e s) = ap (λ (n : ℕ). suc (suc (suc (suc n)))) (same_length s)
  same_length (both-open h e) = ap suc e

  -- ---- group by group

  record SameGroup (g h : Group) : Type 0 where
    word_same : word_of vote h ≡ word_of vote g
    label_same : label_of vote h ≡ label_of vote g
    size_same : length (bytes_of h) ≡ length (bytes_of g)

  same-groups : {bs cs : List ℕ} → SameWords bs cs → Paired SameGroup (groups bs) (groups cs)
  same-groups both_end = no_pair
  same-groups (both-outer {bs} {cs} b h s) =
      outer_pair bs cs (same-groups s) b h record { word_same = refl; label_same = refl; size_same = refl }
      record { word_same = refl; label_same = refl; size_same = refl }
  same-groups (both-close {bs} {cs} e s) = closed_pair bs cs (same-groups s) record { word_same = rw e; label_same = rw e; size_same = refl }
  same-groups (both-open {l} {m} h e) = open_pair l m h e record { word_same = refl; label_same = refl; size_same = ap suc e }

  pub same-words : {bs cs : List ℕ} → SameWords bs cs → words vote cs ≡ words vote bs
  unfolding words
  same-words s = sym (concat_map-paired (λ g h r. sym r.word_same) (same-groups s))

  pub same-labelled : {bs cs : List ℕ} (k : Label) → SameWords bs cs → labelled vote k cs ≡ labelled vote k bs
  same-labelled {bs} {cs} k s =
      labelled-is vote k cs ∙ sym (sum_by-paired (λ g h r. rw (r.label_same, r.size_same)) (same-groups s)) ∙ sym (labelled-is vote k bs)

  pub same-frames : {bs cs : List ℕ} → SameWords bs cs → frames_in vote cs ≡ frames_in vote bs
  unfolding frames_in
  same-frames s = rw (same-words s)

  pub same-majors : {bs cs : List ℕ} → SameWords bs cs → majors_in vote cs ≡ majors_in vote bs
  unfolding majors_in
  same-majors s = rw (same-frames s)
