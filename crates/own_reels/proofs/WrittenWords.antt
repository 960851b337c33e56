-- What the writer makes, as words: each byte gives its word, whatever the spacing and whatever follows. Behind bytes of any kind one written byte that is not
-- SYNC brings the groups back into step: it may be lost, and what is left of it opens no group. Assumes nothing.
use mathlib.Core.Path.{◌≡◌, refl, sym, ap, ◌∙◌}
use mathlib.Core.Bool.{Bool, true, false}
use mathlib.Core.List.{List, [], ◌∷◌, ◌++◌, map, append_assoc}
use Prim.Native.Nat.{ℕ, zero, suc, ◌≤◌}
use native.Mathlib.Omega.{arith}
use lib.Dec.{eqb}
use lib.ListN.{take, replicate}
use Rattle.base.specs.Format.{SYNC, FILL}
use Rattle.base.specs.Lists.{concat_map}
use Rattle.labelling.specs.declared.Groups.{Groups}
use Rattle.labelling.specs.declared.Word.{Word}
use Rattle.labelling.specs.declared.Word.TheVariants.{Voted}
use Rattle.labelling.specs.Words.{outside, groups, Vote, words}
use Rattle.labelling.specs.Votes.{rule_vote}
use Rattle.labelling.proofs.Votes.{unanimous}
use Rattle.own_sync.specs.Recovery.{words_in}
use Rattle.writer.specs.Stream.{spaced, stream}
use Rattle.writer.specs.ReadBack.{Minor, written}
use Rattle.writer.proofs.ReadingBack.{as_frame, as_major}
use Rattle.own_reels.specs.Written.{unled, NoGroup}
use Rattle.own_reels.proofs.Marks.{words_of, ends, out, words-then}

abbrev pub as_majors : List (List Minor) → List (List (List Word))
as_majors mss = map as_major mss

-- ---- bytes that open no group

fill_opens_none : (n : ℕ) → NoGroup (replicate n FILL)
fill_opens_none zero = tt
fill_opens_none (suc n) = (refl, fill_opens_none n)

module _ (vote : Vote) where
  words-other : (b : ℕ) (xs : List ℕ) → eqb b SYNC ≡ false → words vote (b ∷ xs) ≡ words vote xs
  unfolding words outside
  words-other b xs e = go (eqb b FILL) refl
    where
      go : (fill : Bool) → eqb b FILL ≡ fill → words vote (b ∷ xs) ≡ words vote xs
      go true f = rw (e, f, groups)
      go false f = rw (e, f, groups)

  pub words-cut_off : (s xs : List ℕ) → NoGroup s → words vote (s ++ xs) ≡ words vote xs
  words-cut_off [] xs h = refl
  words-cut_off (b ∷ s) xs h = words-other b (s ++ xs) h.0 ∙ words-cut_off s xs h.1

  -- ---- behind bytes of any kind

  -- a group closes with the byte b or before it, and then what is left opens none
  closes_then : (x y z : ℕ) (s xs : List ℕ) → NoGroup s → words vote (SYNC ∷ x ∷ y ∷ z ∷ (s ++ xs)) ≡ (vote x y z ∷ []) ++ words vote xs
  unfolding words outside
  closes_then x y z s xs h = ap (λ (l : List Word). vote x y z ∷ l) (words-cut_off s xs h)

  in_step : (n : ℕ) (g : Groups) (s b : ℕ) (xs : List ℕ) → n ≤ 3 → eqb b SYNC ≡ false
      → (w : Word) × (words vote (take n (SYNC ∷ g.first ∷ g.second ∷ []) ++ (spaced s b ++ xs)) ≡ (w ∷ []) ++ words vote xs)
  in_step zero g s b xs h e = (vote b b b, closes_then b b b (replicate s FILL) xs (fill_opens_none s))
  in_step (suc zero) g s b xs h e = (vote SYNC b b, closes_then SYNC b b (b ∷ replicate s FILL) xs (e, fill_opens_none s))
  in_step (suc (suc zero)) g s b xs h e =
      (vote g.first SYNC b, closes_then g.first SYNC b (b ∷ b ∷ replicate s FILL) xs (e, (e, fill_opens_none s)))
  in_step (suc (suc (suc zero))) g s b xs h e =
      (vote g.first g.second SYNC, closes_then g.first g.second SYNC (b ∷ b ∷ b ∷ replicate s FILL) xs (e, (e, (e, fill_opens_none s))))
  in_step (suc (suc (suc (suc n)))) g s b xs h e = absurd (omega arith)

  pub words-after_any : (x : List ℕ) (s b : ℕ) (xs : List ℕ) → eqb b SYNC ≡ false
      → (d : List Word) × (words vote (x ++ (spaced s b ++ xs)) ≡ d ++ words vote xs)
  words-after_any x s b xs e =
      let g = (ends vote x).groups_at in
      let r = in_step g.«open» g s b xs (ends vote x).holds.few_open e in
      let before = words_of vote (out vote x) in (
        before ++ (r.0 ∷ []),
        words-then vote x (spaced s b ++ xs) ∙ ap (λ (l : List Word). before ++ l) r.1
            ∙ sym (append_assoc before (r.0 ∷ []) (words vote xs)),
      )

-- ---- what is written

module _ (rule : ℕ) where
  abbrev vote : Vote
  vote = rule_vote rule

  words-copies : (b : ℕ) (xs : List ℕ) → words vote (SYNC ∷ b ∷ b ∷ b ∷ xs) ≡ Voted b ∷ words vote xs
  unfolding words outside
  words-copies b xs = rw ((unanimous rule).all_three b)

  pub words-stream : (f : ℕ) (bytes xs : List ℕ) → words vote (stream f bytes ++ xs) ≡ map Voted bytes ++ words vote xs
  unfolding stream
  words-stream f [] xs = refl
  words-stream f (b ∷ bytes) xs =
      let rest = stream f bytes ++ xs in
      ap (λ (l : List ℕ). words vote (SYNC ∷ b ∷ b ∷ b ∷ l)) (append_assoc (replicate f FILL) (stream f bytes) xs)
      ∙ words-copies b (replicate f FILL ++ rest)
      ∙ ap (λ (l : List Word). Voted b ∷ l) (words-cut_off vote (replicate f FILL) rest (fill_opens_none f) ∙ words-stream f bytes xs)

  words-minors : (ms : List Minor) (xs : List ℕ) → words vote (concat_map written ms ++ xs) ≡ concat_map (λ f. f) (as_major ms) ++ words vote xs
  words-minors [] xs = refl
  words-minors (m ∷ ms) xs =
      ap (words vote) (append_assoc (written m) (concat_map written ms) xs)
      ∙ words-stream m.spacing m.bytes (concat_map written ms ++ xs) ∙ ap (λ (l : List Word). as_frame m ++ l) (words-minors ms xs)
      ∙ sym (append_assoc (as_frame m) (concat_map (λ (f : List Word). f) (as_major ms)) (words vote xs))

  pub words-unled : (mss : List (List Minor)) (xs : List ℕ) → words vote (unled mss ++ xs) ≡ words_in (as_majors mss) ++ words vote xs
  words-unled [] xs = refl
  words-unled (ms ∷ mss) xs =
      let first = concat_map (λ (f : List Word). f) (as_major ms) in
      ap (words vote) (append_assoc (concat_map written ms) (unled mss) xs) ∙ words-minors ms (unled mss ++ xs)
      ∙ ap (λ (l : List Word). first ++ l) (words-unled mss xs) ∙ sym (append_assoc first (words_in (as_majors mss)) (words vote xs))
