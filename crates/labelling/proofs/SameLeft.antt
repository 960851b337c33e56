-- Two lists of calls over streams with the same words leave the same but for the weak counts and the kept copies: it follows from demand 3 alone. What a
-- tally holds above its groups is decided by the words, and who is paid by where the major frames end. Assumes nothing.
use mathlib.Core.Path.{◌≡◌, refl, sym, ap, ap₂, ◌∙◌}
use mathlib.Core.Bool.{true}
use mathlib.Core.List.{List, [], ◌∷◌, ◌++◌, map, append_assoc, append-nil}
use Prim.Native.Nat.{ℕ, suc, ◌<◌}
use native.Mathlib.Omega.{arith}
use lib.ListN.{length, take, replicate}
use lib.Seq.{ext_get_or}
use Rattle.base.specs.Format.{minor_frame}
use Rattle.base.specs.Lists.{sum_by}
use Rattle.labelling.specs.declared.FrameClass.TheVariants.{Good, Damaged, Unsynced}
use Rattle.labelling.specs.declared.Framing.{Framing}
use Rattle.labelling.specs.declared.Runs.{Runs}
use Rattle.labelling.specs.declared.Tally.{Tally}
use Rattle.labelling.specs.declared.Word.{Word}
use Rattle.labelling.specs.Words.{Vote, words, as-fill, as-stray, as-voted, as-split, as-open}
use Rattle.labelling.specs.Votes.{rule_vote}
use Rattle.labelling.specs.MinorFrames.{any_erased, pieces, frames, in_hunted, in_part, classed}
use Rattle.labelling.specs.MajorFrames.{values, runs, majors, in_broken, in_loose, in_building}
use Rattle.labelling.specs.Operators.{paid_to}
use Rattle.labelling.specs.Calls.{Call, joined, paid, stamped}
use Rattle.labelling.specs.SideBySide.{SameDuties}
use Rattle.labelling.specs.Rest.{latest, hunts_after, match_in, reached, over}
use Rattle.labelling.specs.CopyErrors.{SameButCopies}
use Rattle.labelling.specs.Once.{frames_in, majors_in, completes_at, frames_on, Once}
use Rattle.labelling.proofs.Shifts.{joined-stamped}
use Rattle.labelling.proofs.SameWords.{SameWords, same-front, same_length, same-words, same-labelled, same-frames, same-majors}

-- ---- what the words decide

abbrev framing_of : List Word → Framing
framing_of ws = record {
  hunted = sum_by in_hunted (pieces ws);
  good = classed Good (frames ws);
  damaged = classed Damaged (frames ws);
  unsynced = classed Unsynced (frames ws);
  placed = sum_by in_part (pieces ws);
  hunting = latest true (map hunts_after (pieces ws));
  matched = latest 0 (map match_in (pieces ws));
  erasure = any_erased (reached ws);
}

abbrev runs_of : List (List Word) → Runs
runs_of fs = record {
  majors = length (majors fs);
  broken = sum_by in_broken (runs fs);
  loose = sum_by in_loose (runs fs);
  building = sum_by in_building (runs fs);
}

abbrev frame_of : List Word → List ℕ
frame_of ws = over (values (reached ws)) (latest (replicate minor_frame 0) (map values (frames ws)))

module _ {rule : ℕ} {a₀ : List ℕ} {cs : List Call} {t : Tally} {a : List ℕ} (o : Once rule a₀ cs t a) where
  abbrev words_read : List Word
  words_read = words (rule_vote rule) (joined cs)

  framing_is : t.framing ≡ framing_of words_read
  unfolding frames_in
  framing_is =
      let c = o.counts in
      let r = o.rest in
      rw (
        ← c.hunted_is,
        ← c.good-is,
        ← c.damaged-is,
        ← c.unsynced_is,
        ← c.placed-is,
        ← r.hunting_is,
        ← r.matched_is,
        ← r.erasure_is,
      )

  runs-are : t.runs ≡ runs_of (frames words_read)
  unfolding frames_in majors_in
  runs-are = let c = o.counts in rw (← c.majors-is, ← c.broken_is, ← c.loose_is, ← c.building_is)

-- ---- whose duty the major frames are complete on

-- streams whose first n bytes have as many major frames each, taken on the same duties, have as many complete on each duty
frames-agree : (vote : Vote) (k : ℕ) (js js' : List ℕ) (xs ys : List (ℕ × ℕ)) → map (λ x. x.1) ys ≡ map (λ x. x.1) xs
    → ((n : ℕ) → length (majors_in vote (js' ++ take n (map (λ x. x.0) ys))) ≡ length (majors_in vote (js ++ take n (map (λ x. x.0) xs))))
    → frames_on vote k js' ys ≡ frames_on vote k js xs
unfolding completes_at
frames-agree vote k js js' [] [] d h = refl
frames-agree vote k js js' [] (y ∷ ys) d h = absurd (let z : ◌≡◌ {A = ℕ} 0 1 = cc in omega arith)
frames-agree vote k js js' (x ∷ xs) [] d h = absurd (let z : ◌≡◌ {A = ℕ} 0 1 = cc in omega arith)
frames-agree vote k js js' (x ∷ xs) (y ∷ ys) d h =
    let duty : y.1 ≡ x.1 = cc in
    let rest : map (λ (x : ℕ × ℕ). x.1) ys ≡ map (λ (x : ℕ × ℕ). x.1) xs = cc in
    let before = rw (append-nil js, append-nil js') at (h 0) in
    let more = frames-agree vote k (js ++ x.0 ∷ []) (js' ++ y.0 ∷ []) xs ys rest (λ n. rw (append_assoc js', append_assoc js) (h (suc n))) in
    rw (before, h 1, duty, more)

-- ---- two lists of calls over streams with the same words

module _ {rule : ℕ} {a₀ : List ℕ} {cs ds : List Call} {t u : Tally} {a b : List ℕ} (o : Once rule a₀ cs t a) (o' : Once rule a₀ ds u b)
    (s : SameWords (rule_vote rule) (joined cs) (joined ds)) where
  abbrev vote : Vote
  vote = rule_vote rule

  framing_same : u.framing ≡ t.framing
  framing_same = framing_is o' ∙ rw (same-words vote s) (sym (framing_is o))

  runs_same : u.runs ≡ t.runs
  runs_same = runs-are o' ∙ rw (same-words vote s) (sym (runs-are o))

  frame_same : u.frame ≡ t.frame
  frame_same = o'.rest.frame_is ∙ rw (same-words vote s) (sym o.rest.frame_is)

  pub area_same : b ≡ a
  area_same = o'.area_is ∙ rw (same-frames vote s) (sym o.area_is)

  pub paid-same : paid ds ≡ paid cs
  paid-same = o'.paid-is ∙ rw (same-majors vote s) (sym o.paid-is)

  operators_same : SameDuties cs ds → u.operators ≡ t.operators
  operators_same d =
      let x = o.duties in
      let y = o'.duties in
      let to-each : (k : ℕ) → k < length u.operators.paid → paid_to k u.operators ≡ paid_to k t.operators =
      λ k h.
      let few : k < 8 = omega (arith, y.eight) in
      y.paid-to k few ∙ frames-agree vote k [] [] (stamped 0 cs) (stamped 0 ds) d.as_taken fronts ∙ sym (x.paid-to k few) in
      ap₂ (λ (l : List ℕ) (k : ℕ). record { paid = l; duty = k }) (ext_get_or 0 _ _ (y.eight ∙ sym x.eight) to-each)
      (y.duty_is ∙ d.at_the_end ∙ sym x.duty_is)
    where
      fronts : (n : ℕ)
          → length (majors_in vote (take n (map (λ x. x.0) (stamped 0 ds)))) ≡ length (majors_in vote (take n (map (λ x. x.0) (stamped 0 cs))))
      fronts n = rw (← joined-stamped 0 cs, ← joined-stamped 0 ds) (ap length (same-majors vote (same-front vote n s)))

  pub same-but_copies : SameDuties cs ds → SameButCopies t u
  same-but_copies d =
      let c = o.counts in
      let c' = o'.counts in
      let bytes : u.groups.bytes ≡ t.groups.bytes = c'.bytes_is ∙ same_length vote s ∙ sym c.bytes_is in
      let fill : u.groups.fill ≡ t.groups.fill = c'.fill_is ∙ same-labelled vote as-fill s ∙ sym c.fill_is in
      let stray : u.groups.stray ≡ t.groups.stray = c'.stray_is ∙ same-labelled vote as-stray s ∙ sym c.stray_is in
      let voted : u.groups.voted ≡ t.groups.voted = omega (arith, c'.voted_is, c.voted_is, same-labelled vote as-voted s) in
      let split : u.groups.split ≡ t.groups.split = omega (arith, c'.split_is, c.split_is, same-labelled vote as-split s) in
      let unclosed : u.groups.«open» ≡ t.groups.«open» = c'.open_is ∙ same-labelled vote as-open s ∙ sym c.open_is in
      let rule_same : u.rule ≡ t.rule = o'.rule_is ∙ sym o.rule_is in
      rw (
        ← bytes,
        ← fill,
        ← stray,
        ← voted,
        ← split,
        ← unclosed,
        ← framing_same,
        ← runs_same,
        ← operators_same d,
        ← rule_same,
        ← frame_same,
      )
