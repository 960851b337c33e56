-- A written reel is read back: every byte is fill or voted, every frame is good, and every run is a major frame of the reel. In each layer
-- what stands in front is read off, whatever follows it, and demand 3 takes this to any list of calls, under either rule. Assumes nothing.
use mathlib.Core.Path.{◌≡◌, refl, ap, ◌∙◌}
use mathlib.Core.Bool.{true, false}
use mathlib.Core.List.{List, [], ◌∷◌, ◌++◌, map, append_assoc, append-nil}
use Prim.Native.Nat.{ℕ, zero, suc, ◌+◌, ◌^◌, ◌≤◌}
use native.Mathlib.Omega.{arith}
use lib.Dec.{eqb}
use lib.ListN.{length, get_or, replicate, length-map, get_or-map}
use borrow.Author.Tests.{eq-eqb}
use Rattle.base.specs.Lists.{concat_map, sum_by}
use Rattle.base.proofs.Lists.{sum_by-append}
use Rattle.labelling.specs.declared.FrameClass.{FrameClass}
use Rattle.labelling.specs.declared.FrameClass.TheVariants.{Good, Damaged, Unsynced}
use Rattle.labelling.specs.declared.Tally.{Tally}
use Rattle.labelling.specs.declared.Word.{Word}
use Rattle.labelling.specs.declared.Word.TheVariants.{Voted, Erased}
use Rattle.labelling.specs.Words.{SYNC, FILL, outside, Vote, Label, as-fill, as-stray, as-voted, as-split, as-open, same_label, words}
use Rattle.labelling.specs.Words.{labels, labelled, weak_copy, weakly}
use Rattle.labelling.specs.Votes.{rule_vote}
use Rattle.labelling.specs.MinorFrames.{synced, any_erased, frame_class, same_class, placing, hunted, frame, pieces, frame_of, frames, in_hunted, in_part}
use Rattle.labelling.specs.MinorFrames.{classed}
use Rattle.labelling.specs.MajorFrames.{value, values, is_good, number, Run, major, runs, in_broken, in_loose, in_building}
use Rattle.labelling.specs.Machine.{synced_bytes, fresh}
use Rattle.labelling.specs.Order.{is_rule}
use Rattle.labelling.specs.Calls.{Call, joined, Handed}
use Rattle.labelling.specs.Once.{frames_in, majors_in, Counts, Once, ReadBySome}
use Rattle.labelling.proofs.Votes.{unanimous}
use Rattle.labelling.proofs.Pieces.{cuts, hunt-ends, frame-closes}
use Rattle.labelling.proofs.FrameClasses.{class_of-bytes}
use Rattle.labelling.proofs.IfAny.{if_any, sum_by-if_any}
use Rattle.labelling.proofs.RunCuts.{numbered-by, Chain, Cuts, cuts_both, cuts-major}
use Rattle.labelling.proofs.Demand.{once, reaches}
use Rattle.writer.specs.Stream.{stream, lead_in}
use Rattle.writer.specs.ReadBack.{Minor, Numbered, AllWhole, written, reel, bytes_of, ReadBack, ReelPromise}

-- ---- what is to be read

abbrev pub as_frame : Minor → List Word
as_frame m = map Voted m.bytes

abbrev pub as_major : List Minor → List (List Word)
as_major ms = map as_frame ms

-- the words of the major frames mss, and their minor frames
abbrev all_words : List (List Minor) → List Word
all_words mss = concat_map (concat_map as_frame) mss

abbrev all_frames : List (List Minor) → List (List Word)
all_frames mss = concat_map as_major mss

-- the values are the bytes again
values-back : (bytes : List ℕ) → values (map Voted bytes) ≡ bytes
values-back [] = refl
values-back (b ∷ bytes) = ap (λ (l : List ℕ). b ∷ l) (values-back bytes)

major_back : (ms : List Minor) → concat_map values (as_major ms) ≡ bytes_of ms
major_back [] = refl
major_back (m ∷ ms) = rw (values-back m.bytes, major_back ms)

pub majors-back : (mss : List (List Minor)) → map (concat_map values) (map as_major mss) ≡ map bytes_of mss
majors-back [] = refl
majors-back (ms ∷ mss) = rw (major_back ms, majors-back mss)

-- a minor frame with its sync is good, and keeps its number
pub good : (m : Minor) → synced_bytes m.bytes ≡ true → frame_class (as_frame m) ≡ Good
good m sync = class_of-bytes (as_frame m) m.bytes false (values-back m.bytes) (none-erased m.bytes) ∙ rw sync
  where
    none-erased : (bytes : List ℕ) → any_erased (map Voted bytes) ≡ false
    none-erased [] = refl
    none-erased (b ∷ bytes) = none-erased bytes

pub number-back : (m : Minor) → number (as_frame m) ≡ get_or m.bytes 65 0
unfolding number
number-back m = rw (← get_or-map value (as_frame m) 65 Erased, values-back m.bytes)

-- ---- words to minor frames

-- where a frame may begin, the words ws are cut into the frames fs and nothing else, and these are all good
record Framed (ws : List Word) (fs : List (List Word)) : Type 0 where
  none_hunted : sum_by in_hunted (cuts placing ws) ≡ 0
  no_part : sum_by in_part (cuts placing ws) ≡ 0
  frames-are : concat_map frame_of (cuts placing ws) ≡ fs
  all_good : (k : FrameClass) → same_class k Good ≡ false → classed k fs ≡ 0

framed_minor : {ws : List Word} {fs : List (List Word)} (m : Minor) → length m.bytes ≡ 128 → synced_bytes m.bytes ≡ true → Framed ws fs
    → Framed (as_frame m ++ ws) (as_frame m ∷ fs)
unfolding classed
framed_minor {ws} m full sync r = record {
  none_hunted = rw closes (omega arith);
  no_part = rw closes (omega arith);
  frames-are = rw (closes, r.frames-are);
  all_good = λ k e. rw (good m sync, e) (omega (arith, r.all_good k e));
}
  where
    closes : cuts placing (as_frame m ++ ws) ≡ frame (as_frame m) ∷ cuts placing ws
    closes = frame-closes (as_frame m) ws (length-map m.bytes Voted ∙ full) ∙ rw (good m sync)

framed_minors : {ws : List Word} {fs : List (List Word)} (n : ℕ) (ms : List Minor) → Numbered n ms → Framed ws fs
    → Framed (concat_map as_frame ms ++ ws) (as_major ms ++ fs)
framed_minors n [] c r = r
framed_minors n (m ∷ ms) c r = rw append_assoc (framed_minor m c.0 c.1 (framed_minors _ ms c.3 r))

framed_majors : (mss : List (List Minor)) → AllWhole mss → Framed (all_words mss) (all_frames mss)
unfolding classed
framed_majors [] whole = record { none_hunted = refl; no_part = refl; frames-are = refl; all_good = λ k e. refl }
framed_majors (ms ∷ mss) whole = framed_minors 0 ms whole.0.numbered (framed_majors mss whole.1)

-- ---- minor to major

-- numbered minor frames are a run
chain : (n : ℕ) (ms : List Minor) → n + length ms ≤ 128 → Numbered n ms → Chain n (as_major ms)
unfolding is_good
chain n [] h c = tt
chain n (m ∷ ms) h c =
    let same = eq-eqb (number (as_frame m)) n (number-back m ∙ c.2) in
    (numbered-by n (as_frame m) true true (omega arith) (rw (good m c.1)) same, chain (suc n) ms (omega arith) c.3)

-- each major frame is one run, and there are no others
cuts-majors : (mss : List (List Minor)) → AllWhole mss → Cuts (all_frames mss) (concat_map (if_any major) (map as_major mss)) (map as_major mss) []
cuts-majors [] whole = record { runs-are = refl; majors-are = refl }
cuts-majors (ms ∷ mss) whole =
    cuts_both
    (cuts-major (as_major ms) (all_frames mss) (chain 0 ms (omega arith) whole.0.numbered) (length-map ms as_frame ∙ whole.0.all))
    (cuts-majors mss whole.1)

-- a count that is 0 at a major frame is 0 over such runs
only_majors : (g : Run → ℕ) → ((p : List (List Word)) → g (major p) ≡ 0) → (ps : List (List (List Word))) → sum_by g (concat_map (if_any major) ps) ≡ 0
only_majors g none [] = refl
only_majors g none (p ∷ ps) =
    omega (arith, sum_by-append g (if_any major p) (concat_map (if_any major) ps), sum_by-if_any g major p (none []), none p, only_majors g none ps)

-- equal copies name none
none_named : (b : ℕ) → weak_copy b b b ≡ 0
unfolding weak_copy
none_named b = rw (eq-eqb b b refl)

module _ (rule : ℕ) (is_rule_fact : is_rule rule ≡ true) where
  abbrev vote : Vote
  vote = rule_vote rule

  alike : (w : ℕ) → vote w w w ≡ Voted w
  alike = (unanimous rule).all_three

  -- ---- bytes to words

  -- the bytes xs give the words ws, have no label but fill and voted, and no weak copy
  record Gives (xs : List ℕ) (ws : List Word) : Type 0 where
    words_are : words vote xs ≡ ws
    no_other : (k : Label) → same_label k as-fill ≡ false → same_label k as-voted ≡ false → labelled vote k xs ≡ 0
    none-weak : (n : ℕ) → eqb 0 n ≡ false → weakly vote n xs ≡ 0

  gives_fill : {xs : List ℕ} {ws : List Word} (n : ℕ) → Gives xs ws → Gives (replicate n FILL ++ xs) ws
  unfolding outside words labels labelled weakly
  gives_fill zero r = r
  gives_fill (suc n) r = one_more (gives_fill n r)
    where
      one_more : {xs : List ℕ} {ws : List Word} → Gives xs ws → Gives (FILL ∷ xs) ws
      one_more r = record {
        words_are = r.words_are;
        no_other = λ k e v. rw e (omega (arith, r.no_other k e v));
        none-weak = λ n e. rw e (omega (arith, r.none-weak n e));
      }

  gives_copies : {xs : List ℕ} {ws : List Word} (b : ℕ) → Gives xs ws → Gives (SYNC ∷ b ∷ b ∷ b ∷ xs) (Voted b ∷ ws)
  unfolding outside words labels labelled weakly
  gives_copies b r = record {
    words_are = rw (alike b, r.words_are);
    no_other = λ k e v. rw (alike b, v) (omega (arith, r.no_other k e v));
    none-weak = λ n e. rw (alike b, none_named b, e) (omega (arith, r.none-weak n e));
  }

  gives_stream : {xs : List ℕ} {ws : List Word} (f : ℕ) (bytes : List ℕ) → Gives xs ws → Gives (stream f bytes ++ xs) (map Voted bytes ++ ws)
  unfolding stream
  gives_stream f [] r = r
  gives_stream f (b ∷ bytes) r = rw append_assoc (gives_copies b (gives_fill f (gives_stream f bytes r)))

  gives_minors : {xs : List ℕ} {ws : List Word} (ms : List Minor) → Gives xs ws → Gives (concat_map written ms ++ xs) (concat_map as_frame ms ++ ws)
  gives_minors [] r = r
  gives_minors (m ∷ ms) r = simp append_assoc (gives_stream m.spacing m.bytes (gives_minors ms r))

  gives_majors : (mss : List (List Minor)) → Gives (concat_map (concat_map written) mss) (all_words mss)
  unfolding words labels labelled weakly
  gives_majors [] = record { words_are = refl; no_other = λ k e v. refl; none-weak = λ n e. refl }
  gives_majors (ms ∷ mss) = gives_minors ms (gives_majors mss)

  -- ---- the reel

  module _ (f : ℕ) (mss : List (List Minor)) where
    gives_reel : Gives (reel f mss) (map Voted lead_in ++ all_words mss)
    unfolding reel
    gives_reel = gives_stream f lead_in (gives_majors mss)

    -- the lead-in ends the hunt
    pieces_are : pieces (words vote (reel f mss)) ≡ hunted (map Voted lead_in) ∷ cuts placing (all_words mss)
    unfolding pieces synced
    pieces_are = rw gives_reel.words_are (hunt-ends (map Voted lead_in) (all_words mss) (omega arith) refl)

    module _ (whole : AllWhole mss) where
      framed : Framed (all_words mss) (all_frames mss)
      framed = framed_majors mss whole

      frames-are : frames_in vote (reel f mss) ≡ all_frames mss
      unfolding frames_in frames
      frames-are = rw pieces_are framed.frames-are

      majors-are : majors_in vote (reel f mss) ≡ map as_major mss
      unfolding majors_in
      majors-are = rw frames-are ((cuts-majors mss whole).majors-are ∙ append-nil (map as_major mss))

      no_other_run : (g : Run → ℕ) → ((p : List (List Word)) → g (major p) ≡ 0) → sum_by g (runs (frames_in vote (reel f mss))) ≡ 0
      unfolding runs
      no_other_run g none = rw (frames-are, (cuts-majors mss whole).runs-are, append-nil) (only_majors g none (map as_major mss))

      read_back : (a₀ : List ℕ) → length a₀ ≡ 16384 → (cs : List Call) (t : Tally) (a : List ℕ) → Handed (fresh rule) a₀ cs t a → joined cs ≡ reel f mss
          → ReadBack mss cs t
      read_back a₀ full cs t a h e = record {
        paid-is = all.paid-is ∙ rw (e, majors-are) (majors-back mss);
        majors-is = count.majors-is ∙ rw majors-are (length-map mss as_major);
        no_stray = count.stray_is ∙ gives_reel.no_other as-stray refl refl;
        no_split = omega (arith, count.split_is, gives_reel.no_other as-split refl refl);
        no_weak1 = count.weak1_is ∙ gives_reel.none-weak 1 refl;
        no_weak2 = count.weak2_is ∙ gives_reel.none-weak 2 refl;
        no_weak3 = count.weak3_is ∙ gives_reel.none-weak 3 refl;
        none_open = count.open_is ∙ gives_reel.no_other as-open refl refl;
        hunted_is = count.hunted_is ∙ rw pieces_are (omega (arith, framed.none_hunted));
        no_damaged = count.damaged-is ∙ rw frames-are (framed.all_good Damaged refl);
        no_unsynced = count.unsynced_is ∙ rw frames-are (framed.all_good Unsynced refl);
        none-placed = count.placed-is ∙ rw pieces_are (omega (arith, framed.no_part));
        no_broken = count.broken_is ∙ no_other_run in_broken (λ p. refl);
        no_loose = count.loose_is ∙ no_other_run in_loose (λ p. refl);
        none_building = count.building_is ∙ no_other_run in_building (λ p. refl);
      }
        where
          all : Once rule a₀ cs t a
          all = once rule is_rule_fact a₀ full cs t a h

          count : Counts vote t (reel f mss)
          count = rw e at all.counts

      -- some calls read it, and what they have taken is the reel
      read-by_some : length (reel f mss) ≤ 2 ^ 40 → (a₀ : List ℕ) → length a₀ ≡ 16384 → (ps : List (List ℕ)) → concat_map (λ p. p) ps ≡ reel f mss
          → (r : ReadBySome (fresh rule) a₀ ps) × ReadBack mss r.calls r.tally
      read-by_some fits a₀ full ps e =
          let r = reaches rule is_rule_fact a₀ full ps (rw e fits) in
          (r, read_back a₀ full r.calls r.tally r.area r.handed (r.joined_is ∙ e))

  pub reel-promise : ReelPromise rule
  reel-promise = record { some_list = read-by_some; every_list = read_back }
