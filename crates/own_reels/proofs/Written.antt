-- Written reels in the sense of `own_sync`: a lead-in and whole major frames, or major frames between bytes of any kind. Assumes nothing.
use mathlib.Core.Path.{◌≡◌, refl, sym, ap, ◌∙◌}
use mathlib.Core.Bool.{true, false}
use mathlib.Core.List.{List, [], ◌∷◌, ◌++◌, map, append-nil}
use Prim.Native.Nat.{ℕ, suc, ◌+◌, ◌≤◌}
use native.Mathlib.Omega.{arith}
use lib.Dec.{eqb}
use lib.ListN.{length, get_or, length-map}
use borrow.Author.Tests.{eq-eqb}
use Rattle.labelling.specs.declared.Word.{Word}
use Rattle.labelling.specs.declared.Word.TheVariants.{Voted, Erased}
use Rattle.labelling.specs.Words.{Vote, words}
use Rattle.labelling.specs.Votes.{rule_vote}
use Rattle.labelling.specs.MinorFrames.{is_word, synced}
use Rattle.labelling.specs.MajorFrames.{is_good, number}
use Rattle.labelling.specs.Order.{is_rule}
use Rattle.labelling.proofs.RunCuts.{numbered-by}
use Rattle.own_sync.specs.OwnCut.{own_cut, own_found}
use Rattle.own_sync.specs.Recovery.{WholeFrom, AllWhole as WholeWords, words_in, lead_in_words, PlainAfterSync}
use Rattle.own_sync.proofs.Recovery.{good-synced, led_found}
use Rattle.own_sync.proofs.Relocking.{relocked_handed, own-once}
use Rattle.writer.specs.Stream.{stream, lead_in}
use Rattle.writer.specs.ReadBack.{Minor, Numbered, AllWhole, written, reel}
use Rattle.writer.proofs.ReadingBack.{as_frame, as_major, majors-back, good, number-back, reel-promise}
use Rattle.own_reels.specs.Damage.{Standing}
use Rattle.own_reels.specs.Written.{unled, NoGroup, FirstPlain, StandingMinor, WrittenReels}
use Rattle.own_reels.proofs.Damage.{around_damage}
use Rattle.own_reels.proofs.WrittenWords.{as_majors, words-cut_off, words-after_any, words-stream, words-unled}

-- ---- minor frames as words

-- a minor frame with its sync is good, and keeps its number
whole_from : (n : ℕ) (ms : List Minor) → n + length ms ≤ 128 → Numbered n ms → WholeFrom n (as_major ms)
unfolding is_good
whole_from n [] h c = tt
whole_from n (m ∷ ms) h c =
    let same = eq-eqb (number (as_frame m)) n (number-back m ∙ c.2) in
    let is-numbered = numbered-by n (as_frame m) true true (omega arith) (rw (good m c.1)) same in
    (length-map m.bytes Voted ∙ c.0, is-numbered, whole_from (suc n) ms (omega arith) c.3)

all_whole : (mss : List (List Minor)) → AllWhole mss → WholeWords (as_majors mss)
all_whole [] w = tt
all_whole (ms ∷ mss) w = (length-map ms as_frame ∙ w.0.all, whole_from 0 ms (omega (arith, w.0.all)) w.0.numbered, all_whole mss w.1)

first_plain : (ms : List Minor) → length ms ≡ 128 → FirstPlain ms → PlainAfterSync (get_or (as_major ms) 0 [])
first_plain [] l h = absurd (omega arith)
first_plain (m ∷ ms) l h = go m.bytes h
  where
    go : (bytes : List ℕ) → eqb (get_or bytes 3 0) 0xfa ≡ false → is_word 0xfa (get_or (map Voted bytes) 3 Erased) ≡ false
    go [] h = refl
    go (a ∷ []) h = refl
    go (a ∷ b ∷ []) h = refl
    go (a ∷ b ∷ c ∷ []) h = refl
    go (a ∷ b ∷ c ∷ d ∷ bytes) h = h

-- a minor frame as the book has it
standing : (m : Minor) → StandingMinor m → Standing (as_frame m)
standing m s = record {
  full = length-map m.bytes Voted ∙ s.full;
  has_sync = good-synced (as_frame m) (good m s.has_sync);
  conforms = s.conforms;
}

-- ---- the words of reels

module _ (rule : ℕ) where
  abbrev vote : Vote
  vote = rule_vote rule

  -- nothing behind them
  words-end : (mss : List (List Minor)) → words vote (unled mss) ≡ words_in (as_majors mss) ++ []
  unfolding words
  words-end mss = ap (words vote) (sym (append-nil (unled mss))) ∙ words-unled rule mss []

  words-reel : (f : ℕ) (mss : List (List Minor)) → words vote (reel f mss) ≡ lead_in_words ++ (words_in (as_majors mss) ++ [])
  unfolding reel
  words-reel f mss = words-stream rule f lead_in (unled mss) ∙ ap (λ (l : List Word). lead_in_words ++ l) (words-end mss)

  words-begun : (s : List ℕ) (f : ℕ) (q : List ℕ) (mss : List (List Minor)) → NoGroup s
      → words vote (s ++ (stream f q ++ unled mss)) ≡ map Voted q ++ (words_in (as_majors mss) ++ [])
  words-begun s f q mss h =
      words-cut_off vote s (stream f q ++ unled mss) h ∙ words-stream rule f q (unled mss) ∙ ap (λ (l : List Word). map Voted q ++ l) (words-end mss)

  -- two minor frames, major frames, and bytes of any kind
  words-between : (f g : Minor) (mss : List (List Minor)) (y : List ℕ)
      → words vote (written f ++ (written g ++ (unled mss ++ y))) ≡ as_frame f ++ (as_frame g ++ (words_in (as_majors mss) ++ words vote y))
  words-between f g mss y =
      words-stream rule f.spacing f.bytes (written g ++ (unled mss ++ y))
      ∙ ap (λ (l : List Word). as_frame f ++ l)
      (words-stream rule g.spacing g.bytes (unled mss ++ y) ∙ ap (λ (l : List Word). as_frame g ++ l) (words-unled rule mss y))

  -- ---- the claim

  none_found : own_found lead_in_words ≡ 0
  unfolding own_found own_cut synced
  none_found = refl

  no_lead_in : (f : ℕ) (mss : List (List Minor)) → AllWhole mss → own_found (words vote (reel f mss)) ≡ 0
  no_lead_in f [] w = ap own_found (words-reel f []) ∙ none_found
  no_lead_in f (ms ∷ mss) w = ap own_found (words-reel f (ms ∷ mss)) ∙ led_found (as_major ms) (as_majors mss) [] (all_whole (ms ∷ mss) w) (omega arith)

  pub written-reels : is_rule rule ≡ true → (a₀ : List ℕ) → length a₀ ≡ 16384 → WrittenReels rule a₀
  written-reels is_rule_fact a₀ whole = record {
    with_lead_in = λ f mss w h.
        let o = own-once rule a₀ is_rule_fact whole h in
        let none = o.lead_ins_are ∙ no_lead_in f mss w in
        let all = o.unled none in
        (none, all, (reel-promise rule is_rule_fact).every_list f mss w a₀ whole _ _ _ (relocked_handed h) all);
    without = λ s f q ms mss none clear w plain h.
        let o = own-once rule a₀ is_rule_fact whole h in
        let v = all_whole (ms ∷ mss) w in
        let r =
        o.recovers.begun_anywhere (map Voted q) (as_major ms) (as_majors mss) [] (words-begun s f q (ms ∷ mss) none) (clear ∙ sym (length-map q Voted)) v
        (first_plain ms w.0.all plain) (omega arith) in
        (r.0, r.1 ∙ majors-back (ms ∷ mss));
    between = λ x s b f g ms mss y other sf sg w plain h.
        let o = own-once rule a₀ is_rule_fact whole h in
        let v = all_whole (ms ∷ mss) w in
        let front = words-after_any vote x s b (written f ++ (written g ++ (unled (ms ∷ mss) ++ y))) other in
        let is = front.1 ∙ ap (λ (l : List Word). front.0 ++ l) (words-between f g (ms ∷ mss) y) in
        let r =
        (around_damage o).between front.0 (as_frame f) (as_frame g) (as_major ms) (as_majors mss) (words vote y) is (standing f sf) (standing g sg) v
        (first_plain ms w.0.all plain) in
        (r.0, r.1, r.2 ∙ ap (λ (l : List (List ℕ)). r.0 ++ (l ++ r.1)) (majors-back (ms ∷ mss)));
  }
