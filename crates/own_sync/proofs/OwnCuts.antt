-- The cut of a reel's own words: each piece has a word and together they are the words; where a hunt and a frame end, whatever follows; and that
-- the last piece, where it is open, closes no frame. Assumes nothing.
use mathlib.Core.Path.{◌≡◌, refl, sym, ap, ◌∙◌}
use mathlib.Core.Bool.{Bool, true, false}
use mathlib.Core.List.{List, [], ◌∷◌, ◌++◌, map, append-nil, append_assoc}
use Prim.Native.Nat.{ℕ, zero, suc, ◌+◌, ◌*◌, ◌≤◌, ◌<◌}
use native.Mathlib.Omega.{arith}
use lib.Dec.{leb}
use lib.ListN.{length, take, drop, length-append, length-drop, take-append-drop, drop_of_length-le}
use lib.Seq.{take-append_seam, drop-append_seam, take_at, drop_at, take_all}
use borrow.Author.Tests.{le-leb, lt-leb, leb-true}
use Rattle.base.specs.Lists.{concat_map, count_by, one}
use Rattle.labelling.specs.declared.Word.{Word}
use Rattle.labelling.specs.declared.Word.TheVariants.{Voted}
use Rattle.labelling.specs.Cutting.{CutOff}
use Rattle.labelling.specs.MinorFrames.{frame_class, mode_after, Piece, hunted, frame, part, frame_piece, words_of, frame_of}
use Rattle.labelling.proofs.Cutting.{cuts_by, cuts_first, by_cuts, laid_out}
use Rattle.labelling.proofs.IfAny.{if_any}
use Rattle.own_sync.specs.OwnCut.{before_sync, ends_behind, OwnMode, seeks, places, finds, own_mode, Own, own_frame, hunt_piece, own_piece, own_cut}
use Rattle.own_sync.specs.OwnCut.{own_pieces}
use Rattle.own_sync.specs.OwnCut.{own_frames, own_found}

-- ---- the cut

frame-takes : (found : Bool) (w : Word) (ws : List Word) → length (own_frame found (w ∷ ws)).rest ≤ length ws
frame-takes found w ws = go (leb 128 (length (w ∷ ws)))
  where
    go : (full : Bool) → length (frame_piece full (w ∷ ws)).rest ≤ length ws
    go true = omega (arith, length-drop 128 (w ∷ ws))
    go false = omega arith

hunt-takes : (behind : Bool) (k : ℕ) (w : Word) (ws : List Word) → length (hunt_piece behind k (w ∷ ws)).rest ≤ length ws
hunt-takes true k w ws = omega (arith, length-drop (k + 3) (w ∷ ws))
hunt-takes false zero w ws = frame-takes true w ws
hunt-takes false (suc k) w ws = omega (arith, length-drop (suc k) (w ∷ ws))

takes_some : (m : OwnMode) (w : Word) (ws : List Word) → length (own_piece m w ws).rest ≤ length ws
takes_some seeks w ws = let k = before_sync (w ∷ ws) in hunt-takes (ends_behind (drop (k + 3) (w ∷ ws))) k w ws
takes_some places w ws = frame-takes false w ws
takes_some finds w ws = frame-takes true w ws

-- the cut of ws, begun in mode m; `own_cut` is `owns seeks`
abbrev pub owns : OwnMode → List Word → List Own
owns m ws = cuts_by own_piece m ws

pub first : (m : OwnMode) (w : Word) (ws : List Word) → owns m (w ∷ ws) ≡ (own_piece m w ws).piece ∷ owns (own_piece m w ws).state (own_piece m w ws).rest
first m w ws = cuts_first own_piece takes_some m w ws

-- ---- every word stands in one piece

abbrev own_words : Own → List Word
own_words o = words_of o.piece

frame-whole : (full : Bool) (ws : List Word) → words_of (frame_piece full ws).piece ++ (frame_piece full ws).rest ≡ ws
frame-whole true ws = take-append-drop 128 ws
frame-whole false ws = append-nil ws

hunt-whole : (behind : Bool) (k : ℕ) (ws : List Word) → own_words (hunt_piece behind k ws).piece ++ (hunt_piece behind k ws).rest ≡ ws
hunt-whole true k ws = take-append-drop (k + 3) ws
hunt-whole false zero ws = frame-whole (leb 128 (length ws)) ws
hunt-whole false (suc k) ws = take-append-drop (suc k) ws

whole : (m : OwnMode) (w : Word) (ws : List Word) → own_words (own_piece m w ws).piece ++ (own_piece m w ws).rest ≡ w ∷ ws
whole seeks w ws = let k = before_sync (w ∷ ws) in hunt-whole (ends_behind (drop (k + 3) (w ∷ ws))) k (w ∷ ws)
whole places w ws = frame-whole (leb 128 (length (w ∷ ws))) (w ∷ ws)
whole finds w ws = frame-whole (leb 128 (length (w ∷ ws))) (w ∷ ws)

join_map : {A B C : Type 0} (f : B → List C) (g : A → B) (l : List A) → concat_map f (map g l) ≡ concat_map (λ a. f (g a)) l
join_map f g [] = refl
join_map f g (a ∷ l) = rw (join_map f g l)

pub own-each_word : (ws : List Word) → concat_map words_of (own_pieces ws) ≡ ws
unfolding own_pieces own_cut
own-each_word ws = join_map words_of (λ (o : Own). o.piece) (owns seeks ws) ∙ laid_out own_piece takes_some own_words whole seeks ws

-- the frames that pieces hold
abbrev pub frames_held : List Own → List (List Word)
frames_held os = concat_map (λ o. frame_of o.piece) os

pub own-frames : (ws : List Word) → own_frames ws ≡ frames_held (owns seeks ws)
unfolding own_frames own_pieces own_cut
own-frames ws = join_map frame_of (λ (o : Own). o.piece) (owns seeks ws)

-- how many are found so
abbrev pub found_in : List Own → ℕ
found_in os = count_by (λ o. o.found) os

pub own-found : (ws : List Word) → own_found ws ≡ found_in (owns seeks ws)
unfolding own_found own_cut
own-found ws = refl

-- ---- a frame

abbrev pub beginning : Bool → OwnMode
beginning true = finds
beginning false = places

abbrev pub as_own : Bool → Piece → Own
as_own found p = record { piece = p; found = found }

frame-first : (found : Bool) (w : Word) (ws : List Word)
    → owns (beginning found) (w ∷ ws) ≡ (own_frame found (w ∷ ws)).piece ∷ owns (own_frame found (w ∷ ws)).state (own_frame found (w ∷ ws)).rest
frame-first true w ws = first finds w ws
frame-first false w ws = first places w ws

-- 128 words close it
pub own_frame-closes : (found : Bool) (f ys : List Word) → length f ≡ 128
    → owns (beginning found) (f ++ ys) ≡ as_own found (frame f) ∷ owns (own_mode (mode_after (frame_class f))) ys
own_frame-closes found [] ys e = absurd (omega arith)
own_frame-closes found (w ∷ f) ys e =
    let both : length (f ++ ys) ≡ length f + length ys = length-append f ys in
    frame-first found w (f ++ ys)
    ∙ rw (le-leb 128 (length (w ∷ f ++ ys)) (omega arith), take_at (w ∷ f) ys 128 e, drop_at (w ∷ f) ys 128 e)

-- fewer do not
pub own_frame-open : (found : Bool) (p : List Word) → length p < 128 → owns (beginning found) p ≡ if_any (λ ws. as_own found (part ws)) p
own_frame-open found [] h = none found
  where
    none : (found : Bool) → owns (beginning found) [] ≡ []
    none true = refl
    none false = refl
own_frame-open found (w ∷ p) h = frame-first found w p ∙ rw (lt-leb 128 (length (w ∷ p)) h)

-- ---- a hunt

-- FA F3 20
abbrev pub sync : List Word
sync = Voted 0xfa ∷ Voted 0xf3 ∷ Voted 0x20 ∷ []

hunt-first : (w : Word) (ws : List Word) (behind : Bool) (k : ℕ) → before_sync (w ∷ ws) ≡ k → ends_behind (drop (k + 3) (w ∷ ws)) ≡ behind
    → let c = hunt_piece behind k (w ∷ ws) in owns seeks (w ∷ ws) ≡ c.piece ∷ owns c.state c.rest
hunt-first w ws behind k e h = first seeks w ws ∙ rw (e, h)

-- it takes all words, where FA F3 20 stands nowhere
pub own-hunt_open : (p : List Word) → before_sync p ≡ length p → owns seeks p ≡ if_any (λ ws. as_own false (hunted ws)) p
own-hunt_open [] e = refl
own-hunt_open (w ∷ p) e =
    let all = w ∷ p in
    let none : drop (length all + 3) all ≡ [] = drop_of_length-le all {i = length all + 3} (omega arith) in
    hunt-first w p true (length all) e (rw none)
    ∙ ap (λ (l : List Word). as_own false (hunted l) ∷ owns places (drop (length all + 3) all)) (take_all (length all + 3) all (omega arith))
    ∙ ap (λ (l : List Word). as_own false (hunted all) ∷ owns places l) none

-- the words q stand before FA F3 20, and ys follow
module _ (ys : List Word) where
  three_on : (q : List Word) → drop (length q + 3) ((q ++ sync) ++ ys) ≡ ys
  three_on q = drop_at (q ++ sync) ys (length q + 3) (length-append q sync)

  three_off : (q : List Word) → take (length q + 3) ((q ++ sync) ++ ys) ≡ q ++ sync
  three_off q = take_at (q ++ sync) ys (length q + 3) (length-append q sync)

  pub own-hunt_behind : (q : List Word) → before_sync ((q ++ sync) ++ ys) ≡ length q → ends_behind ys ≡ true
      → owns seeks ((q ++ sync) ++ ys) ≡ as_own false (hunted (q ++ sync)) ∷ owns places ys
  own-hunt_behind [] e h = hunt-first (Voted 0xfa) (Voted 0xf3 ∷ Voted 0x20 ∷ ys) true 0 e h
  own-hunt_behind (x ∷ q) e h =
      let r = x ∷ ((q ++ sync) ++ ys) in
      hunt-first x ((q ++ sync) ++ ys) true (length (x ∷ q)) e (rw (three_on (x ∷ q)) h)
      ∙ ap (λ (l : List Word). as_own false (hunted l) ∷ owns places (drop (length (x ∷ q) + 3) r)) (three_off (x ∷ q))
      ∙ ap (λ (l : List Word). as_own false (hunted (x ∷ q ++ sync)) ∷ owns places l) (three_on (x ∷ q))

  pub own-hunt_before : (q : List Word) → before_sync ((q ++ sync) ++ ys) ≡ length q → ends_behind ys ≡ false
      → owns seeks ((q ++ sync) ++ ys) ≡ if_any (λ ws. as_own false (hunted ws)) q ++ owns finds (sync ++ ys)
  own-hunt_before [] e h =
      let rest = Voted 0xf3 ∷ Voted 0x20 ∷ ys in
      hunt-first (Voted 0xfa) rest false 0 e h ∙ sym (first finds (Voted 0xfa) rest)
  own-hunt_before (x ∷ q) e h =
      let r = x ∷ ((q ++ sync) ++ ys) in
      let split : r ≡ x ∷ q ++ (sync ++ ys) = append_assoc (x ∷ q) sync ys in
      hunt-first x ((q ++ sync) ++ ys) false (length (x ∷ q)) e (rw (three_on (x ∷ q)) h)
      ∙ ap (λ (l : List Word). as_own false (hunted (take (length (x ∷ q)) l)) ∷ owns finds (drop (length (x ∷ q)) l)) split
      ∙ ap (λ (l : List Word). as_own false (hunted l) ∷ owns finds (drop (length (x ∷ q)) (x ∷ q ++ (sync ++ ys)))) (take-append_seam (x ∷ q) (sync ++ ys))
      ∙ ap (λ (l : List Word). as_own false (hunted (x ∷ q)) ∷ owns finds l) (drop-append_seam (x ∷ q) (sync ++ ys))

-- ---- how many frames can be found

-- each but the last has 128 words
pub few_found : (m : OwnMode) (ws : List Word) → 128 * found_in (owns m ws) ≤ length ws + 128
few_found = by_cuts own_piece takes_some Few (λ m. omega arith) (λ m w ws ih. omega (arith, ap found_in (first m w ws), more m w ws ih))
  where
    Few : OwnMode → List Word → Type 0
    Few m ws = 128 * found_in (owns m ws) ≤ length ws + 128

    -- the piece cut off, and then the rest
    Then : CutOff OwnMode Word Own → List Word → Type 0
    Then c ws = Few c.state c.rest → 128 * found_in (c.piece ∷ owns c.state c.rest) ≤ length ws + 128

    at_most : (b : Bool) → one b ≤ 1
    at_most true = omega arith
    at_most false = omega arith

    frame-few : (found : Bool) (w : Word) (ws : List Word) → Then (own_frame found (w ∷ ws)) (w ∷ ws)
    frame-few found w ws = go (leb 128 (length (w ∷ ws))) refl
      where
        go : (full : Bool) → leb 128 (length (w ∷ ws)) ≡ full
            → let c = frame_piece full (w ∷ ws) in
            Then (record { piece = as_own found c.piece; state = own_mode c.state; rest = c.rest }) (w ∷ ws)
        go true e ih = omega (arith, length-drop 128 (w ∷ ws), leb-true 128 (length (w ∷ ws)) e, at_most found)
        go false e ih = omega (arith, at_most found)

    hunt-few : (behind : Bool) (k : ℕ) (w : Word) (ws : List Word) → Then (hunt_piece behind k (w ∷ ws)) (w ∷ ws)
    hunt-few true k w ws = λ ih. omega (arith, length-drop (k + 3) (w ∷ ws))
    hunt-few false zero w ws = frame-few true w ws
    hunt-few false (suc k) w ws = λ ih. omega (arith, length-drop (suc k) (w ∷ ws))

    more : (m : OwnMode) (w : Word) (ws : List Word) → Then (own_piece m w ws) (w ∷ ws)
    more seeks w ws = let k = before_sync (w ∷ ws) in hunt-few (ends_behind (drop (k + 3) (w ∷ ws))) k w ws
    more places w ws = frame-few false w ws
    more finds w ws = frame-few true w ws
