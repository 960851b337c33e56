-- What the tally holds beside its counts, over the whole list of bytes (01, "The tally and one call"): whether it hunts, the match, the minor
-- frame being filled and its erasure mark, and the two kept copies. Definitions only.
use Rattle.std.specs.Prelude.{◌≡◌, Bool, true, false, cond, ◌&&◌, ◌||◌, not, List, [], ◌∷◌, ◌++◌, map, ℕ, length, take, drop, replicate}
use Rattle.base.specs.Format.{sync_word, minor_frame}
use Rattle.base.specs.Lists.{concat_map}
use Rattle.labelling.specs.declared.FrameClass.TheVariants.{Unsynced}
use Rattle.labelling.specs.declared.Tally.{Tally}
use Rattle.labelling.specs.declared.Word.{Word}
use Rattle.labelling.specs.Words.{Group, fill, stray, closed, opened, groups, Vote, words}
use Rattle.labelling.specs.MinorFrames.{is_word, any_erased, frame_class, same_class, Piece, hunted, frame, part, pieces, frames}
use Rattle.labelling.specs.MajorFrames.{values}

-- the last element of a list; d where there is none
abbrev pub latest : {A : Type 0} → A → List A → A
latest d [] = d
latest d (a ∷ l) = latest a l

-- ---- the kept copies

-- the first copy in a group, and the second, where it has come so far
abbrev pub first_in : Group → List ℕ
first_in fill = []
first_in (stray b) = []
first_in (closed a b c) = a ∷ []
first_in (opened l) = take 1 l

abbrev pub second_in : Group → List ℕ
second_in fill = []
second_in (stray b) = []
second_in (closed a b c) = b ∷ []
second_in (opened l) = take 1 (drop 1 l)

-- ---- the hunt

-- the words are these numbers
abbrev pub spells : List ℕ → List Word → Bool
spells [] [] = true
spells [] (w ∷ ws) = false
spells (n ∷ ns) [] = false
spells (n ∷ ns) (w ∷ ws) = is_word n w && spells ns ws

-- the last words are these numbers
abbrev pub ends_with : List ℕ → List Word → Bool
ends_with ns [] = spells ns []
ends_with ns (w ∷ ws) = spells ns (w ∷ ws) || ends_with ns ws

-- the first n words of FA F3 20
abbrev pub sync_to : ℕ → List ℕ
sync_to n = take n (sync_word 0 ∷ sync_word 1 ∷ sync_word 2 ∷ [])

-- whether the reader hunts after a piece: a hunt ends with FA F3 20, and after an unsynced frame one begins
abbrev pub hunts_after : Piece → Bool
hunts_after (hunted ws) = not (ends_with (sync_to 3) ws)
hunts_after (frame ws) = same_class Unsynced (frame_class ws)
hunts_after (part ws) = false

-- how much of FA F3 20 the last words of a hunt match; 0 out of hunting
abbrev pub match_in : Piece → ℕ
match_in (hunted ws) = cond (ends_with (sync_to 2) ws) 2 (cond (ends_with (sync_to 1) ws) 1 0)
match_in (frame ws) = 0
match_in (part ws) = 0

-- ---- the frame being filled

abbrev pub part_of : Piece → List Word
part_of (hunted ws) = []
part_of (frame ws) = []
part_of (part ws) = ws

-- the words of the frame being filled: its places reached
unfoldable pub reached : List Word → List Word
reached ws = concat_map part_of (pieces ws)

-- the new bytes over the first of the old; the others stay
abbrev pub over : List ℕ → List ℕ → List ℕ
over new old = new ++ drop (length new) old

-- ---- the whole

module _ (vote : Vote) where
  -- the tally t after the bytes bs
  pub record Rest (t : Tally) (bs : List ℕ) : Type 0 where
    -- at the start the reader hunts
    pub hunting_is : t.framing.hunting ≡ latest true (map hunts_after (pieces (words vote bs)))
    pub matched_is : t.framing.matched ≡ latest 0 (map match_in (pieces (words vote bs)))
    -- the places reached overwrite the last closed frame, at first 0s; an erasure is stored as 0
    pub frame_is : t.frame ≡ over (values (reached (words vote bs))) (latest (replicate minor_frame 0) (map values (frames (words vote bs))))
    pub erasure_is : t.framing.erasure ≡ any_erased (reached (words vote bs))
    -- the latest first copy and the latest second copy met
    pub first-is : t.groups.first ≡ latest 0 (concat_map first_in (groups bs))
    pub second_is : t.groups.second ≡ latest 0 (concat_map second_in (groups bs))
