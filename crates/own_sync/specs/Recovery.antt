-- What is paid of whole major frames on a reel: after a lead-in, begun at any word, and after any damage. Definitions only.
use Rattle.std.specs.Prelude.{◌≡◌, true, false, List, [], ◌∷◌, ◌++◌, map, ℕ, suc, ◌<◌, length, get_or, drop}
use Rattle.base.specs.Format.{sync_word, minor_frame}
use Rattle.base.specs.Lists.{concat_map}
use Rattle.labelling.specs.declared.Word.{Word}
use Rattle.labelling.specs.declared.Word.TheVariants.{Voted, Erased}
use Rattle.labelling.specs.Words.{Vote, words}
use Rattle.labelling.specs.MinorFrames.{is_word}
use Rattle.labelling.specs.MajorFrames.{values, numbered}
use Rattle.labelling.specs.Calls.{Call, joined, paid}
use Rattle.own_sync.specs.OwnCut.{before_sync}

-- ---- whole major frames

-- the frames have 128 words each, and are good and numbered n, n + 1, ..
abbrev pub WholeFrom : ℕ → List (List Word) → Type 0
WholeFrom n [] = Unit {0}
WholeFrom n (f ∷ fs) = (length f ≡ minor_frame) × (numbered n f ≡ true) × WholeFrom (suc n) fs

-- 128 of them, numbered 0 to 127
abbrev pub AllWhole : List (List (List Word)) → Type 0
AllWhole [] = Unit {0}
AllWhole (m ∷ ms) = (length m ≡ 128) × WholeFrom 0 m × AllWhole ms

abbrev pub words_in : List (List (List Word)) → List Word
words_in ms = concat_map (λ m. concat_map (λ f. f) m) ms

abbrev pub bytes_in : List (List (List Word)) → List (List ℕ)
bytes_in ms = map (concat_map values) ms

-- FA F3 20
abbrev pub lead_in_words : List Word
lead_in_words = Voted (sync_word 0) ∷ Voted (sync_word 1) ∷ Voted (sync_word 2) ∷ []

-- ---- frames as the book has them

-- word 3, the high byte of an ADS value below 16 (DFCB table 10-1), is not FA
abbrev pub PlainAfterSync : List Word → Type 0
PlainAfterSync f = is_word (sync_word 0) (get_or f 3 Erased) ≡ false

-- nor does FA F3 20 stand in a frame a second time
pub record Conforms (f : List Word) : Type 0 where
  pub no_second : before_sync (drop 1 f) ≡ length (drop 1 f)
  pub after_sync : PlainAfterSync f

abbrev pub AllConform : List (List Word) → Type 0
AllConform [] = Unit {0}
AllConform (f ∷ fs) = Conforms f × AllConform fs

-- ---- what is paid

-- the calls cs have taken the bytes bs of a reel, and n lead-ins
pub record Recovers (vote : Vote) (bs : List ℕ) (cs : List Call) (n : ℕ) : Type 0 where
  -- a lead-in and whole major frames, as the writer makes them: they are read as 01 reads them, and no lead-in is handed
  pub after_lead_in_fact : (m : List (List Word)) (ms : List (List (List Word))) (tail : List Word)
      → words vote bs ≡ lead_in_words ++ (words_in (m ∷ ms) ++ tail) → AllWhole (m ∷ ms) → length tail < minor_frame
      → (n ≡ 0) × (joined cs ≡ bs) × (paid cs ≡ bytes_in (m ∷ ms))
  -- whole major frames, begun at any word q of a frame before them, in whose part FA F3 20 stands nowhere: these are paid, and nothing else
  pub begun_anywhere : (q : List Word) (m : List (List Word)) (ms : List (List (List Word))) (tail : List Word)
      → words vote bs ≡ q ++ (words_in (m ∷ ms) ++ tail) → before_sync q ≡ length q → AllWhole (m ∷ ms) → PlainAfterSync (get_or m 0 [])
      → length tail < minor_frame
      → (n ≡ 1) × (paid cs ≡ bytes_in (m ∷ ms))
  -- after any words d at all, whatever was lost or falsified in them: of the whole major frames that follow, all but the first are paid, in order
  pub after_damage : (d : List Word) (m : List (List Word)) (ms : List (List (List Word))) (tail : List Word)
      → words vote bs ≡ d ++ (words_in (m ∷ ms) ++ tail) → AllWhole (m ∷ ms) → AllConform m → length tail < minor_frame
      → (before : List (List ℕ)) × (paid cs ≡ before ++ bytes_in ms)
