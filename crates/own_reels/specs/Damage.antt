-- How soon a reel is read again after damage: behind two minor frames. So of a reel with any number of damaged stretches each whole major frame is paid that no
-- damage touches and that has two minor frames between it and the damage before it. Fewer do not do: four words of damage can cost the major frame behind the
-- next minor frame. Definitions only.
use Rattle.std.specs.Prelude.{◌≡◌, true, false, List, [], ◌∷◌, ◌++◌, ℕ, length, get_or}
use Rattle.base.specs.Format.{sync_word, minor_frame}
use Rattle.labelling.specs.declared.Word.{Word}
use Rattle.labelling.specs.Words.{Vote, words}
use Rattle.labelling.specs.MinorFrames.{is_word, synced}
use Rattle.labelling.specs.Calls.{Call, paid}
use Rattle.own_sync.specs.OwnCut.{before_sync}
use Rattle.own_sync.specs.Recovery.{AllWhole, words_in, bytes_in, lead_in_words, PlainAfterSync, Conforms, AllConform}

-- a minor frame as the book has it: 128 words with their sync, which conforms. Its other words may be erased, and its number may be any
pub record Standing (f : List Word) : Type 0 where
  pub full : length f ≡ minor_frame
  pub has_sync : synced f ≡ true
  pub conforms : Conforms f

-- the calls cs have taken the bytes bs of a reel. The words d and e are any at all, whatever was lost or falsified in them
pub record AroundDamage (vote : Vote) (bs : List ℕ) (cs : List Call) : Type 0 where
  -- behind damage, two minor frames, and whole major frames as far as the next damage or the end: all of these are paid, in order
  pub between : (d f g : List Word) (m : List (List Word)) (ms : List (List (List Word))) (e : List Word)
      → words vote bs ≡ d ++ (f ++ (g ++ (words_in (m ∷ ms) ++ e))) → Standing f → Standing g → AllWhole (m ∷ ms) → PlainAfterSync (get_or m 0 [])
      → (before : List (List ℕ)) × (after : List (List ℕ)) × (paid cs ≡ before ++ (bytes_in (m ∷ ms) ++ after))
  -- from the start of the reel as far as the first damage, with a lead-in, or begun at any word of a frame: they are paid first
  pub led : (m : List (List Word)) (ms : List (List (List Word))) (e : List Word) → words vote bs ≡ lead_in_words ++ (words_in (m ∷ ms) ++ e)
      → AllWhole (m ∷ ms) → (after : List (List ℕ)) × (paid cs ≡ bytes_in (m ∷ ms) ++ after)
  pub begun : (q : List Word) (m : List (List Word)) (ms : List (List (List Word))) (e : List Word) → words vote bs ≡ q ++ (words_in (m ∷ ms) ++ e)
      → before_sync q ≡ length q → AllWhole (m ∷ ms) → PlainAfterSync (get_or m 0 [])
      → (after : List (List ℕ)) × (paid cs ≡ bytes_in (m ∷ ms) ++ after)
  -- one minor frame is too few: FA F3 20 and a word that is not FA deceive the hunt, the false frame ends in f with the sync that it began with, 128 more words
  -- are cut off that have none, and of the major frame behind f nothing is paid
  pub one-too_few : (v : Word) (f : List Word) (m : List (List Word)) → is_word (sync_word 0) v ≡ false → Standing f → AllWhole (m ∷ []) → AllConform m
      → words vote bs ≡ (lead_in_words ++ v ∷ []) ++ (f ++ words_in (m ∷ [])) → paid cs ≡ []
