-- Reels that the writer made (01, "The writer"), read by their frames' own sync. With its lead-in such a reel is read as 01 reads it, and no lead-in is handed;
-- without it, begun anywhere in a minor frame, its whole major frames are paid as exactly those; and so are those between bytes of any kind, but for what
-- stands just behind such bytes. Definitions only.
use Rattle.std.specs.Prelude.{◌≡◌, Bool, true, false, List, [], ◌∷◌, ◌++◌, map, ℕ, eqb, length, get_or}
use Rattle.base.specs.Format.{SYNC, sync_word, minor_frame}
use Rattle.base.specs.Lists.{concat_map}
use Rattle.labelling.specs.declared.Tally.{Tally}
use Rattle.labelling.specs.declared.Word.TheVariants.{Voted}
use Rattle.labelling.specs.Machine.{synced_bytes, fresh}
use Rattle.labelling.specs.Calls.{Call, joined, paid}
use Rattle.own_sync.specs.OwnCut.{before_sync}
use Rattle.own_sync.specs.Recovery.{Conforms}
use Rattle.own_sync.specs.Relocking.{Relocked}
use Rattle.writer.specs.Stream.{spaced, stream}
use Rattle.writer.specs.ReadBack.{Minor, AllWhole, written, reel, bytes_of, ReadBack}

-- the major frames as they are written, with no lead-in
abbrev pub unled : List (List Minor) → List ℕ
unled mss = concat_map (λ ms. concat_map written ms) mss

-- what is left of a group whose SYNC is cut off, and FILL: none of these bytes is SYNC, so that they open no group
abbrev pub NoGroup : List ℕ → Type 0
NoGroup [] = Unit {0}
NoGroup (b ∷ bs) = (eqb b SYNC ≡ false) × NoGroup bs

-- FA F3 20 stand nowhere in these bytes of a minor frame
abbrev pub NoSync : List ℕ → Type 0
NoSync q = before_sync (map Voted q) ≡ length q

-- word 3 of the first minor frame, the high byte of an ADS value (DFCB table 10-1), is not FA
abbrev pub FirstPlain : List Minor → Type 0
FirstPlain [] = Unit {0}
FirstPlain (m ∷ ms) = eqb (get_or m.bytes 3 0) (sync_word 0) ≡ false

-- a minor frame as the book has it: 128 bytes with their sync, in which FA F3 20 stand once, and word 3 is not FA
pub record StandingMinor (m : Minor) : Type 0 where
  pub full : length m.bytes ≡ minor_frame
  pub has_sync : synced_bytes m.bytes ≡ true
  pub conforms : Conforms (map Voted m.bytes)

-- under a rule, from the area a₀: every list of calls that locks on a frame's own sync, in any pieces and with refused calls among them
pub record WrittenReels (rule : ℕ) (a₀ : List ℕ) : Type 0 where
  -- a lead-in at the spacing f, then major frames, each minor frame at a spacing of its own
  pub with_lead_in : (f : ℕ) (mss : List (List Minor)) → AllWhole mss → {w : Bool} {t : Tally} {a : List ℕ} {cs : List Call} {n : ℕ}
      → Relocked false (fresh rule) a₀ (reel f mss) cs w t a n → (n ≡ 0) × (joined cs ≡ reel f mss) × ReadBack mss cs t
  -- no lead-in: what is left of a group comes first, or nothing, then the last bytes q of a minor frame, or none, at the spacing f
  pub without : (s : List ℕ) (f : ℕ) (q : List ℕ) (ms : List Minor) (mss : List (List Minor)) → NoGroup s → NoSync q → AllWhole (ms ∷ mss) → FirstPlain ms
      → {w : Bool} {t : Tally} {a : List ℕ} {cs : List Call} {n : ℕ}
      → Relocked false (fresh rule) a₀ (s ++ (stream f q ++ unled (ms ∷ mss))) cs w t a n → (n ≡ 1) × (paid cs ≡ map bytes_of (ms ∷ mss))
  -- bytes x of any kind, lost, falsified or noise; a byte b other than SYNC, which brings the groups back into step; two minor frames; whole major frames; and
  -- bytes y of any kind again: all of these major frames are paid
  pub between : (x : List ℕ) (s b : ℕ) (f g : Minor) (ms : List Minor) (mss : List (List Minor)) (y : List ℕ) → eqb b SYNC ≡ false → StandingMinor f
      → StandingMinor g → AllWhole (ms ∷ mss) → FirstPlain ms → {w : Bool} {t : Tally} {a : List ℕ} {cs : List Call} {n : ℕ}
      → Relocked false (fresh rule) a₀ (x ++ (spaced s b ++ (written f ++ (written g ++ (unled (ms ∷ mss) ++ y))))) cs w t a n
      → (before : List (List ℕ)) × (after : List (List ℕ)) × (paid cs ≡ before ++ (map bytes_of (ms ∷ mss) ++ after))
