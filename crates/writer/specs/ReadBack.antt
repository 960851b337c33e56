-- What the writer makes is read back (01, "The writer"; 02, requests 2 and 6): a lead-in, then whole major frames, each minor frame at a spacing of its own.
-- Definitions only.
use Rattle.std.specs.Prelude.{◌≡◌, true, List, [], ◌∷◌, ◌++◌, map, ℕ, suc, ◌≤◌, ◌^◌, length, get_or}
use Rattle.base.specs.Format.{major_frame}
use Rattle.base.specs.Lists.{concat_map}
use Rattle.labelling.specs.declared.Tally.{Tally}
use Rattle.labelling.specs.Machine.{synced_bytes, fresh}
use Rattle.labelling.specs.Calls.{Call, joined, paid, Handed}
use Rattle.labelling.specs.Once.{ReadBySome}
use Rattle.writer.specs.Stream.{stream, lead_in}

-- a minor frame to write
pub record Minor : Type 0 where
  pub spacing : ℕ
  pub bytes : List ℕ

-- the minor frames are numbered n, n + 1, .., have 128 bytes each, and their sync
abbrev pub Numbered : ℕ → List Minor → Type 0
Numbered n [] = Unit {0}
Numbered n (m ∷ ms) = (length m.bytes ≡ 128) × (synced_bytes m.bytes ≡ true) × (get_or m.bytes 65 0 ≡ n) × Numbered (suc n) ms

-- a whole major frame: 128 minor frames numbered 0 to 127
pub record Whole (ms : List Minor) : Type 0 where
  pub all : length ms ≡ 128
  pub numbered : Numbered 0 ms

abbrev pub AllWhole : List (List Minor) → Type 0
AllWhole [] = Unit {0}
AllWhole (ms ∷ mss) = Whole ms × AllWhole mss

abbrev pub written : Minor → List ℕ
written m = stream m.spacing m.bytes

-- a lead-in at the spacing f, then the major frames
unfoldable pub reel : ℕ → List (List Minor) → List ℕ
reel f mss = stream f lead_in ++ concat_map (λ ms. concat_map written ms) mss

-- the bytes of a major frame
abbrev pub bytes_of : List Minor → List ℕ
bytes_of ms = concat_map (λ m. m.bytes) ms

-- the calls cs have read the reel of the major frames mss and left t
pub record ReadBack (mss : List (List Minor)) (cs : List Call) (t : Tally) : Type 0 where
  pub paid-is : paid cs ≡ map bytes_of mss
  pub majors-is : t.runs.majors ≡ length mss
  pub no_stray : t.groups.stray ≡ 0
  pub no_split : t.groups.split ≡ 0
  pub no_weak1 : t.groups.weak.first ≡ 0
  pub no_weak2 : t.groups.weak.second ≡ 0
  pub no_weak3 : t.groups.weak.third ≡ 0
  pub none_open : t.groups.«open» ≡ 0
  pub hunted_is : t.framing.hunted ≡ 3
  pub no_damaged : t.framing.damaged ≡ 0
  pub no_unsynced : t.framing.unsynced ≡ 0
  pub none-placed : t.framing.placed ≡ 0
  pub no_broken : t.runs.broken ≡ 0
  pub no_loose : t.runs.loose ≡ 0
  pub none_building : t.runs.building ≡ 0

-- under a rule: a reel of 2^40 bytes at most, cut into any pieces, is read by some list of calls, none of them refused; and every list whose joined bytes
-- are a reel's, with any cuts and refused calls among them, has read it back
pub record ReelPromise (rule : ℕ) : Type 0 where
  pub some_list : (f : ℕ) (mss : List (List Minor)) → AllWhole mss → length (reel f mss) ≤ 2 ^ 40 → (a₀ : List ℕ) → length a₀ ≡ major_frame
      → (ps : List (List ℕ)) → concat_map (λ p. p) ps ≡ reel f mss → (r : ReadBySome (fresh rule) a₀ ps) × ReadBack mss r.calls r.tally
  pub every_list : (f : ℕ) (mss : List (List Minor)) → AllWhole mss → (a₀ : List ℕ) → length a₀ ≡ major_frame
      → (cs : List Call) (t : Tally) (a : List ℕ) → Handed (fresh rule) a₀ cs t a → joined cs ≡ reel f mss → ReadBack mss cs t
