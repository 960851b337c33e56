-- The claim about every list of calls that locks on a frame's own sync: the frames paid are those of the reel's own words, cut where they lie.
-- Definitions only.
use Rattle.std.specs.Prelude.{◌≡◌, List, map, ℕ, ◌+◌, ◌*◌, length}
use Rattle.base.specs.Lists.{concat_map, sum_by}
use Rattle.labelling.specs.declared.FrameClass.TheVariants.{Good, Damaged, Unsynced}
use Rattle.labelling.specs.declared.Tally.{Tally}
use Rattle.labelling.specs.declared.Word.{Word}
use Rattle.labelling.specs.Words.{words}
use Rattle.labelling.specs.Votes.{rule_vote}
use Rattle.labelling.specs.MinorFrames.{words_of, classed}
use Rattle.labelling.specs.MajorFrames.{values, majors, runs, in_broken, in_loose, in_building, stored, put_frames}
use Rattle.labelling.specs.Machine.{fresh}
use Rattle.labelling.specs.Calls.{Call, joined, paid, Handed}
use Rattle.labelling.specs.Once.{frames_in, Once}
use Rattle.own_sync.specs.OwnCut.{own_pieces, own_frames, own_found}
use Rattle.own_sync.specs.Recovery.{Recovers}

-- the counts of closed frames and of runs, and the area, are those of the cut of the reel's words ws: so they do not hang on how it was read
pub record OwnCounts (a₀ : List ℕ) (ws : List Word) (t : Tally) (a : List ℕ) : Type 0 where
  pub good-is : t.framing.good ≡ classed Good (own_frames ws)
  pub damaged-is : t.framing.damaged ≡ classed Damaged (own_frames ws)
  pub unsynced_is : t.framing.unsynced ≡ classed Unsynced (own_frames ws)
  pub majors-is : t.runs.majors ≡ length (majors (own_frames ws))
  pub broken_is : t.runs.broken ≡ sum_by in_broken (runs (own_frames ws))
  pub loose_is : t.runs.loose ≡ sum_by in_loose (runs (own_frames ws))
  pub building_is : t.runs.building ≡ sum_by in_building (runs (own_frames ws))
  pub area_is : a ≡ put_frames a₀ (concat_map stored (runs (own_frames ws)))

-- the bytes bs of a reel, taken by the calls cs with n lead-ins among them, from the fresh tally of a rule and the area a₀; t and a are left
pub record OwnOnce (rule : ℕ) (a₀ bs : List ℕ) (cs : List Call) (t : Tally) (a : List ℕ) (n : ℕ) : Type 0 where
  -- they are calls of demand 3's lists: each major frame of what they took is paid exactly once
  pub handed : Handed (fresh rule) a₀ cs t a
  pub once : Once rule a₀ cs t a
  -- every word of the reel stands in one piece of the cut
  pub each_word : concat_map words_of (own_pieces (words (rule_vote rule) bs)) ≡ words (rule_vote rule) bs
  -- the closed frames are those of the cut, and the frames paid, in order, are its major frames
  pub frames-are : frames_in (rule_vote rule) (joined cs) ≡ own_frames (words (rule_vote rule) bs)
  pub paid-is : paid cs ≡ map (concat_map values) (majors (own_frames (words (rule_vote rule) bs)))
  pub counts : OwnCounts a₀ (words (rule_vote rule) bs) t a
  -- a lead-in is handed for each frame that a hunt found by its own sync, and for no other
  pub lead_ins_are : n ≡ own_found (words (rule_vote rule) bs)
  -- the tally's bytes are those of the reel, and twelve for each lead-in; without any, the calls have taken the reel's bytes and no other
  pub bytes_are : t.groups.bytes ≡ length bs + 12 * n
  pub unled : n ≡ 0 → joined cs ≡ bs
  -- which whole major frames are paid
  pub recovers : Recovers (rule_vote rule) bs cs n
