-- A call that stops where a hunt ends: the part of its piece as far as that byte, and how many hunts have ended. Definitions only.
use Rattle.std.specs.Prelude.{Bool, true, false, ◌&&◌, not, List, [], ◌∷◌, ℕ, ◌+◌}
use Rattle.base.specs.Lists.{one}
use Rattle.labelling.specs.declared.Framing.{Framing}
use Rattle.labelling.specs.Words.{Vote}
use Rattle.labelling.specs.Votes.{rule_vote}
use Rattle.labelling.specs.Machine.{State, state_of, byte_step}
use Rattle.labelling.specs.Calls.{TakeCall}

-- hunting before, and not after
abbrev pub ends_hunt : Framing → Framing → Bool
ends_hunt before after = before.hunting && not after.hunting

-- how many hunts have ended: the first began at the start, and each unsynced frame began another
abbrev pub locks : Framing → ℕ
locks f = f.unsynced + one (not f.hunting)

module _ (vote : Vote) where
  -- the part of a piece that a call is for: all of it; or, where a lock stops it, as far as the byte that ends a hunt
  abbrev pub up_to : Bool → State → List ℕ → List ℕ → List ℕ
  up_to stop t a [] = []
  up_to stop t a (b ∷ bs) =
      let n = byte_step vote t a b in
      b ∷ elim (stop && ends_hunt t.framing n.state.framing) [ true ↦ [] | false ↦ up_to stop n.state n.area bs ]

-- the call on the part of its piece as far as a lock, by the rule that its tally carries
abbrev pub to_lock : TakeCall → TakeCall
to_lock c = record {
  tally = c.tally;
  piece = up_to (rule_vote c.tally.rule) true (state_of c.tally) c.area c.piece;
  area = c.area;
}
