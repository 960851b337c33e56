-- A part of a call: what it finds, and how the rest of the call follows from it. Definitions only.
use Rattle.std.specs.Prelude.{◌≡◌, Bool, true, false, cond, ◌&&◌, ◌||◌, List, ℕ, ◌+◌, ◌-◌, ◌≤◌, ◌<◌, ◌^◌, length, drop, get_or}
use Rattle.base.specs.Format.{minor_frame}
use Rattle.labelling.specs.declared.Groups.{Groups}
use Rattle.labelling.specs.declared.Weak.{Weak}
use Rattle.labelling.specs.Machine.{State}
use Rattle.labelling.specs.Words.{Vote}
use Rattle.labelling.specs.Votes.{rule_vote, Majority}
use Rattle.labelling.specs.Order.{state_in_order}
use Rattle.labelling.specs.Calls.{Progress, plus, feed}
use Rattle.own_sync.specs.Locks.{ends_hunt, up_to}
use Rattle.nominal.specs.Stretches.{last_or}
use Rattle.voted.specs.Copies.{Copies, weak_in, last_or as lastCopies}
use Rattle.plain_steps.specs.declared.layers.Layers.{Layers}
use Rattle.plain_steps.specs.Shapes.{state_with}
use Rattle.reader_run.specs.declared.Ran.{Ran}

abbrev pub ran_of : Ran → List ℕ → List ℕ → Progress
ran_of r frame area = record { state = state_with r.layers frame; area = area; taken = r.at; complete = r.complete }

-- ---- what a part finds

-- place i is in the piece p, and with the rest of p the bytes are not too many
pub record Fits (g : Groups) (p : List ℕ) (i : ℕ) : Type 0 where
  pub inside : i ≤ length p
  pub limit : g.bytes + (length p - i) ≤ 2 ^ 40

-- a part begins at place i of the piece p with the state t
pub record Begun (p : List ℕ) (i : ℕ) (t : State) : Type 0 where
  pub order : state_in_order t ≡ true
  pub fits : Fits t.groups p i
  pub frame-length : length t.frame ≡ minor_frame

-- ---- what it leaves

-- how far a call has come, with which state and area
pub record Moment : Type 0 where
  pub at : ℕ
  pub state : State
  pub area : List ℕ

abbrev pub from : ℕ → Layers → List ℕ → List ℕ → Moment
from i l frame area = record { at = i; state = state_with l frame; area = area }

abbrev pub ran_to : Ran → List ℕ → List ℕ → Moment
ran_to r frame area = from r.at r.layers frame area

-- a call on the piece p from m on, by a vote: as far as a lock, where that stops it
abbrev pub fed : Vote → Bool → List ℕ → Moment → Progress
fed vote stop p m = feed vote m.state m.area (up_to vote stop m.state m.area p)

-- the call goes on from m
abbrev pub rest_from : Vote → Bool → List ℕ → Moment → Progress
rest_from vote stop p m = plus m.at (fed vote stop (drop m.at p) m)

-- the call ends at m
abbrev pub ends_at : Moment → Bool → Progress
ends_at m complete = record { state = m.state; area = m.area; taken = m.at; complete = complete }

-- a hunt has ended from m to n
abbrev pub locks_at : Moment → Moment → Bool
locks_at m n = ends_hunt m.state.framing n.state.framing

-- whether a call stops here: a major frame is complete, or a hunt has ended and that stops it
abbrev pub halts : Bool → Bool → Bool → Bool
halts stop complete locked = complete || (stop && locked)

-- under a vote, a part of a call of the piece p leads from m to n: the call ends there or goes on
pub record Onward (vote : Vote) (p : List ℕ) (m n : Moment) (complete : Bool) : Type 0 where
  pub rest : (stop : Bool) → rest_from vote stop p m ≡ cond (halts stop complete (locks_at m n)) (ends_at n complete) (rest_from vote stop p n)
  pub order : state_in_order n.state ≡ true
  pub bytes_are : n.state.groups.bytes + m.at ≡ m.state.groups.bytes + n.at
  pub forward : m.at ≤ n.at
  pub within : n.at ≤ length p
  pub frame-length : length n.state.frame ≡ minor_frame

-- by a rule, a part leads from m to what the run r leaves, and takes a byte or more
pub record Ahead (rule : ℕ) (p : List ℕ) (m : Moment) (r : Ran) (frame area : List ℕ) : Type 0 where
  pub onward : Onward (rule_vote rule) p m (ran_to r frame area) r.complete
  pub moves : m.at < r.at

-- a stretch leads from t at i to u at j under every vote that two equal copies decide: nothing is complete, no area is written, and no hunt
-- ends or begins
pub record Reaches (p : List ℕ) (i : ℕ) (t : State) (j : ℕ) (u : State) : Type 0 where
  pub onward : (vote : Vote) → Majority vote → (a : List ℕ)
      → Onward vote p (record { at = i; state = t; area = a }) (record { at = j; state = u; area = a }) false
  pub same-mode : u.framing.hunting ≡ t.framing.hunting

-- the same of the layers alone: no frame is written
abbrev pub ReachesAnyFrame : List ℕ → ℕ → Layers → ℕ → Layers → Type 0
ReachesAnyFrame p i l j m = (frame : List ℕ) → Begun p i (state_with l frame) → Reaches p i (state_with l frame) j (state_with m frame)

-- ---- counts added at once

-- there are w words, and x is the last of them, if there is one
pub record Words (ws : List ℕ) (w x : ℕ) : Type 0 where
  pub count-is : w ≡ length ws
  pub last_is : 0 < w → x ≡ last_or ws 0

-- two counts of weak copies, and their sum
pub record WeakRoom (w : Weak) : Type 0 where
  pub weak1_max : w.first ≤ 2 ^ 40
  pub weak2_max : w.second ≤ 2 ^ 40
  pub weak3_max : w.third ≤ 2 ^ 40

abbrev pub both_weak : Weak → Weak → Weak
both_weak v w = record { first = v.first + w.first; second = v.second + w.second; third = v.third + w.third }

-- the groups gs are w in number, with these weak copies; the first copies of the last of them are x and y, if there is one
pub record VotedGroups (gs : List Copies) (w : ℕ) (weak : Weak) (x y : ℕ) : Type 0 where
  pub count-is : w ≡ length gs
  pub weak_is : weak ≡ weak_in gs
  pub first-is : (d : Copies) → 0 < length gs → x ≡ (lastCopies gs d).first
  pub second_is : (d : Copies) → 0 < length gs → y ≡ (lastCopies gs d).second

-- the first layer with a group open, of which n bytes are known; its first copies are x and y
abbrev pub opened : Groups → ℕ → ℕ → ℕ → Groups
opened g n x y = record {
  bytes = g.bytes + n;
  fill = g.fill;
  stray = g.stray;
  voted = g.voted;
  split = g.split;
  weak = g.weak;
  «open» = n;
  first = x;
  second = y;
}

-- x is the byte of p at i, or d where p has none there
pub record ByteOr (p : List ℕ) (i d x : ℕ) : Type 0 where
  pub there : i < length p → x ≡ get_or p i 0
  pub beyond : length p ≤ i → x ≡ d
