-- How a map is drawn: the class of what came of the reel since a cell began, where a run began, and the next cell. Definitions only.
use Rattle.std.specs.Prelude.{◌≡◌, cond, List, ℕ, ◌+◌, ◌*◌, ◌/◌, ◌^◌, ◌<◌, ltb, eqb, length}
use Rattle.labelling.specs.declared.Tally.{Tally}
use Rattle.map_cells.specs.Cells.{halved}
use Rattle.reel_map.specs.declared.Seen.{Seen}
use Rattle.reel_map.specs.declared.Map.{Map}

-- ---- classes

abbrev pub seen_in : Tally → Seen
seen_in t = record {
  stray = t.groups.stray;
  split = t.groups.split;
  hunted = t.framing.hunted;
  unsynced = t.framing.unsynced;
  damaged = t.framing.damaged;
  good = t.framing.good;
}

-- what came between: stray bytes or split words, hunted words or unsynced frames, damaged frames, good frames, none of them
abbrev pub class_of : Seen → Seen → ℕ
class_of a b =
    cond (ltb a.stray b.stray) 5
    (cond (ltb a.split b.split) 5
    (cond (ltb a.hunted b.hunted) 4
    (cond (ltb a.unsynced b.unsynced) 4
    (cond (ltb a.damaged b.damaged) 3
    (cond (ltb a.good b.good) 1 0)))))

-- ---- the map

-- the run being built began in this cell where none was being built before, or that one is broken
abbrev pub run_from : Map → Tally → ℕ
run_from m t = cond (eqb m.building 0) m.cell (cond (eqb m.broken t.runs.broken) m.run m.cell)

abbrev pub looked : Map → Tally → Map
looked m t = record {
  length = m.length;
  end = m.end;
  cell = m.cell;
  run = run_from m t;
  seen = m.seen;
  building = t.runs.building;
  broken = t.runs.broken;
}

-- the next cell: the one behind it; where the map is full, its cells are joined, and each has twice as many bytes
pub record NextPromise (m : Map) (old new : List ℕ) (r : Map) : Type 0 where
  pub goes_on : m.cell + 1 < length old → (new ≡ old) × (r.cell ≡ m.cell + 1) × (r.length ≡ m.length)
  pub joins : m.cell + 1 ≡ length old → (new ≡ halved old) × (r.cell ≡ (m.cell + 1) / 2) × (m.length < 2 ^ 61 → r.length ≡ 2 * m.length)
