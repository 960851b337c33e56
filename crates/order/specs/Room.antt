-- What a step needs so that no count runs over: each state in order has it (proofs/Rooms.antt). Definitions only.
use Rattle.std.specs.Prelude.{◌≡◌, ◌≤◌, ◌^◌, length}
use Rattle.labelling.specs.declared.Framing.{Framing}
use Rattle.labelling.specs.declared.Groups.{Groups}
use Rattle.labelling.specs.declared.Operators.{Operators}
use Rattle.labelling.specs.declared.Runs.{Runs}
use Rattle.labelling.specs.Operators.{paid_to}
use Rattle.labelling.specs.Machine.{State}

pub record GroupsRoom (g : Groups) : Type 0 where
  pub bytes_max : g.bytes ≤ 2 ^ 40
  pub fill_max : g.fill ≤ 2 ^ 40
  pub stray_max : g.stray ≤ 2 ^ 40
  pub voted_max : g.voted ≤ 2 ^ 40
  pub split_max : g.split ≤ 2 ^ 40
  pub weak1_max : g.weak.first ≤ 2 ^ 40
  pub weak2_max : g.weak.second ≤ 2 ^ 40
  pub weak3_max : g.weak.third ≤ 2 ^ 40
  pub open_max : g.«open» ≤ 3

pub record FramingRoom (f : Framing) : Type 0 where
  pub hunted_max : f.hunted ≤ 2 ^ 40
  pub good_max : f.good ≤ 2 ^ 40
  pub damaged_max : f.damaged ≤ 2 ^ 40
  pub unsynced_max : f.unsynced ≤ 2 ^ 40
  pub placed_max : f.placed ≤ 127
  pub matched_max : f.matched ≤ 2

pub record RunsRoom (r : Runs) : Type 0 where
  pub majors_max : r.majors ≤ 2 ^ 40
  pub broken_max : r.broken ≤ 2 ^ 40
  pub loose_max : r.loose ≤ 2 ^ 40
  pub building_max : r.building ≤ 127

pub record StateRoom (t : State) : Type 0 where
  pub in_groups : GroupsRoom t.groups
  pub in_framing : FramingRoom t.framing
  pub in_runs : RunsRoom t.runs

-- the eight counts, which are added up
pub record OperatorsRoom (o : Operators) : Type 0 where
  pub eight : length o.paid ≡ 8
  pub paid0_max : paid_to 0 o ≤ 2 ^ 40
  pub paid1_max : paid_to 1 o ≤ 2 ^ 40
  pub paid2_max : paid_to 2 o ≤ 2 ^ 40
  pub paid3_max : paid_to 3 o ≤ 2 ^ 40
  pub paid4_max : paid_to 4 o ≤ 2 ^ 40
  pub paid5_max : paid_to 5 o ≤ 2 ^ 40
  pub paid6_max : paid_to 6 o ≤ 2 ^ 40
  pub paid7_max : paid_to 7 o ≤ 2 ^ 40

-- the count of whoever is on duty, to which a payment is added
pub record DutyRoom (o : Operators) : Type 0 where
  pub duty_max : o.duty ≤ 7
  pub paid_max : paid_to o.duty o ≤ 2 ^ 40
