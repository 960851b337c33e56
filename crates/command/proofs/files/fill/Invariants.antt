-- `command::files::fill` meets its contract: the room is filled up to `end`, and what stood before the part that a read is lent stays. Assumes nothing.
use Rattle.std.proofs.Common.{◌≡◌, ◌-◌, ◌≤◌, length, take}
use Rattle.command.proofs.files.fill.Given as goal

abbrev pub invariant-loop-end : goal.invariant-loop-end
invariant-loop-end g l = record {
  size_is : length l.room ≡ length l.initial.room;
  front_stays : take l.from l.room ≡ take l.from l.initial.room;
  beyond : l.from ≤ l.end;
}

abbrev pub decreases-loop-end : goal.decreases-loop-end
decreases-loop-end g l = length l.room - l.end
