-- `writer_vectors::reel::write_frames` is safe: what was written ends within the room, whose length no call changes. Assumes nothing.
use Rattle.std.proofs.Common.{◌≤◌, length}
use Rattle.writer_vectors.proofs.reel.write_frames.Given as goal

abbrev pub invariant-loop-spacing : goal.invariant-loop-spacing
invariant-loop-spacing l =
    (goal.iterator-loop-spacing).can_next l.spacing-iterator × (goal.iterator-loop-spacing).is_finite l.spacing-iterator × (l.at ≤ length l.room)
