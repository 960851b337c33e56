-- What is answered about the data pointer (02, request 13; 01, "Refusal numbers"). Definitions only.
use Rattle.std.specs.Prelude.{List, [], ◌∷◌, ℕ, ltb}
use Rattle.base.specs.declared.refusal.Refusal.TheVariants.{NoSuchPointer, TooManyFrames}
use Rattle.base.specs.Refusals.{Line, ◌when◌}
use Rattle.data_pointer.specs.Sequence.{last_pointer}

-- ---- the lines of the refusal table that concern a call

-- 2^24 - 1
abbrev pub most_frames : ℕ
most_frames = 16777215

abbrev pub pointer_lines : ℕ → List Line
pointer_lines p = NoSuchPointer when ltb last_pointer p ∷ []

abbrev pub after_lines : ℕ → ℕ → List Line
after_lines p n = NoSuchPointer when ltb last_pointer p ∷ TooManyFrames when ltb most_frames n ∷ []

abbrev pub distance_lines : ℕ → ℕ → List Line
distance_lines p q = NoSuchPointer when ltb last_pointer p ∷ NoSuchPointer when ltb last_pointer q ∷ []
