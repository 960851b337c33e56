-- The structs of the joined layers in the terms of the labelling. Definitions only.
use Rattle.std.specs.Prelude.{List, ℕ}
use Rattle.labelling.specs.Machine.{State, Now}
use Rattle.plain_steps.specs.declared.layers.Layers.{Layers}
use Rattle.plain_steps.specs.declared.layers.Stepped.{Stepped}

-- a state, put together from its layers and its frame
abbrev pub state_with : Layers → List ℕ → State
state_with l frame = record { groups = l.groups; framing = l.framing; runs = l.runs; frame = frame }

abbrev pub now_of : Stepped → List ℕ → List ℕ → Now
now_of s frame area = record { state = state_with s.layers frame; area = area; complete = s.complete }
