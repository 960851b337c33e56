-- The book's own values: the coefficients of the generator (B.3) and the check symbols of its four headers (3.1.2.2.1.8). Assumes nothing.
use mathlib.Core.Path.{◌≡◌, refl}
use mathlib.Core.List.{[], ◌∷◌}
use Rattle.header_code.specs.Field.{times_x, times, power}
use Rattle.header_code.specs.Code.{CodeWord}
use Rattle.header_code.specs.Symbols.{symbols_of}
use Rattle.header_code.specs.Generator.{generator}
use Rattle.header_code.proofs.Symbols.{symbols-word}
use Rattle.header_code.proofs.Syndromes.{syndrome-code}

-- G0 and G4 are a^0, G1 and G3 are a^3; G2, which the copy of the book at hand has lost, is a^1
pub generator-is : generator ≡ power 0 ∷ power 3 ∷ power 1 ∷ power 3 ∷ power 0 ∷ []
unfolding times_x times
generator-is = refl

-- version 01, spacecraft 00010101, virtual channel 000001 or 000010, the priority bit 1 or 0, and the check symbols that the book gives
pub priority_1 : CodeWord (symbols_of 10 0x4541406594)
unfolding symbols_of times_x times
priority_1 = syndrome-code (symbols-word 10 0x4541406594) refl

pub routine_1 : CodeWord (symbols_of 10 0x454100bf82)
unfolding symbols_of times_x times
routine_1 = syndrome-code (symbols-word 10 0x454100bf82) refl

pub priority_2 : CodeWord (symbols_of 10 0x45424003a5)
unfolding symbols_of times_x times
priority_2 = syndrome-code (symbols-word 10 0x45424003a5) refl

pub routine_2 : CodeWord (symbols_of 10 0x454200d9b3)
unfolding symbols_of times_x times
routine_2 = syndrome-code (symbols-word 10 0x454200d9b3) refl
