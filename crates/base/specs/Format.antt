-- The constants of the format (src/format.rt has the same for the code). Definitions only.
use Rattle.std.specs.Prelude.{cond, ℕ, eqb}

-- the byte that opens a group, and the byte between groups (DFCB 3.2.7.1.1)
abbrev pub SYNC : ℕ
SYNC = 0x16

abbrev pub FILL : ℕ
FILL = 0x32

-- the words of the minor frame sync, FA F3 20, at places 0 to 2 (DFCB table 10-2)
abbrev pub sync_word : ℕ → ℕ
sync_word m = cond (eqb m 0) 0xfa (cond (eqb m 1) 0xf3 0x20)

-- a minor frame has 128 places; place 65 holds its number (DFCB table 10-3)
abbrev pub minor_frame : ℕ
minor_frame = 128

abbrev pub number_place : ℕ
number_place = 65

-- a major frame is 128 minor frames
abbrev pub major_frame : ℕ
major_frame = 16384
