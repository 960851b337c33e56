-- The refusal numbers in words (01, "Refusal numbers", and the numbers that 02 adds). Definitions only.
use Rattle.std.specs.Prelude.{List, [], ◌∷◌, ◌++◌, ℕ}
use Prim.Native.String.{String}
use Rattle.base.specs.Lists.{concat_map}
use Rattle.command.specs.Text.{ascii}
use Rattle.command.specs.Lines.{line_in}

-- number 0, 1, 2 and so on
abbrev pub meanings : List String
meanings =
    "nothing is refused"
    ∷ "the tally is not in order"
    ∷ "a lent area, column, source or output has another length than it must have"
    ∷ "the bytes so far and the piece are more than 2^40"
    ∷ "the spacing is above 60"
    ∷ "a minor frame to write lacks its sync bytes or has a number above 127"
    ∷ "the kind is above 3, or the column has none"
    ∷ "the kind has no such item"
    ∷ "a digit or a field of a time is out of range"
    ∷ "the upper four bits of a 12-bit item are not 0"
    ∷ "a six-byte number is not normalised"
    ∷ "a double has no six-byte word"
    ∷ "a list of instants is longer than 100,000"
    ∷ "the year is outside 1999 to 2099"
    ∷ "the operator's number is above 7"
    ∷ "there is no such rule of the vote"
    ∷ "the length is not that of so many cycles, or there are more than 255"
    ∷ "a body is not four major frames of kinds 0 to 3, each minor frame with its sync bytes and its number"
    ∷ "an entry's instant is not its body's, or does not rise"
    ∷ "an entry's offset is not where its body starts"
    ∷ "the book has no such entry"
    ∷ "the years of the two books differ"
    ∷ "a VCDU header is not 8 bytes"
    ∷ "no code word lies within two symbols of the header's"
    ∷ "the area is not 1 to 64 whole slots of 16,384 bytes"
    ∷ "bits are set beyond the slots"
    ∷ "no slot is free"
    ∷ "the slot is not in use, or not there"
    ∷ "the data pointer is above 84"
    ∷ "the frames to go on are more than 2^24 - 1"
    ∷ []

-- a line for each
abbrev pub meaning_text : List ℕ
meaning_text = concat_map (λ (s : String). ascii s ++ (0x0a ∷ [])) meanings

abbrev pub refusal_words : ℕ → List ℕ
refusal_words number = line_in meaning_text number

-- a colon, and what the number means
abbrev pub meaning : ℕ → List ℕ
meaning number = ascii ": " ++ refusal_words number
