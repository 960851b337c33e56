-- The answer of a lookup (02, request 1) in a book as a line of text. Definitions only.
use Rattle.std.specs.Prelude.{◌≡◌, List, ◌++◌, ℕ, take, get_or, Option, Some, None, Result, Ok, Err}
use Rattle.base.specs.declared.refusal.Refusal.{Refusal}
use Rattle.base.specs.Refusals.{number}
use Rattle.base.specs.Ranges.{tabulate}
use Rattle.book.specs.Layout.{cycles_said, instant_at}
use Rattle.io.specs.Counts.{IsPrefixLen}
use Rattle.lookup.specs.declared.Found.{Found}
use Rattle.command.specs.Text.{ascii, decimal}

-- the first n numbers of a list are the instants of a book's entries, in order, all of them
pub record InstantsPromise (b list : List ℕ) (n : ℕ) : Type 0 where
  pub count-is : n ≡ cycles_said b
  pub instants_are : take n list ≡ tabulate (instant_at b) 0 n
  pub counts : IsPrefixLen n list

-- the place of the cycle, its instant, and the entries looked at
abbrev pub found_text : ℕ → ℕ → ℕ → List ℕ
found_text place instant looks =
    (ascii "place " ++ decimal place) ++ (ascii " instant " ++ decimal instant) ++ (ascii " looks " ++ decimal looks) ++ ascii "\n"

abbrev pub none_text : ℕ → List ℕ
none_text looks = (ascii "none looks " ++ decimal looks) ++ ascii "\n"

abbrev pub refused_text : ℕ → List ℕ
refused_text number = (ascii "refusal " ++ decimal number) ++ ascii "\n"

abbrev pub place_line : List ℕ → ℕ → Option ℕ → List ℕ
place_line instants looks (Some place) = found_text place (get_or instants place 0) looks
place_line instants looks None = none_text looks

abbrev pub answer_line : List ℕ → Result Found Refusal → List ℕ
answer_line instants (Ok f) = place_line instants f.looks f.place
answer_line instants (Err r) = refused_text (number r)
