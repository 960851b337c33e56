-- The tally as text (01, "The program"; 02, request 2). Definitions only.
use Rattle.std.specs.Prelude.{◌≡◌, List, [], ◌∷◌, ◌++◌, ℕ, ◌+◌, ◌≤◌, length, take}
use Prim.Native.Char.{code}
use Prim.Native.String.{String, [], ◌∷◌}
use Rattle.base.specs.Lists.{sum_by}
use Rattle.io.specs.Counts.{IsPrefixLen}
use Rattle.io.specs.Digits.{last_digits, IsDigitCount}
use Rattle.labelling.specs.declared.Groups.{Groups}
use Rattle.labelling.specs.declared.Tally.{Tally}
use Rattle.labelling.specs.declared.Weak.{Weak}
use Rattle.tally_text.specs.declared.Text.{Text}

-- the bytes of an ASCII text
abbrev pub ascii : String → List ℕ
ascii [] = []
ascii (c ∷ s) = code c ∷ ascii s

-- a count, and its name with a space after it
pub record Count : Type 0 where
  pub name : List ℕ
  pub value : ℕ

abbrev pub counted : List ℕ → ℕ → Count
counted name value = record { name = name; value = value }

abbrev count : String → ℕ → Count
count name value = counted (ascii name) value

-- ---- what is listed, in order

abbrev pub label_counts : Groups → List Count
label_counts g =
    count "bytes " g.bytes
    ∷ count "fill " g.fill
    ∷ count "stray " g.stray
    ∷ count "voted " g.voted
    ∷ count "split " g.split
    ∷ []

abbrev pub weak_counts : Weak → List Count
weak_counts w = count "weak1 " w.first ∷ count "weak2 " w.second ∷ count "weak3 " w.third ∷ []

abbrev pub group_counts : Tally → List Count
group_counts t = label_counts t.groups ++ weak_counts t.groups.weak ++ (count "open " t.groups.«open» ∷ [])

abbrev pub frame_counts : Tally → List Count
frame_counts t =
    let f = t.framing in
    count "hunted " f.hunted
    ∷ count "good " f.good
    ∷ count "damaged " f.damaged
    ∷ count "unsynced " f.unsynced
    ∷ count "placed " f.placed
    ∷ []

abbrev pub run_counts : Tally → List Count
run_counts t =
    let r = t.runs in
    count "majors " r.majors ∷ count "broken " r.broken ∷ count "loose " r.loose ∷ count "building " r.building ∷ []

-- ---- as text

-- a line: the name, the count in as few decimal digits as hold it, a line feed
pub record LineOf (c : Count) (bytes : List ℕ) : Type 0 where
  pub places : ℕ
  pub fewest : IsDigitCount 10 1 c.value places
  pub bytes_are : bytes ≡ c.name ++ last_digits 10 places c.value ++ (0x0a ∷ [])

pub data Lines : List Count → List ℕ → Type 0 where
  none : Lines [] []
  line : {c : Count} {cs : List Count} {bytes rest : List ℕ} → LineOf c bytes → Lines cs rest → Lines (c ∷ cs) (bytes ++ rest)

-- a count has 20 digits at most
abbrev pub most : List Count → ℕ
most cs = sum_by (λ c. length c.name + 21) cs

-- ---- what the functions add to a text

abbrev pub written : Text → List ℕ
written text = take text.length text.bytes

pub record Adds (a : Text) (bytes : List ℕ) (b : Text) : Type 0 where
  pub text_is : written b ≡ written a ++ bytes
  pub length-is : b.length ≡ a.length + length bytes
  pub room_is : length b.bytes ≡ length a.bytes

pub record Lined (a : Text) (cs : List Count) (b : Text) : Type 0 where
  pub bytes : List ℕ
  pub lines : Lines cs bytes
  pub fits : length bytes ≤ most cs
  pub adds : Adds a bytes b

-- there is room for n bytes more
pub record Room (text : Text) (n : ℕ) : Type 0 where
  pub fits : text.length + n ≤ 512
  pub whole : length text.bytes ≡ 512

-- the whole text: the heading and a line for each count, none left out
pub record ListingPromise (t : Tally) (r : Text) : Type 0 where
  pub lines_are : List ℕ
  pub lines : Lines (group_counts t ++ frame_counts t ++ run_counts t) lines_are
  pub text_is : written r ≡ ascii "PCD TALLY 2\n" ++ lines_are
  pub counts : IsPrefixLen r.length r.bytes
