-- Voted stretches of a piece, which are groups of which at least two copies are equal and any bytes but SYNC between them, taken many bytes at a
-- time. Definitions only.
use Rattle.std.specs.Prelude.{◌≡◌, List, [], ◌∷◌, ℕ, ◌+◌, ◌*◌, ◌≤◌, ◌<◌, length, get_or}
use Rattle.std.proofs.lemmas.List.Edits.{sets}
use Rattle.base.specs.Format.{SYNC, FILL, sync_word}
use Rattle.quiet.specs.Quiet.{Byte}
use Rattle.nominal.specs.Stretches.{FourFill, last_place, NoneBegins}
use Rattle.voted.specs.declared.hunting.Hunt.{Hunt}
use Rattle.voted.specs.declared.hunting.Passed.{Passed}
use Rattle.voted.specs.declared.placing.Filled.{Filled}
use Rattle.voted.specs.declared.placing.Run.{Run}
use Rattle.voted.specs.declared.votes.Seen.{Seen}
use Rattle.voted.specs.Copies.{Copies, copies_at, agreement, IsVoted, word_of, words, weak_in, last_or, agreements}

-- ---- the shapes

-- SYNC and the copies of g
pub record Group (p : List ℕ) (i : ℕ) (g : Copies) : Type 0 where
  pub sync : Byte p i SYNC
  pub first : Byte p (i + 1) g.first
  pub second : Byte p (i + 2) g.second
  pub third : Byte p (i + 3) g.third

-- SYNC, three bytes, and five FILL (DFCB 3.2.7.1)
pub record Spaced (p : List ℕ) (i : ℕ) : Type 0 where
  pub sync : Byte p i SYNC
  pub four : FourFill p (i + 4)
  pub fifth : Byte p (i + 8) FILL

-- the same with three equal copies
pub record Alike (p : List ℕ) (i : ℕ) : Type 0 where
  pub spaced : Spaced p i
  pub second : get_or p (i + 1) 0 ≡ get_or p (i + 2) 0
  pub third : get_or p (i + 1) 0 ≡ get_or p (i + 3) 0

-- ---- voted stretches

-- from i to j the piece p holds groups that are voted, FILL, and n stray bytes; gs are the copies of the groups
pub data Decided (p : List ℕ) : ℕ → ℕ → ℕ → List Copies → Type 0 where
  ends : {i : ℕ} → Decided p i i 0 []
  fill : {i j n : ℕ} {gs : List Copies} → Byte p i FILL → Decided p (i + 1) j n gs → Decided p i j n gs
  stray : {i j n : ℕ} {gs : List Copies} (b : ℕ) → Byte p i b → (b ≡ SYNC → ⊥) → (b ≡ FILL → ⊥) → Decided p (i + 1) j n gs → Decided p i j (n + 1) gs
  group : {i j n : ℕ} {gs : List Copies} (g : Copies) → Group p i g → IsVoted g → Decided p (i + 4) j n gs → Decided p i j n (g ∷ gs)

-- the last of the groups stands at k, if there is one
abbrev pub LastAt : List ℕ → List Copies → ℕ → Type 0
LastAt p gs k = (d : Copies) → 0 < length gs → Group p k (last_or gs d)

-- at j a voted stretch cannot go on: fewer than four bytes are left, or a group stands there that is split or left to the plain step
abbrev pub Stops : List ℕ → ℕ → (Copies → Type 0) → Type 0
Stops p j Left = j + 3 < length p → Byte p j SYNC × ((g : Copies) → Group p j g → IsVoted g → Left g)

-- what is told of the three bytes after i, and of what stands between a voted group at i and the next one
pub record Looked (p : List ℕ) (i : ℕ) (r : Seen) : Type 0 where
  pub agree_is : r.agree ≡ agreement (copies_at p i)
  pub word-is : IsVoted (copies_at p i) → r.word ≡ word_of (copies_at p i)
  pub between : Decided p (i + 4) r.at r.stray []

-- ---- while words are placed: in a loop

-- a voted stretch from i, whose words are placed: the frame f, filled as far as place q, has become f', with what the run r tells
pub record Kept (p : List ℕ) (i q : ℕ) (f : List ℕ) (r : Run) (f' : List ℕ) : Type 0 where
  pub groups : List Copies
  pub stretch : Decided p i r.at r.stray groups
  pub place_is : r.placed ≡ q + length groups
  pub frame_is : f' ≡ sets f q (words groups)
  pub sums_are : r.sums ≡ agreements groups
  pub last_at : LastAt p groups r.last

-- the last place is free, the sums are those of no more groups than places, and no more bytes are stray than there are
pub record RunRoom (r : Run) : Type 0 where
  pub room : r.placed ≤ last_place
  pub few_stray : r.stray ≤ r.at
  pub few : r.sums ≤ 0x100010001 * r.placed

-- a stretch from anywhere that leads to r leads on to r'
pub record RunsOn (p : List ℕ) (r : Run) (f : List ℕ) (r' : Run) (f' : List ℕ) : Type 0 where
  pub kept : (i q : ℕ) (f₀ : List ℕ) → Kept p i q f₀ r f → Kept p i q f₀ r' f'
  pub has_room : RunRoom r'

-- and from there it cannot go on
pub record RunsOut (p : List ℕ) (r : Run) (f : List ℕ) (r' : Run) (f' : List ℕ) : Type 0 where
  pub runs_on : RunsOn p r f r' f'
  pub stops : Stops p r'.at (λ g. last_place ≤ r'.placed)

-- a stretch from i, with the run that it leads to, from where it cannot go on
pub record Longest (p : List ℕ) (i q : ℕ) (f : List ℕ) (r : Run) (f' : List ℕ) : Type 0 where
  pub kept : Kept p i q f r f'
  pub has_room : RunRoom r
  pub stops : Stops p r.at (λ g. last_place ≤ r.placed)

-- ---- while words are placed: the whole

-- what is told of a stretch with no group
abbrev pub no_group : ℕ → ℕ → ℕ → Filled
no_group at q n = record { at = at; placed = q; weak = weak_in []; first = 0; second = 0; stray = n }

-- a voted stretch from i, whose words are placed, with what r tells; no longer stretch from i can be placed: it stops where the last place comes
-- next, or where a voted stretch cannot go on
pub record Placed (p : List ℕ) (i q : ℕ) (f : List ℕ) (r : Filled) (f' : List ℕ) : Type 0 where
  pub groups : List Copies
  pub stretch : Decided p i r.at r.stray groups
  pub place_is : r.placed ≡ q + length groups
  pub room : q ≤ last_place → r.placed ≤ last_place
  pub frame_is : f' ≡ sets f q (words groups)
  pub weak_is : r.weak ≡ weak_in groups
  pub first-is : (d : Copies) → 0 < length groups → r.first ≡ (last_or groups d).first
  pub second_is : (d : Copies) → 0 < length groups → r.second ≡ (last_or groups d).second
  pub stops : Stops p r.at (λ g. last_place ≤ r.placed)

-- ---- while the sync is hunted and nothing is matched

-- so many groups at most are taken at once
abbrev pub most_groups : ℕ
most_groups = 0xffff

-- a group that is left to the plain step: its word is FA, with which the sync begins, or there are too many
abbrev pub LeftTo : ℕ → Copies → Type 0
LeftTo w g = w < most_groups → word_of g ≡ sync_word 0

-- in a loop: a voted stretch from i with no word FA, and what the run r tells of it; it may go on
pub record Going (p : List ℕ) (i : ℕ) (r : Hunt) : Type 0 where
  pub groups : List Copies
  pub stretch : Decided p i r.at r.stray groups
  pub none_begins : NoneBegins (words groups)
  pub count-is : r.count ≡ length groups
  pub most : r.count ≤ most_groups
  pub few : r.sums ≤ 0x100010001 * r.count
  pub few_stray : r.stray ≤ r.at
  pub sums_are : r.sums ≡ agreements groups
  pub last_at : LastAt p groups r.last

-- such a stretch from anywhere that leads to r leads on to r'
abbrev pub SeeksOn : List ℕ → Hunt → Hunt → Type 0
SeeksOn p r r' = (i : ℕ) → Going p i r → Going p i r'

-- the same, and from there it cannot go on
pub record Sought (p : List ℕ) (i : ℕ) (r : Hunt) : Type 0 where
  pub going : Going p i r
  pub stops : Stops p r.at (LeftTo r.count)

-- what is told of a stretch with no group
abbrev pub none_passed : ℕ → ℕ → Passed
none_passed at n = record { at = at; count = 0; weak = weak_in []; first = 0; second = 0; stray = n }

-- the whole: a voted stretch from i with no word FA, and what r tells of it; no longer stretch from i can be passed, but for their number
pub record Hunted (p : List ℕ) (i : ℕ) (r : Passed) : Type 0 where
  pub groups : List Copies
  pub stretch : Decided p i r.at r.stray groups
  pub none_begins : NoneBegins (words groups)
  pub count-is : r.count ≡ length groups
  pub weak_is : r.weak ≡ weak_in groups
  pub first-is : (d : Copies) → 0 < length groups → r.first ≡ (last_or groups d).first
  pub second_is : (d : Copies) → 0 < length groups → r.second ≡ (last_or groups d).second
  pub stops : Stops p r.at (LeftTo r.count)
