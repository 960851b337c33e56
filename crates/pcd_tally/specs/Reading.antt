-- What reading standard input promises. No contract can name the bytes that a read brings; but whatever they are, the tally carried from read to
-- read is what a list of calls leaves, handed on from a fresh tally of rule 1, whose joined bytes are all that was read. Definitions only.
use Rattle.std.specs.Prelude.{◌≡◌, Bool, true, false, cond, List, [], ℕ, ◌+◌, ◌^◌, eqb, ltb, length, take, replicate, Result, Ok, Err}
use Rattle.std.specs.declared.io.Error.{Error}
use Rattle.labelling.specs.declared.Tally.{Tally}
use Rattle.labelling.specs.Machine.{fresh}
use Rattle.labelling.specs.Calls.{Call, joined, Handed}
use Rattle.pcd_tally.specs.declared.Input.{Input}
use Rattle.pcd_tally.specs.declared.Input.TheVariants.{More, Ended, Unreadable, TooLong}
use Rattle.pcd_tally.specs.declared.State.{State}

abbrev pub blank : List ℕ
blank = replicate 16384 0

-- n bytes are read so far: the tally t and the area a are what a list of calls leaves that has taken as many
pub record ReadSoFar (n : ℕ) (t : Tally) (a : List ℕ) : Type 0 where
  pub calls : List Call
  pub handed : Handed (fresh 1) blank calls t a
  pub count-is : length (joined calls) ≡ n

-- ---- one read

-- the bytes of the buffer that a read brought, by its answer
abbrev pub brought : Result ℕ Error → List ℕ → List ℕ
brought (Ok n) buffer = take n buffer
brought (Err e) buffer = []

-- whether these are too many after n bytes
abbrev pub too_many : ℕ → List ℕ → Bool
too_many n piece = ltb (2 ^ 40) (n + length piece)

-- of these after n bytes, those that are taken: all, or none
abbrev pub taken_of : ℕ → List ℕ → List ℕ
taken_of n piece = cond (too_many n piece) [] piece

-- how reading stands after the answer of a read that brought these bytes
abbrev pub input_after : Result ℕ Error → ℕ → List ℕ → Input
input_after (Err e) n piece = Unreadable
input_after (Ok k) n piece = cond (eqb (length piece) 0) Ended (cond (too_many n piece) TooLong More)

-- from the state s and the area old the bytes are taken that leave r and the area new: calls go on from what s carries
pub record Carried (s : State) (bytes old : List ℕ) (r : State) (new : List ℕ) : Type 0 where
  pub calls : List Call
  pub handed : Handed s.tally old calls r.tally new
  pub joined_is : joined calls ≡ bytes
  pub read_is : r.read ≡ s.read + length bytes

-- a piece is fed
pub record FedPromise (s : State) (piece old : List ℕ) (r : State) (new : List ℕ) : Type 0 where
  pub input_is : r.input ≡ cond (too_many s.read piece) TooLong More
  pub carried : Carried s (taken_of s.read piece) old r new

-- a read has answered `got`, and what it brought is fed
pub record TookPromise (s : State) (got : Result ℕ Error) (buffer old : List ℕ) (r : State) (new : List ℕ) : Type 0 where
  pub input_is : r.input ≡ input_after got s.read (brought got buffer)
  pub carried : Carried s (taken_of s.read (brought got buffer)) old r new

-- the same, whatever the read answered
pub record TurnPromise (s : State) (buffer old : List ℕ) (r : State) (new : List ℕ) : Type 0 where
  pub got : Result ℕ Error
  pub took : TookPromise s got buffer old r new

-- ---- all reads

-- t is the tally of n bytes that were read
pub record TallyOf (n : ℕ) (t : Tally) : Type 0 where
  pub area : List ℕ
  pub left : ReadSoFar n t area

abbrev pub is_more : Input → Bool
is_more More = true
is_more Ended = false
is_more Unreadable = false
is_more TooLong = false

-- reading stops only where there is no more
pub record AllPromise (r : State) : Type 0 where
  pub stopped : is_more r.input ≡ false
  pub tally_is : TallyOf r.read r.tally
