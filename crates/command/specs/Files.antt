-- What filling a room from a file promises: no contract can name the bytes that a read brings. Definitions only.
use Rattle.std.specs.Prelude.{◌≡◌, List, ℕ, ◌≤◌, length, take, Result, Ok, Err}
use Rattle.io.specs.Counts.{IsPrefixLen}
use Rattle.command.specs.declared.files.ReadFailed.{ReadFailed}

-- how far the room is filled, also where a read has failed
abbrev pub filled_to : Result ℕ ReadFailed → ℕ
filled_to (Ok n) = n
filled_to (Err failed) = failed.length

-- reads up to the end: the room has its length, what stood before place `from` stays, and what is filled goes on from there
pub record FillPromise (old : List ℕ) (from : ℕ) (new : List ℕ) (r : Result ℕ ReadFailed) : Type 0 where
  pub size_is : length new ≡ length old
  pub front_stays : take from new ≡ take from old
  pub counts : IsPrefixLen (filled_to r) new
  pub beyond : from ≤ length old → from ≤ filled_to r
