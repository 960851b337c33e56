-- What each entry promises: its complete answer, refused calls too, and what holds of the sequence (02, request 13). Definitions only.
use Rattle.std.specs.Prelude.{◌≡◌, ℕ, ◌≤◌, Result}
use Rattle.base.specs.declared.refusal.Refusal.{Refusal}
use Rattle.base.specs.Refusals.{Answers}
use Rattle.data_pointer.specs.Sequence.{last_pointer, next, previous, steps, frames, Once, Fewest}
use Rattle.data_pointer.specs.Answers.{pointer_lines, after_lines, distance_lines}

-- `next` of p answers r
pub record NextPromise (p : ℕ) (r : Result ℕ Refusal) : Type 0 where
  pub answers : Answers (pointer_lines p) (next p) r
  pub a_pointer : p ≤ last_pointer → next p ≤ last_pointer
  pub undone : p ≤ last_pointer → previous (next p) ≡ p
  pub once : p ≤ last_pointer → Once p

-- `previous` of p answers r
pub record PreviousPromise (p : ℕ) (r : Result ℕ Refusal) : Type 0 where
  pub answers : Answers (pointer_lines p) (previous p) r
  pub a_pointer : p ≤ last_pointer → previous p ≤ last_pointer
  pub undone : p ≤ last_pointer → next (previous p) ≡ p

-- `after` of p and n answers r
pub record AfterPromise (p n : ℕ) (r : Result ℕ Refusal) : Type 0 where
  pub answers : Answers (after_lines p n) (steps n p) r
  pub a_pointer : p ≤ last_pointer → steps n p ≤ last_pointer

-- `distance` from p to q answers r
pub record DistancePromise (p q : ℕ) (r : Result ℕ Refusal) : Type 0 where
  pub answers : Answers (distance_lines p q) (frames p q) r
  pub fewest : p ≤ last_pointer → q ≤ last_pointer → Fewest p q (frames p q)
