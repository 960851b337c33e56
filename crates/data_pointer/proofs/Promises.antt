-- Each promise, by its ways out. Assumes nothing.
use Rattle.std.proofs.Common.{◌≡◌, Result, Ok, Err, ℕ, ◌+◌, ◌*◌, ◌%◌, ◌≤◌, ◌<◌}
use borrow.Author.Tests.{lt-ltb, le-ltb}
use Rattle.base.specs.declared.refusal.Refusal.{Refusal}
use Rattle.base.specs.declared.refusal.Refusal.TheVariants.{NoSuchPointer, TooManyFrames}
use Rattle.base.specs.Refusals.{answered}
use Rattle.base.proofs.Lines.{told}
use Rattle.data_pointer.specs.Sequence.{next, previous, steps, frames}
use Rattle.data_pointer.specs.Answers.{pointer_lines, after_lines, distance_lines}
use Rattle.data_pointer.specs.Promise.{NextPromise, PreviousPromise, AfterPromise, DistancePromise}
use Rattle.data_pointer.proofs.Steps.{next-pointer, previous-pointer, previous-next, next-previous, steps-mod, steps-pointer, between, fewest}
use Rattle.data_pointer.proofs.Round.{once, frames-between}

module _ (p : ℕ) where
  next-by : (r : Result ℕ Refusal) → r ≡ answered Err (pointer_lines p) (Ok (next p)) → NextPromise p r
  next-by r e = record { answers = told (pointer_lines p) (next p) r e; a_pointer = next-pointer p; undone = previous-next p; once = once p }

  pub next-refused : 84 < p → NextPromise p (Err NoSuchPointer)
  next-refused h = next-by (Err NoSuchPointer) (rw (lt-ltb 84 p))

  pub next-given : (v : ℕ) → p ≤ 84 → v ≡ next p → NextPromise p (Ok v)
  next-given v h e = next-by (Ok v) (rw (le-ltb 84 p, e))

  previous-by : (r : Result ℕ Refusal) → r ≡ answered Err (pointer_lines p) (Ok (previous p)) → PreviousPromise p r
  previous-by r e = record { answers = told (pointer_lines p) (previous p) r e; a_pointer = previous-pointer p; undone = next-previous p }

  pub previous-refused : 84 < p → PreviousPromise p (Err NoSuchPointer)
  previous-refused h = previous-by (Err NoSuchPointer) (rw (lt-ltb 84 p))

  pub previous-given : (v : ℕ) → p ≤ 84 → v ≡ previous p → PreviousPromise p (Ok v)
  previous-given v h e = previous-by (Ok v) (rw (le-ltb 84 p, e))

module _ (p n : ℕ) where
  after-by : (r : Result ℕ Refusal) → r ≡ answered Err (after_lines p n) (Ok (steps n p)) → AfterPromise p n r
  after-by r e = record { answers = told (after_lines p n) (steps n p) r e; a_pointer = steps-pointer n p }

  pub after-no_pointer : 84 < p → AfterPromise p n (Err NoSuchPointer)
  after-no_pointer h = after-by (Err NoSuchPointer) (rw (lt-ltb 84 p))

  pub after-too_far : p ≤ 84 → 16777215 < n → AfterPromise p n (Err TooManyFrames)
  after-too_far h far = after-by (Err TooManyFrames) (rw (le-ltb 84 p, lt-ltb 16777215 n))

  pub after-given : (v : ℕ) → p ≤ 84 → n ≤ 16777215 → v ≡ (p + 38 * n) % 85 → AfterPromise p n (Ok v)
  after-given v h near e = after-by (Ok v) (rw (le-ltb 84 p, le-ltb 16777215 n, e, steps-mod n p h))

module _ (p q : ℕ) where
  distance-by : (r : Result ℕ Refusal) → r ≡ answered Err (distance_lines p q) (Ok (frames p q)) → DistancePromise p q r
  distance-by r e =
      record {
        answers = told (distance_lines p q) (frames p q) r e;
        fewest = λ hp hq. rw (frames-between p q hp hq) (fewest p q hp hq);
      }

  pub distance-no_start : 84 < p → DistancePromise p q (Err NoSuchPointer)
  distance-no_start h = distance-by (Err NoSuchPointer) (rw (lt-ltb 84 p))

  pub distance-no_end : p ≤ 84 → 84 < q → DistancePromise p q (Err NoSuchPointer)
  distance-no_end hp h = distance-by (Err NoSuchPointer) (rw (le-ltb 84 p, lt-ltb 84 q))

  pub distance-given : (v : ℕ) → p ≤ 84 → q ≤ 84 → v ≡ between p q → DistancePromise p q (Ok v)
  distance-given v hp hq e = distance-by (Ok v) (rw (le-ltb 84 p, le-ltb 84 q, e, frames-between p q hp hq))
