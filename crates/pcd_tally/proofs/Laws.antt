-- What is read so far is a list of calls from a fresh tally, so the claim about every such list holds of it: its bytes are counted, it goes on
-- up to 2^40 bytes, and a piece that is fed makes it longer by that piece. Assumes nothing.
use mathlib.Core.Path.{◌≡◌, refl, sym, ap, ◌∙◌}
use mathlib.Core.Bool.{Bool, true, false, cond, true≢false}
use mathlib.Core.List.{List, [], ◌++◌}
use Prim.Native.Nat.{ℕ, ◌+◌, ◌-◌, ◌^◌, ◌≤◌, ◌<◌}
use native.Mathlib.Omega.{arith}
use lib.Dec.{eqb}
use lib.ListN.{length, take, length-append, length-replicate}
use lib.Seq.{take-length, length-take-le}
use borrow.Author.Tests.{ltb-true, ltb-false, eqb-false, ne_eqb}
use Rattle.std.specs.Prelude.{Result, Ok, Err, min}
use Rattle.std.proofs.lemmas.List.{take_min}
use Rattle.std.specs.declared.io.Error.{Error}
use Rattle.base.specs.declared.refusal.Refusal.{Refusal}
use Rattle.base.specs.Refusals.{number_of}
use Rattle.base.proofs.Lines.{positive}
use Rattle.labelling.specs.declared.Tally.{Tally}
use Rattle.labelling.specs.Machine.{fresh}
use Rattle.labelling.specs.Calls.{take_refusal, done}
use Rattle.labelling.specs.Once.{rule_given, Once}
use Rattle.labelling.proofs.Ordered.{bytes_within}
use Rattle.labelling.proofs.Reaching.{handed-append, joined-append}
use Rattle.labelling.proofs.CallLaws.{passed, too_long}
use Rattle.labelling.proofs.Demand.{once}
use Rattle.labelling.proofs.Promised.{rule_known}
use Rattle.reader.specs.Shapes.{call_of}
use Rattle.feeding.specs.declared.Fed.{Fed}
use Rattle.feeding.specs.Promise.{as_calls, FeedPromise}
use Rattle.feeding.proofs.CallLists.{joined-none}
use Rattle.pcd_tally.specs.declared.Input.{Input}
use Rattle.pcd_tally.specs.declared.Input.TheVariants.{More, Ended, Unreadable, TooLong}
use Rattle.pcd_tally.specs.declared.State.{State}
use Rattle.pcd_tally.specs.Reading.{blank, ReadSoFar, brought, too_many, taken_of, input_after}
use Rattle.pcd_tally.specs.Reading.{Carried, FedPromise, TookPromise, TurnPromise, is_more, AllPromise}

-- nothing is read yet
pub nothing_read : (t : Tally) → t ≡ fresh (rule_given 1) → ReadSoFar 0 t blank
nothing_read t e = rw (e, (rule_known 1 refl).1) (record { calls = []; handed = done; count-is = ap length joined-none })

module _ {n : ℕ} {t : Tally} {a : List ℕ} (h : ReadSoFar n t a) where
  claim : Once 1 blank h.calls t a
  claim = once 1 refl blank (length-replicate {A = ℕ} 16384 0) h.calls t a h.handed

  bytes_are : t.groups.bytes ≡ n
  bytes_are = claim.counts.bytes_is ∙ h.count-is

  pub within-limit : n ≤ 2 ^ 40
  within-limit = omega (arith, bytes_are, bytes_within t claim.ordered)

  whole-area : length a ≡ 16384
  whole-area = (passed (call_of t [] a) (claim.goes_on [] (omega (arith, h.count-is, within-limit)))).whole-area

  -- only too many bytes are refused
  pub refused_as : (p : List ℕ) → take_refusal (call_of t p a) ≡ cond (too_many n p) 3 0
  refused_as p = go (too_many n p) refl
    where
      go : (b : Bool) → too_many n p ≡ b → take_refusal (call_of t p a) ≡ cond b 3 0
      go true e =
          let above : 2 ^ 40 < n + length p = ltb-true _ _ e in
          too_long t p a claim.ordered whole-area (omega (arith, bytes_are))
      go false e =
          let fits : n + length p ≤ 2 ^ 40 = ltb-false _ _ e in
          claim.goes_on p (omega (arith, h.count-is))

-- ---- a piece

-- a stream's bytes are taken, or none
pub taken-within : (t : Tally) (stream old new : List ℕ) {f : Fed} → FeedPromise t stream old (Ok f) new → f.taken ≤ length stream
taken-within t stream old new {f} p = omega (arith, p.taken_is)

-- what is carried on is read so far
pub reads_more : {s r : State} {bytes old new : List ℕ} → ReadSoFar s.read s.tally old → Carried s bytes old r new → ReadSoFar r.read r.tally new
reads_more h k = record {
  calls = h.calls ++ k.calls;
  handed = handed-append h.handed k.handed;
  count-is = rw (joined-append, length-append, h.count-is, k.joined_is, k.read_is);
}

-- nothing is carried on where nothing is taken
pub carries_nothing : (s : State) (input : Input) (a : List ℕ) → Carried s [] a (record { tally = s.tally; read = s.read; input = input }) a
carries_nothing s input a = record { calls = []; handed = done; joined_is = joined-none; read_is = omega arith }

module _ (s : State) (piece old new : List ℕ) (h : ReadSoFar s.read s.tally old) where
  refusal-as : (r : Result Fed Refusal) → FeedPromise s.tally piece old r new → number_of r ≡ cond (too_many s.read piece) 3 0
  refusal-as r p = p.refusal_is ∙ refused_as h piece

  pub piece_refused : (e : Refusal) → FeedPromise s.tally piece old (Err e) new
      → FedPromise s piece old (record { tally = s.tally; read = s.read; input = TooLong }) new
  piece_refused e p = go (too_many s.read piece) refl
    where
      go : (b : Bool) → too_many s.read piece ≡ b → FedPromise s piece old (record { tally = s.tally; read = s.read; input = TooLong }) new
      go true is =
          let same = p.refused 2 (rw is at (refusal-as (Err e) p)) in
          rw same.1 (record { input_is = rw is; carried = rw is (carries_nothing s TooLong old) })
      go false is = absurd (positive e (rw is at (refusal-as (Err e) p)))

  pub piece_taken : (f : Fed) → FeedPromise s.tally piece old (Ok f) new
      → FedPromise s piece old (record { tally = f.tally; read = s.read + f.taken; input = More }) new
  piece_taken f p = go (too_many s.read piece) refl
    where
      go : (b : Bool) → too_many s.read piece ≡ b → FedPromise s piece old (record { tally = f.tally; read = s.read + f.taken; input = More }) new
      go true e = let three : ◌≡◌ {A = ℕ} 0 3 = rw e at (refusal-as (Ok f) p) in absurd (omega arith)
      go false e =
          let all : f.taken ≡ length piece = p.taken_is in
          record {
            input_is = rw e;
            carried = rw e (record {
              calls = as_calls p.calls;
              handed = p.handed;
              joined_is = p.joined_is ∙ rw (all, take-length);
              read_is = rw all;
            });
          }

-- ---- a read

none-taken : (n : ℕ) → taken_of n [] ≡ []
none-taken n = go (too_many n [])
  where
    go : (b : Bool) → ◌≡◌ {A = List ℕ} (cond b [] []) []
    go true = refl
    go false = refl

module _ (s : State) (buffer old : List ℕ) where
  pub read-failed : (got : Result ℕ Error) (e : Error) → got ≡ Err e
      → TookPromise s got buffer old (record { tally = s.tally; read = s.read; input = Unreadable }) old
  read-failed got e is = rw is (record { input_is = refl; carried = rw (none-taken s.read) (carries_nothing s Unreadable old) })

  -- what is brought ends with the buffer
  module _ (got : Result ℕ Error) (k n : ℕ) (is : got ≡ Ok k) (counted : n ≡ min k (length buffer)) where
    brought_is : take k buffer ≡ take n buffer
    brought_is = rw counted (sym (take_min k buffer))

    pub read-ended : n ≡ 0 → TookPromise s got buffer old (record { tally = s.tally; read = s.read; input = Ended }) old
    read-ended z = rw is (record { input_is = rw (brought_is, z); carried = rw (brought_is, z, none-taken s.read) (carries_nothing s Ended old) })

    -- n bytes are brought
    pub read_more : {r : State} {new : List ℕ} → (n ≡ 0 → ⊥) → FedPromise s (take n buffer) old r new → TookPromise s got buffer old r new
    read_more some p =
        let whole : length (take n buffer) ≡ n = length-take-le n buffer (omega (arith, counted)) in
        rw is (record { input_is = p.input_is ∙ rw (brought_is, whole, ne_eqb n 0 some); carried = rw brought_is p.carried })

-- where there is more, a byte or more was taken
more-taken : (got : Result ℕ Error) (n : ℕ) (piece : List ℕ) → is_more (input_after got n piece) ≡ true → 0 < length (taken_of n piece)
more-taken (Err e) n piece m = absurd (true≢false (sym m))
more-taken (Ok k) n piece m = go (eqb (length piece) 0) (too_many n piece) refl m
  where
    go : (a b : Bool) → eqb (length piece) 0 ≡ a → is_more (cond a Ended (cond b TooLong More)) ≡ true → 0 < length (cond b [] piece)
    go true b e m = absurd (true≢false (sym m))
    go false true e m = absurd (true≢false (sym m))
    go false false e m = omega (arith, eqb-false (length piece) 0 e)

-- a turn: what it leaves is read so far, and where there is more, it has come nearer to the limit
module _ {s r : State} {buffer old new : List ℕ} (h : ReadSoFar s.read s.tally old) (p : TurnPromise s buffer old r new) where
  pub turned : ReadSoFar r.read r.tally new
  turned = reads_more h p.took.carried

  pub nearer : is_more r.input ≡ true → 2 ^ 40 - r.read < 2 ^ 40 - s.read
  nearer m =
      let some = more-taken p.got s.read (brought p.got buffer) (rw p.took.input_is at m) in
      omega (arith, p.took.carried.read_is, within-limit turned)

  pub all_read : is_more r.input ≡ false → AllPromise r
  all_read m = record { stopped = m; tally_is = record { area = new; left = turned } }
