-- Lists of calls that lock on a frame's own sync, one after another. Assumes nothing.
use mathlib.Core.Bool.{Bool}
use mathlib.Core.List.{List, ◌++◌, append_assoc}
use Prim.Native.Nat.{ℕ, ◌+◌}
use native.Mathlib.Nat.{zero-add, suc-add}
use Rattle.labelling.specs.declared.Tally.{Tally}
use Rattle.labelling.specs.Calls.{Call, taken}
use Rattle.own_sync.specs.Locks.{to_lock}
use Rattle.own_sync.specs.Relocking.{after_lead_in, Relocked as RelockedCalls, done, refused, changed, takes_on, leads_in}

pub relocked_append : {v w x : Bool} {t u s : Tally} {a b c xs ys : List ℕ} {cs ds : List Call} {m n : ℕ} → RelockedCalls v t a xs cs w u b m
    → RelockedCalls w u b ys ds x s c n → RelockedCalls v t a (xs ++ ys) (cs ++ ds) x s c (m + n)
relocked_append {n = n} done k = rw (zero-add n) k
relocked_append (refused c m e h) k = refused c m e (relocked_append h k)
relocked_append (changed d e h) k = changed d e (relocked_append h k)
relocked_append {ys = ys} (takes_on {bs = bs} w c e f h) k = rw (append_assoc (taken (to_lock c)) bs ys) (takes_on w c e f (relocked_append h k))
relocked_append {ys = ys} {n = n} (leads_in {bs = bs} {n = m} c e f z o h) k =
    rw (append_assoc (taken (to_lock (after_lead_in c))) bs ys, suc-add m n) (leads_in c e f z o (relocked_append h k))
