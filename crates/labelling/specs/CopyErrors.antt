-- Copy errors (02, request 10: scratches): a stream before and after at most one copy changed in any of its closed groups of three equal copies, which
-- copies have truly changed, and what both streams leave. Definitions only.
use Rattle.std.specs.Prelude.{◌≡◌, not, List, [], ◌∷◌, ◌++◌, ℕ, ◌+◌, ◌^◌, ◌≤◌, eqb, length, get_or}
use Rattle.base.specs.Format.{major_frame}
use Rattle.base.specs.Lists.{concat_map, one}
use Rattle.labelling.specs.declared.Tally.{Tally}
use Rattle.labelling.specs.declared.Weak.{Weak}
use Rattle.labelling.specs.Words.{SYNC, Group, fill, stray, closed, opened, groups, bytes_of}
use Rattle.labelling.specs.Calls.{TakeCall, answer, duty_answer, Call, joined, paid, Handed}
use Rattle.labelling.specs.SideBySide.{SideBySide, SameCuts, SameDuties}
use Rattle.labelling.specs.Rest.{latest}

-- ---- the change

-- what the copies of a closed group become: they stay; or, where the three are equal, one of them becomes any byte
pub data Becomes : ℕ → ℕ → ℕ → ℕ → ℕ → ℕ → Type 0 where
  as_before : {a b c : ℕ} → Becomes a b c a b c
  first_copy : {x : ℕ} (y : ℕ) → Becomes x x x y x x
  second_copy : {x : ℕ} (y : ℕ) → Becomes x x x x y x
  third_copy : {x : ℕ} (y : ℕ) → Becomes x x x x x y

-- a stream before and after: nothing else changes, neither outside a group nor in one that is not closed
pub data CopyErrors : List ℕ → List ℕ → Type 0 where
  at-end : CopyErrors [] []
  outer_byte : {bs cs : List ℕ} (b : ℕ) → (b ≡ SYNC → ⊥) → CopyErrors bs cs → CopyErrors (b ∷ bs) (b ∷ cs)
  closed_group : {a b c a' b' c' : ℕ} {bs cs : List ℕ} → Becomes a b c a' b' c' → CopyErrors bs cs
      → CopyErrors (SYNC ∷ a ∷ b ∷ c ∷ bs) (SYNC ∷ a' ∷ b' ∷ c' ∷ cs)
  open_group : (copies : List ℕ) → length copies ≤ 2 → CopyErrors (SYNC ∷ copies) (SYNC ∷ copies)

-- ---- the copies truly changed

-- the copy n of a closed group, where n is 1, 2 or 3: the byte n after its SYNC
abbrev pub copy_in : ℕ → Group → List ℕ
copy_in n fill = []
copy_in n (stray b) = []
copy_in n (closed a b c) = get_or (SYNC ∷ a ∷ b ∷ c ∷ []) n 0 ∷ []
copy_in n (opened l) = []

-- the copies n of all closed groups, in order
unfoldable pub copies_at : ℕ → List ℕ → List ℕ
copies_at n bs = concat_map (copy_in n) (groups bs)

-- at how many places two lists differ
abbrev pub differences : List ℕ → List ℕ → ℕ
differences [] m = 0
differences (x ∷ l) [] = 0
differences (x ∷ l) (y ∷ m) = one (not (eqb y x)) + differences l m

-- how many copies n the stream bs has that are another byte in cs: a copy that became itself has not changed
abbrev pub changed_at : ℕ → List ℕ → List ℕ → ℕ
changed_at n bs cs = differences (copies_at n bs) (copies_at n cs)

-- ---- there are such changes

-- the bytes of the group g between others
abbrev pub with_group : List Group → Group → List Group → List ℕ
with_group before g after = concat_map bytes_of (before ++ g ∷ after)

-- a closed group of three equal copies x stands between others: each of its copies may become y
pub record EachCopy (before after : List Group) (x y : ℕ) : Type 0 where
  pub first_may : CopyErrors (with_group before (closed x x x) after) (with_group before (closed y x x) after)
  pub second_may : CopyErrors (with_group before (closed x x x) after) (with_group before (closed x y x) after)
  pub third_may : CopyErrors (with_group before (closed x x x) after) (with_group before (closed x x y) after)

-- every stream may stay as it is, and every copy of three equal ones may become every byte
pub record CopyErrorsReach : Type 0 where
  pub itself : (bs : List ℕ) → CopyErrors bs bs
  pub each_copy : (bs : List ℕ) (before after : List Group) (x y : ℕ) → groups bs ≡ before ++ closed x x x ∷ after
      → (with_group before (closed x x x) after ≡ bs) × EachCopy before after x y

-- ---- what they leave

-- the tally t with other weak counts and other kept copies
abbrev pub with_copies : Weak → ℕ → ℕ → Tally → Tally
with_copies w first second t = record {
  groups = record {
    bytes = t.groups.bytes;
    fill = t.groups.fill;
    stray = t.groups.stray;
    voted = t.groups.voted;
    split = t.groups.split;
    weak = w;
    «open» = t.groups.«open»;
    first = first;
    second = second;
  };
  framing = t.framing;
  runs = t.runs;
  operators = t.operators;
  rule = t.rule;
  frame = t.frame;
}

-- u is t but for the weak counts and the kept copies: every other count, each operator's, who is on duty and the rule, whether it hunts, the match, the
-- frame being filled and its erasure mark are the same
abbrev pub SameButCopies : Tally → Tally → Type 0
SameButCopies t u = u ≡ with_copies u.groups.weak u.groups.first u.groups.second t

-- from the stream bs to cs the weak counts w become w': each rises by the copies truly changed at its copy
pub record WeakRise (bs cs : List ℕ) (w w' : Weak) : Type 0 where
  pub weak1_is : w'.first ≡ w.first + changed_at 1 bs cs
  pub weak2_is : w'.second ≡ w.second + changed_at 2 bs cs
  pub weak3_is : w'.third ≡ w.third + changed_at 3 bs cs

-- the calls c and d take as many bytes, both complete a major frame or neither does, and they leave the same area: so one pays what the other pays
pub record SameAnswer (c d : TakeCall) : Type 0 where
  pub taken-same : (answer d).taken ≡ (answer c).taken
  pub complete_same : (answer d).complete ≡ (answer c).complete
  pub area_same : (answer d).area ≡ (answer c).area
  pub tally_same : SameButCopies (answer c).tally (answer d).tally

abbrev pub SameAnswers : List Call → List Call → Type 0
SameAnswers cs ds = SideBySide SameAnswer (λ c d. SameButCopies (duty_answer c) (duty_answer d)) cs ds

-- the calls cs over a stream leave t and a, and ds over the stream with copy errors leave u and b
pub record Unharmed (cs ds : List Call) (t u : Tally) (a b : List ℕ) : Type 0 where
  pub tally_same : SameButCopies t u
  pub weak_rise : WeakRise (joined cs) (joined ds) t.groups.weak u.groups.weak
  -- a kept copy can differ only where that copy of the last closed group has changed
  pub first_same : latest 0 (copies_at 1 (joined ds)) ≡ latest 0 (copies_at 1 (joined cs)) → u.groups.first ≡ t.groups.first
  pub second_same : latest 0 (copies_at 2 (joined ds)) ≡ latest 0 (copies_at 2 (joined cs)) → u.groups.second ≡ t.groups.second
  pub area_same : b ≡ a
  pub paid-same : paid ds ≡ paid cs
  -- and so it is call by call, where the cuts are the same
  pub each_call : SameCuts cs ds → SameAnswers cs ds

-- some list of calls from r and a₀ with the cuts and shifts of cs takes the bytes bs
pub record ReadLikewise (r : Tally) (a₀ : List ℕ) (cs : List Call) (bs : List ℕ) : Type 0 where
  pub calls : List Call
  pub tally : Tally
  pub area : List ℕ
  pub handed : Handed r a₀ calls tally area
  pub cuts : SameCuts cs calls
  pub joined_is : joined calls ≡ bs

-- ---- the promise

-- from the tally r, with the same area, cuts and shifts before and after: of the cuts only the last field of `Unharmed` speaks
pub record CopyErrorsPromise (r : Tally) : Type 0 where
  pub unharmed : (a₀ : List ℕ) → length a₀ ≡ major_frame → (cs ds : List Call) (t u : Tally) (a b : List ℕ) → Handed r a₀ cs t a → Handed r a₀ ds u b
      → SameDuties cs ds → CopyErrors (joined cs) (joined ds) → Unharmed cs ds t u a b
  pub cuts-suffice : (cs ds : List Call) → SameCuts cs ds → SameDuties cs ds
  -- on either side one call more, handed as many bytes p and p' of the streams, of which q and q' are still to come, stops at the same byte: who cuts the
  -- streams alike has the same cuts
  pub stops_same : (a₀ : List ℕ) → length a₀ ≡ major_frame → (cs ds : List Call) (t u : Tally) (a b : List ℕ) → Handed r a₀ cs t a → Handed r a₀ ds u b
      → SameDuties cs ds → (p p' q q' : List ℕ) → CopyErrors (joined cs ++ (p ++ q)) (joined ds ++ (p' ++ q')) → length p' ≡ length p
      → length (joined cs) + length p ≤ 2 ^ 40
      → SameAnswer (record { tally = t; piece = p; area = a }) (record { tally = u; piece = p'; area = b })
  -- so the stream with copy errors is read so
  pub reads_likewise : (a₀ : List ℕ) → length a₀ ≡ major_frame → (cs : List Call) (t : Tally) (a bs : List ℕ) → Handed r a₀ cs t a
      → CopyErrors (joined cs) bs → ReadLikewise r a₀ cs bs
  -- and there are such streams
  pub not_empty : CopyErrorsReach
