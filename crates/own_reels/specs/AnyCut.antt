-- No answer depends on how a reel is cut: two lists of calls that lock on a frame's own sync and have taken the same bytes of the reel, in any pieces, with
-- refused calls among them, leave the same. Only whose duty a major frame is complete on is the calls' own, and that needs the same shifts.
-- Definitions only.
use Rattle.std.specs.Prelude.{◌≡◌, Bool, false, List, [], ◌∷◌, ◌++◌, map, ℕ}
use Rattle.labelling.specs.declared.Tally.{Tally}
use Rattle.labelling.specs.Words.{words}
use Rattle.labelling.specs.Votes.{rule_vote}
use Rattle.labelling.specs.Machine.{state_of, fresh}
use Rattle.labelling.specs.Calls.{taken, Call, takes, changes, joined, paid, last_duty}
use Rattle.labelling.specs.Once.{Counts}
use Rattle.labelling.specs.Rest.{Rest}
use Rattle.own_sync.specs.Locks.{to_lock}
use Rattle.own_sync.specs.Relocking.{after_lead_in, Relocked, done, refused, changed, takes_on, leads_in}
use Rattle.own_reels.specs.HandedIn.{awaits_word, handed_in}

-- ---- shifts (02, request 5)

-- the reel's bytes that the calls take, each with who is on duty as it is taken; k is on duty before the first. A lead-in is none of them
abbrev pub own_stamped : {w w' : Bool} {t t' : Tally} {a a' bs : List ℕ} {cs : List Call} {n : ℕ} → ℕ → Relocked w t a bs cs w' t' a' n → List (ℕ × ℕ)
own_stamped k done = []
own_stamped k (refused c m e h) = own_stamped k h
own_stamped k (changed d e h) = own_stamped d.operator h
own_stamped k (takes_on w c e f h) = map (λ b. (b, k)) (taken (to_lock c)) ++ own_stamped k h
own_stamped k (leads_in c e f z o h) = map (λ b. (b, k)) (taken (to_lock (after_lead_in c))) ++ own_stamped k h

-- no call names an operator
abbrev pub NoneNamed : List Call → Type 0
NoneNamed [] = Unit {0}
NoneNamed (takes c ∷ cs) = NoneNamed cs
NoneNamed (changes d ∷ cs) = ⊥

-- ---- the claim

-- two lists of calls have taken the bytes bs of a reel, each from the fresh tally of a rule and the area a₀
pub record SameLeft (rule : ℕ) {a₀ bs : List ℕ} {w v : Bool} {t u : Tally} {a b : List ℕ} {cs ds : List Call} {n m : ℕ}
    (h : Relocked false (fresh rule) a₀ bs cs w t a n) (g : Relocked false (fresh rule) a₀ bs ds v u b m) : Type 0 where
  -- what goes from step to step, but for the operators: each count, the rule, the frame being filled, the kept copies; whether a lock awaits its word;
  -- the lead-ins handed
  pub state_same : state_of u ≡ state_of t
  pub rule_same : u.rule ≡ t.rule
  pub awaits_same : v ≡ w
  pub lead_ins_same : m ≡ n
  pub area_same : b ≡ a
  -- the bytes handed in, and the major frames paid, in order
  pub joined_same : joined ds ≡ joined cs
  pub paid-same : paid ds ≡ paid cs
  -- the whole tally, where the same operator is on duty as each byte of the reel is taken and at the end; so where no shift changes
  pub tally_same : own_stamped 0 g ≡ own_stamped 0 h → last_duty 0 ds ≡ last_duty 0 cs → u ≡ t
  pub one_shift : NoneNamed cs → NoneNamed ds → u ≡ t

-- the calls cs have taken the bytes bs of a reel
pub record AnyCut (rule : ℕ) {a₀ bs : List ℕ} {w : Bool} {t : Tally} {a : List ℕ} {cs : List Call} {n : ℕ}
    (h : Relocked false (fresh rule) a₀ bs cs w t a n) : Type 0 where
  -- what they took is what the whole reel says, and so is each count, what the tally holds beside them, and whether a lock awaits its word
  pub joined_is : joined cs ≡ handed_in (rule_vote rule) bs
  pub counts : Counts (rule_vote rule) t (handed_in (rule_vote rule) bs)
  pub rest : Rest (rule_vote rule) t (handed_in (rule_vote rule) bs)
  pub awaits_is : w ≡ awaits_word (words (rule_vote rule) bs)
  pub same_left : {v : Bool} {u : Tally} {b : List ℕ} {ds : List Call} {m : ℕ} (g : Relocked false (fresh rule) a₀ bs ds v u b m) → SameLeft rule h g
