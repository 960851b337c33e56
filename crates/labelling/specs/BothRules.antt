-- One stream under both rules (02, request 6): where no group is split under rule 1, it is read alike. Definitions only.
use Rattle.std.specs.Prelude.{◌≡◌, List, ℕ, length}
use Rattle.base.specs.Format.{major_frame}
use Rattle.labelling.specs.declared.Tally.{Tally}
use Rattle.labelling.specs.Words.{as-split, labelled}
use Rattle.labelling.specs.Votes.{rule_vote}
use Rattle.labelling.specs.Machine.{with_rule, fresh}
use Rattle.labelling.specs.Calls.{Answer, answer, duty_answer, Call, joined, paid, stamped, last_duty, Handed}
use Rattle.labelling.specs.SideBySide.{SideBySide, SameCuts}

-- ---- the same bytes and shifts

-- the same bytes with the same operator on duty as each is taken, and at the end
pub record SameShifts (cs ds : List Call) : Type 0 where
  pub as_taken : stamped 0 ds ≡ stamped 0 cs
  pub at_the_end : last_duty 0 ds ≡ last_duty 0 cs

-- ---- read alike

abbrev pub under_rule : ℕ → Answer → Answer
under_rule rule r = record { tally = with_rule rule r.tally; area = r.area; taken = r.taken; complete = r.complete }

-- call by call the same is left and answered, but for the rule that the tally carries
abbrev pub SameAnswers : List Call → List Call → Type 0
SameAnswers cs ds = SideBySide (λ c d. answer d ≡ under_rule 2 (answer c)) (λ c d. duty_answer d ≡ with_rule 2 (duty_answer c)) cs ds

-- the calls cs under rule 1 leave t and a, and ds under rule 2 leave u and b: all is the same but the rule that the tally carries
pub record Alike (cs ds : List Call) (t u : Tally) (a b : List ℕ) : Type 0 where
  pub tally_same : u ≡ with_rule 2 t
  pub area_same : b ≡ a
  pub paid-same : paid ds ≡ paid cs
  -- and so it is call by call, where the cuts are the same
  pub each_call : SameCuts cs ds → SameAnswers cs ds

pub record ReadAlike : Type 0 where
  pub read_alike : (a₀ : List ℕ) → length a₀ ≡ major_frame → (cs ds : List Call) (t u : Tally) (a b : List ℕ) → Handed (fresh 1) a₀ cs t a
      → Handed (fresh 2) a₀ ds u b → SameShifts cs ds → labelled (rule_vote 1) as-split (joined cs) ≡ 0 → Alike cs ds t u a b
  -- equal bytes with the same cuts and shifts are such
  pub cuts-suffice : (cs ds : List Call) → joined ds ≡ joined cs → SameCuts cs ds → SameShifts cs ds
