-- The reader's entries as they cross to another language: a tally is its numbers, and the frame beside them. Definitions only.
use Rattle.std.specs.Prelude.{◌≡◌, cond, not, List, [], ◌∷◌, ℕ, eqb}
use Rattle.base.specs.Lists.{one}
use Rattle.base.specs.Refusals.{◌when◌, answered, number}
use Rattle.base.specs.declared.refusal.Refusal.TheVariants.{NotInOrder}
use Rattle.labelling.specs.declared.Tally.{Tally}
use Rattle.labelling.specs.Machine.{fresh}
use Rattle.labelling.specs.Once.{fresh_refusal, rule_given}
use Rattle.labelling.specs.Calls.{TakeCall, Answer, answer, take_refusal, DutyCall, duty_refusal, duty_answer}
use Rattle.tally_numbers.specs.Numbers.{numbers_of, is_tally, tally_of, Layout}

-- `fresh` by a rule returns r and leaves the lent numbers and frame: those of the fresh tally of the rule, and after a refusal of rule 1
pub record FreshCrossed (rule r : ℕ) (numbers frame : List ℕ) : Type 0 where
  pub refusal_is : r ≡ fresh_refusal rule
  pub numbers_is : numbers ≡ numbers_of (fresh (rule_given rule))
  pub frame_is : frame ≡ (fresh (rule_given rule)).frame
  pub layout : Layout

-- the places lent to `take` beside the piece
pub record Lent : Type 0 where
  pub numbers : List ℕ
  pub frame : List ℕ
  pub area : List ℕ
  pub answer : List ℕ

abbrev pub lent : List ℕ → List ℕ → List ℕ → List ℕ → Lent
lent numbers frame area answer = record { numbers = numbers; frame = frame; area = area; answer = answer }

-- the reader's call that they stand for
abbrev pub call_of : Lent → List ℕ → TakeCall
call_of l piece = record { tally = tally_of l.numbers l.frame; piece = piece; area = l.area }

-- numbers that are no tally's are not in order: 1, before the lines of the reader's call, of which 1 is the first too
unfoldable pub take_refused : Lent → List ℕ → ℕ
take_refused l piece = answered number (NotInOrder when not (is_tally l.numbers) ∷ []) (take_refusal (call_of l piece))

-- an answer as it crosses: the tally, the area, the bytes taken and whether a major frame is complete
abbrev pub written : Answer → Lent
written a = lent (numbers_of a.tally) a.tally.frame a.area (a.taken ∷ one a.complete ∷ [])

-- what is left: the answer, and after a refusal all as it was
unfoldable pub take_leaves : Lent → List ℕ → Lent
take_leaves l piece = cond (eqb (take_refused l piece) 0) (written (answer (call_of l piece))) l

-- `take` of a piece, with these places lent, returns r and leaves them so
pub record TakeCrossed (l : Lent) (piece : List ℕ) (r : ℕ) (left : Lent) : Type 0 where
  pub refusal_is : r ≡ take_refused l piece
  pub left_is : left ≡ take_leaves l piece

-- ---- a call that names an operator (02, request 5)

-- the places lent to `change_duty`
pub record Places : Type 0 where
  pub numbers : List ℕ
  pub frame : List ℕ

abbrev pub places : List ℕ → List ℕ → Places
places numbers frame = record { numbers = numbers; frame = frame }

-- the reader's call that they stand for
abbrev pub duty_call_of : Places → ℕ → DutyCall
duty_call_of l k = record { tally = tally_of l.numbers l.frame; operator = k }

-- numbers that are no tally's are not in order, as in `take_refused`
unfoldable pub duty_refused : Places → ℕ → ℕ
duty_refused l k = answered number (NotInOrder when not (is_tally l.numbers) ∷ []) (duty_refusal (duty_call_of l k))

-- what is left: the tally answered, and after a refusal all as it was
abbrev pub tally_places : Tally → Places
tally_places t = places (numbers_of t) t.frame

unfoldable pub duty_leaves : Places → ℕ → Places
duty_leaves l k = cond (eqb (duty_refused l k) 0) (tally_places (duty_answer (duty_call_of l k))) l

-- `change_duty` to the operator k, with these places lent, returns r and leaves them so
pub record DutyCrossed (l : Places) (k r : ℕ) (left : Places) : Type 0 where
  pub refusal_is : r ≡ duty_refused l k
  pub left_is : left ≡ duty_leaves l k
