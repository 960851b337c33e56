-- What is left of the tests of a tally in order (labelling's specs/Order.antt) where only its bytes are held against the limit: the sums hold each
-- other count to it (proofs/Order.antt). Definitions only.
use Rattle.std.specs.Prelude.{Bool, ◌&&◌, ◌||◌, not, ℕ, ◌+◌, eqb, leb}
use Rattle.labelling.specs.declared.Framing.{Framing}
use Rattle.labelling.specs.declared.Groups.{Groups}
use Rattle.labelling.specs.declared.Runs.{Runs}
use Rattle.labelling.specs.declared.Tally.{Tally}
use Rattle.labelling.specs.Order.{within, bytes_sum, words_sum, frames_sum, framing_modes, few_weak, paid_sum, rule_in_order}

-- the bytes are within the limit, and open is at most 3; the bytes' sum
abbrev pub groups_add : Groups → Bool
groups_add g = within g.bytes && leb g.«open» 3 && bytes_sum g

-- placed is at most 127, and the match at most 2; the words' sum
abbrev pub framing_adds : ℕ → Framing → Bool
framing_adds words f = leb f.placed 127 && leb f.matched 2 && words_sum words f

-- building is at most 127; the good frames' sum
abbrev pub runs_add : ℕ → Runs → Bool
runs_add good r = leb r.building 127 && frames_sum good r

-- what must be 0 while hunting or out of it is
abbrev pub modes_agree : Framing → Runs → Bool
modes_agree f r = framing_modes f && (not f.hunting || eqb r.building 0)

-- all of these, the weak copies, the operators and the rule
unfoldable pub in_sums : Tally → Bool
in_sums t =
    groups_add t.groups && few_weak t.groups && framing_adds (t.groups.voted + t.groups.split) t.framing
    && runs_add t.framing.good t.runs && paid_sum t.runs.majors t.operators && leb t.operators.duty 7
    && modes_agree t.framing t.runs && rule_in_order t.rule t.groups.split
