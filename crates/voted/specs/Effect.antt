-- What a voted stretch does to a state: the plain steps that it stands for are those of the crate nominal. Definitions only.
use Rattle.std.specs.Prelude.{List, ℕ, ◌+◌, ◌*◌, ◌-◌, length}
use Rattle.std.proofs.lemmas.List.Edits.{sets}
use Rattle.labelling.specs.declared.Groups.{Groups}
use Rattle.labelling.specs.declared.Weak.{Weak}
use Rattle.labelling.specs.Machine.{State}
use Rattle.nominal.specs.Effect.{with_placed, with_hunted}
use Rattle.voted.specs.Copies.{Copies, copies, words, named, last_or}

-- ---- the first layer after n bytes: the groups gs, k stray bytes, and FILL

abbrev pub weakened : Weak → List Copies → Weak
weakened w gs = record { first = w.first + named 1 gs; second = w.second + named 2 gs; third = w.third + named 3 gs }

-- the copies that a layer holds; the third is not kept
abbrev pub held : Groups → Copies
held g = copies g.first g.second 0

abbrev pub with_voted : Groups → ℕ → ℕ → List Copies → Groups
with_voted g n k gs = record {
  bytes = g.bytes + n;
  fill = g.fill + (n - 4 * length gs - k);
  stray = g.stray + k;
  voted = g.voted + length gs;
  split = g.split;
  weak = weakened g.weak gs;
  «open» = g.«open»;
  first = (last_or gs (held g)).first;
  second = (last_or gs (held g)).second;
}

-- ---- the state after n bytes: words are placed, or hunted with nothing matched

abbrev pub after_placed : State → ℕ → ℕ → List Copies → State
after_placed t n k gs = record {
  groups = with_voted t.groups n k gs;
  framing = with_placed t.framing (length gs);
  runs = t.runs;
  frame = sets t.frame t.framing.placed (words gs);
}

abbrev pub after_hunted : State → ℕ → ℕ → List Copies → State
after_hunted t n k gs = record {
  groups = with_voted t.groups n k gs;
  framing = with_hunted t.framing (length gs);
  runs = t.runs;
  frame = t.frame;
}
