-- What the two entries of the writer promise: the complete answer and every lent byte, refused calls too. Definitions only.
use Rattle.std.specs.Prelude.{◌≡◌, true, List, ℕ}
use Rattle.labelling.specs.Order.{is_rule}
use Rattle.writer.specs.Stream.{lead_in_refusal, lead_in_after, minor_frame_refusal, minor_frame_after}
use Rattle.writer.specs.ReadBack.{ReelPromise}

-- `write_lead_in` at the spacing f into `old` answers r and leaves `new`; a reel that begins so is read back under both rules
pub record LeadInPromise (f : ℕ) (old new : List ℕ) (r : ℕ) : Type 0 where
  pub answer : r ≡ lead_in_refusal f old
  pub after : new ≡ lead_in_after f old
  pub reel : (rule : ℕ) → is_rule rule ≡ true → ReelPromise rule

-- `write_minor_frame` of a frame at the spacing f into `old` answers r and leaves `new`
pub record MinorFramePromise (f : ℕ) (frame old new : List ℕ) (r : ℕ) : Type 0 where
  pub answer : r ≡ minor_frame_refusal f frame old
  pub after : new ≡ minor_frame_after f frame old
