-- What `frame_store::store` promises of an answer, said of what crosses. Assumes nothing.
use Rattle.std.proofs.Common.{refl, sym, ◌∙◌, List, ℕ, Ok, Err}
use lib.ListN.{length}
use Rattle.base.specs.declared.refusal.Refusal.{Refusal}
use Rattle.base.specs.Refusals.{number}
use Rattle.base.proofs.Lines.{answered-given, refused-is, positive}
use Rattle.frame_store.specs.declared.Stored.{Stored}
use Rattle.frame_store.specs.Answers.{store_lines}
use Rattle.frame_store.specs.Promise.{StorePromise}
use Rattle.frame_store.proofs.Refusals.{store_none}
use Rattle.frame_api.specs.Slots.{StoreCrossed}

module _ {area : List ℕ} {bits : ℕ} {frame : List ℕ} {area' : List ℕ} (slot : ℕ) where
  pub store_refused : {r : Refusal} → StorePromise area bits frame area' (Err r) → StoreCrossed area bits frame slot (number r) area' bits slot
  store_refused {r} p =
      record {
        refusal_is = p.refusal_is;
        stored = Err r;
        promised = p;
        bits_are = refl;
        slot_is = sym (refused-is slot 0 (store_lines (length area) bits frame) (λ none. positive r (p.refusal_is ∙ none)));
      }

  pub store_taken : {s : Stored} → StorePromise area bits frame area' (Ok s) → StoreCrossed area bits frame slot 0 area' s.bits s.slot
  store_taken {s} p =
      record {
        refusal_is = p.refusal_is;
        stored = Ok s;
        promised = p;
        bits_are = refl;
        slot_is = sym (answered-given (λ n. slot) (store_lines (length area) bits frame) s.slot (store_none (length area) bits frame (sym p.refusal_is)));
      }
