-- What the frame store does with a frame behind those that are held, and what `next` then promises. Assumes nothing.
use Rattle.std.proofs.Common.{◌≡◌, refl, sym, ap, ◌∙◌, Bool, true, false, List, ℕ, zero, suc, ◌+◌, ◌^◌, ◌<◌, Result, Ok, Err}
use native.Mathlib.Omega.{arith}
use borrow.Author.Tests.{eqb-true, ne_eqb}
use lib.Dec.{eqb}
use lib.ListN.{length}
use Rattle.base.specs.declared.refusal.Refusal.{Refusal}
use Rattle.base.specs.declared.refusal.Refusal.TheVariants.{WrongLength, BitsBeyondSlots}
use Rattle.base.specs.Refusals.{number_of}
use Rattle.base.proofs.Lines.{numbered, ok-none}
use Rattle.cycle.specs.Cycle.{is_cycle}
use Rattle.frame_store.specs.Slots.{is_in_use, lowest, with_frame}
use Rattle.frame_store.specs.Answers.{stored_in, stored, store_leaves}
use Rattle.cycle_frames.specs.declared.Brought.{Brought}
use Rattle.cycle_frames.specs.Gathering.{bits_of, held_in, next_lines, next_refusal, kept_as, brought, next_of, area_after, taken}
use Rattle.cycle_frames.specs.Promise.{NextPromise}
use Rattle.cycle_frames.proofs.Calls.{gathers, given-exactly, is_a_cycle}

-- ---- the store
module _ (area f : List ℕ) where
  -- the frame goes into slot n
  pub record StoresAt (n bits : ℕ) : Type 0 where
    pub answer : stored area bits f ≡ Ok (stored_in n bits)
    pub leaves : store_leaves area bits f ≡ with_frame n f area
    pub is_bits : bits ≡ bits_of n

  pub stores_at : (bits : ℕ) → length area ≡ 65536 → length f ≡ 16384 → held_in bits < 4 → StoresAt (held_in bits) bits
  unfolding held_in stored store_leaves lowest is_in_use
  stores_at bits size long few = go (eqb bits 0) refl (eqb bits 1) refl (eqb bits 3) refl (eqb bits 7) refl
    where
      at-0 : StoresAt 0 0
      at-0 = record { answer = rw (size, long); leaves = rw (size, long); is_bits = refl }

      at_1 : StoresAt 1 1
      at_1 = record { answer = rw (size, long); leaves = rw (size, long); is_bits = refl }

      at-2 : StoresAt 2 3
      at-2 = record { answer = rw (size, long); leaves = rw (size, long); is_bits = refl }

      at-3 : StoresAt 3 7
      at-3 = record { answer = rw (size, long); leaves = rw (size, long); is_bits = refl }

      go : (a : Bool) → eqb bits 0 ≡ a → (b : Bool) → eqb bits 1 ≡ b → (c : Bool) → eqb bits 3 ≡ c → (d : Bool) → eqb bits 7 ≡ d
          → StoresAt (held_in bits) bits
      go true a b b' c c' d d' = let z = eqb-true bits 0 a in rw z at-0
      go false a true b' c c' d d' = let z = eqb-true bits 1 b' in rw z at_1
      go false a false b' true c' d d' = let z = eqb-true bits 3 c' in rw z at-2
      go false a false b' false c' true d' = let z = eqb-true bits 7 d' in rw z at-3
      go false a false b' false c' false d' = let four : held_in bits ≡ 4 = rw (a, b', c', d') in absurd (omega (arith, few, four))

-- the fourth slot makes all of them used
pub kept_whole : (n left b : ℕ) → n < 4 → b ≡ bits_of n + 2 ^ n → b ≡ 15 → record { bits = 0; omitted = left; whole = true } ≡ kept_as n left
kept_whole zero left b few e h = absurd (omega arith)
kept_whole (suc zero) left b few e h = absurd (omega arith)
kept_whole (suc (suc zero)) left b few e h = absurd (omega arith)
kept_whole (suc (suc (suc zero))) left b few e h = refl
kept_whole (suc (suc (suc (suc n)))) left b few e h = absurd (omega arith)

pub kept_more : (n left b : ℕ) → n < 4 → b ≡ bits_of n + 2 ^ n → (b ≡ 15 → ⊥) → record { bits = b; omitted = left; whole = false } ≡ kept_as n left
kept_more zero left b few e h = rw e
kept_more (suc zero) left b few e h = rw e
kept_more (suc (suc zero)) left b few e h = rw e
kept_more (suc (suc (suc zero))) left b few e h = absurd (h e)
kept_more (suc (suc (suc (suc n)))) left b few e h = absurd (omega arith)

-- ---- a call
module _ (y : ℕ) (area : List ℕ) (bits : ℕ) (f : List ℕ) where
  number : number_of (next_of y area bits f) ≡ next_refusal area bits f
  unfolding next_of
  number = numbered (next_lines area bits f) (brought y bits f)

  given : {b : Brought} → next_of y area bits f ≡ Ok b → brought y bits f ≡ b
  unfolding next_of
  given {b} e = (ok-none (next_lines area bits f) (brought y bits f) b e).1

  -- an answer that is the definition's meets the whole promise
  pub promised : (r : Result Brought Refusal) (new : List ℕ) → r ≡ next_of y area bits f → new ≡ area_after y area bits f → NextPromise y area bits f new r
  promised r new e a =
      record {
        answer = e;
        after = a;
        refusal_is = ap number_of e ∙ number;
        goes_on = λ is t. rw (← given (sym e ∙ is), a) (taken f (accepts is) t);
        gathered = λ is t. rw (← given (sym e ∙ is), a) (given-exactly y (gathers y (taken f (accepts is) t)));
        is_cycle_fact = λ is t w. ap (is_cycle y) a ∙ is_a_cycle y (gathers y t) f (accepts is) (ap (λ (b : Brought). b.whole) (given (sym e ∙ is)) ∙ w);
      }
    where
      accepts : {b : Brought} → r ≡ Ok b → next_refusal area bits f ≡ 0
      accepts is = sym number ∙ ap number_of (sym e ∙ is)

  -- ---- the refusals

  pub wrong-area : (length area ≡ 65536 → ⊥) → (Err WrongLength ≡ next_of y area bits f) × (area ≡ area_after y area bits f)
  unfolding next_of area_after
  wrong-area h = (rw (ne_eqb (length area) 65536 h), rw (ne_eqb (length area) 65536 h))

  pub wrong-frame : length area ≡ 65536 → (length f ≡ 16384 → ⊥) → (Err WrongLength ≡ next_of y area bits f) × (area ≡ area_after y area bits f)
  unfolding next_of area_after
  wrong-frame e h = (rw (e, ne_eqb (length f) 16384 h), rw (e, ne_eqb (length f) 16384 h))

  pub wrong-bits : length area ≡ 65536 → length f ≡ 16384 → held_in bits ≡ 4 → (Err BitsBeyondSlots ≡ next_of y area bits f) × (area ≡ area_after y area bits f)
  unfolding next_of area_after
  wrong-bits e l h = (rw (e, l, h), rw (e, l, h))
