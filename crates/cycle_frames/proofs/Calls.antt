-- Lists of calls: what is held and what has been given are together the cycles of the frames so far, whatever follows. Assumes nothing.
use Rattle.std.proofs.Common.{◌≡◌, refl, sym, ap, ◌∙◌, Bool, true, false, cond, not, List, [], ◌∷◌, ◌++◌, ℕ, suc, ◌+◌, ◌*◌, ◌≤◌, ◌<◌, Ok}
use mathlib.Core.List.{append_assoc, append-nil}
use native.Mathlib.Omega.{arith}
use borrow.Author.Tests.{eqb-true, eqb-false, not-false, ne_eqb}
use lib.Dec.{eqb}
use lib.ListN.{length, take, length-append}
use Rattle.base.proofs.Lines.{NoneHolds}
use Rattle.cycle.specs.Cycle.{is_frame, is_cycle}
use Rattle.frame_store.specs.Slots.{start, with_frame}
use Rattle.cycle_frames.specs.declared.Brought.{Brought}
use Rattle.cycle_frames.specs.Cycles.{joined_frames, cycles_in}
use Rattle.cycle_frames.specs.Gathering.{held_in, next_lines, next_refusal, kept_as, all_left, brought, next_of, area_after, cycle_given}
use Rattle.cycle_frames.specs.Gathering.{Taken, begun, taken, moved}
use Rattle.cycle_frames.specs.Promise.{Gathered}
use Rattle.cycle_frames.proofs.Frames.{Held, none, one, two, three, misfit, begins-none, made-whole, held-gives_none, none-held}
use Rattle.cycle_frames.proofs.Bytes.{stored-behind, stored_last, joined-more, four-are_a_cycle}

pub held_none : held_in 0 ≡ 0
unfolding held_in
held_none = refl

held_one : held_in 1 ≡ 1
unfolding held_in
held_one = refl

held_two : held_in 3 ≡ 2
unfolding held_in
held_two = refl

held-three : held_in 7 ≡ 3
unfolding held_in
held-three = refl

pub most-held : (bits : ℕ) → held_in bits ≤ 4
unfolding held_in
most-held bits = go (eqb bits 0) (eqb bits 1) (eqb bits 3) (eqb bits 7)
  where
    go : (a b c d : Bool) → cond a 0 (cond b 1 (cond c 2 (cond d 3 4))) ≤ 4
    go true b c d = omega arith
    go false true c d = omega arith
    go false false true d = omega arith
    go false false false true = omega arith
    go false false false false = omega arith

-- ---- what an accepted call knows

refuses_not : (b : Bool) (k r : ℕ) → cond b (suc k) r ≡ 0 → (b ≡ false) × (r ≡ 0)
refuses_not true k r e = absurd (omega arith)
refuses_not false k r e = (refl, e)

module _ (area : List ℕ) (bits : ℕ) (f : List ℕ) where
  pub record Accepted : Type 0 where
    pub size : length area ≡ 65536
    pub long : length f ≡ 16384
    pub few : held_in bits < 4
    pub quiet : NoneHolds (next_lines area bits f)

  pub accepted : next_refusal area bits f ≡ 0 → Accepted
  accepted e =
      let p = refuses_not (not (eqb (length area) 65536)) 1 _ e in
      let q = refuses_not (not (eqb (length f) 16384)) 1 _ p.1 in
      let r = refuses_not (eqb (held_in bits) 4) 24 _ q.1 in
      record {
        size = eqb-true _ _ (not-false _ p.0);
        long = eqb-true _ _ (not-false _ q.0);
        few = below (most-held bits) (eqb-false (held_in bits) 4 r.0);
        quiet = (p.0, (q.0, (r.0, tt)));
      }
    where
      below : held_in bits ≤ 4 → (held_in bits ≡ 4 → ⊥) → held_in bits < 4
      below m d = omega (arith, d)

  pub accepted-where : length area ≡ 65536 → length f ≡ 16384 → held_in bits < 4 → Accepted
  accepted-where size long few = accepted (rw (size, long, ne_eqb (held_in bits) 4 (λ e. omega arith)))

  module _ (y n : ℕ) (a : Accepted) (is : held_in bits ≡ n) where
    pub next-taken : next_of y area bits f ≡ Ok (brought y bits f)
    unfolding next_of
    next-taken = rw (a.quiet.0, a.quiet.1.0, a.quiet.1.1.0)

    -- the frame follows those that are held
    pub next-follows : is_frame y n f ≡ true → brought y bits f ≡ kept_as n 0
    unfolding brought
    next-follows e = rw (is, e)

    pub area_follows : is_frame y n f ≡ true → area_after y area bits f ≡ with_frame n f area
    unfolding area_after
    area_follows e = rw (a.quiet.0, a.quiet.1.0, a.quiet.1.1.0, is, e)

    module _ (other : is_frame y n f ≡ false) where
      -- it begins a cycle
      pub next-begins : is_frame y 0 f ≡ true → brought y bits f ≡ kept_as 0 n
      unfolding brought
      next-begins e = rw (is, other, e)

      pub area_begins : is_frame y 0 f ≡ true → area_after y area bits f ≡ with_frame 0 f area
      unfolding area_after
      area_begins e = rw (a.quiet.0, a.quiet.1.0, a.quiet.1.1.0, is, other, e)

      -- it is in none
      pub next-neither : is_frame y 0 f ≡ false → brought y bits f ≡ all_left (n + 1)
      unfolding brought
      next-neither e = rw (is, other, e)

      pub area_neither : is_frame y 0 f ≡ false → area_after y area bits f ≡ area
      unfolding area_after
      area_neither e = rw (a.quiet.0, a.quiet.1.0, a.quiet.1.1.0, is, other, e)

-- ---- lists of calls
module _ (y : ℕ) where
  pub record Gathers (frames cycles : List (List ℕ)) (left bits : ℕ) (area : List ℕ) : Type 0 where
    -- the frames that are held, of their kinds, stand in the first slots
    pending : List (List ℕ)
    n : ℕ
    n-is : held_in bits ≡ n
    held : Held y pending n
    bytes : take (start n) area ≡ joined_frames pending
    -- whatever follows
    residual : (rest : List (List ℕ)) → cycles_in y (frames ++ rest) ≡ cycles ++ cycles_in y (pending ++ rest)
    count : length frames ≡ 4 * length cycles + n + left

  -- a frame f comes where p is pending
  module _ (frames cycles p : List (List ℕ)) (f : List ℕ) where
    abbrev Rest : Type 0
    Rest = (rest : List (List ℕ)) → cycles_in y (frames ++ rest) ≡ cycles ++ cycles_in y (p ++ rest)

    on : Rest → (rest : List (List ℕ)) → cycles_in y ((frames ++ (f ∷ [])) ++ rest) ≡ cycles ++ cycles_in y (p ++ (f ∷ rest))
    on residual rest = ap (cycles_in y) (append_assoc frames (f ∷ []) rest) ∙ residual (f ∷ rest)

    -- it is pending too
    same : Rest → (rest : List (List ℕ)) → cycles_in y ((frames ++ (f ∷ [])) ++ rest) ≡ (cycles ++ []) ++ cycles_in y ((p ++ (f ∷ [])) ++ rest)
    same residual rest =
        on residual rest
        ∙ ap (λ (l : List (List ℕ)). cycles ++ cycles_in y l) (sym (append_assoc p (f ∷ []) rest))
        ∙ ap (λ (l : List (List ℕ)). l ++ cycles_in y ((p ++ (f ∷ [])) ++ rest)) (sym (append-nil cycles))

  -- the slots hold it too
  behind : (p : List (List ℕ)) (n : ℕ) (area f : List ℕ) → take (start n) area ≡ joined_frames p → n < 4 → length area ≡ 65536 → length f ≡ 16384
      → take (start (suc n)) (with_frame n f area) ≡ joined_frames (p ++ (f ∷ []))
  behind p n area f bytes few size long =
      stored-behind n f area few size long ∙ ap (λ (l : List ℕ). l ++ f) bytes ∙ sym (joined-more p f)

  -- the fourth fills the area with a cycle
  fourth : (a b c area f : List ℕ) → take (start 3) area ≡ joined_frames (a ∷ (b ∷ (c ∷ []))) → length area ≡ 65536 → length f ≡ 16384
      → with_frame 3 f area ≡ joined_frames (a ∷ (b ∷ (c ∷ (f ∷ []))))
  fourth a b c area f bytes size long =
      stored_last 3 f area (omega arith) size long refl
      ∙ ap (λ (l : List ℕ). l ++ f) bytes
      ∙ sym (joined-more (a ∷ (b ∷ (c ∷ []))) f)

  -- a frame that follows those that are held
  follow : (frames cycles p : List (List ℕ)) (left n : ℕ) (area : List ℕ) → Held y p n → take (start n) area ≡ joined_frames p → (f : List ℕ)
      → Rest frames cycles p f → length frames ≡ 4 * length cycles + n + left → length area ≡ 65536 → length f ≡ 16384 → is_frame y n f ≡ true
      → Gathers (frames ++ (f ∷ [])) (cycles ++ cycle_given (kept_as n 0) (with_frame n f area)) (left + 0) (kept_as n 0).bits (with_frame n f area)
  follow frames cycles p left n area none bytes f residual count size long kf =
      record {
        pending = f ∷ [];
        n = 1;
        n-is = held_one;
        held = one f kf;
        bytes = behind [] 0 area f bytes (omega arith) size long;
        residual = same frames cycles [] f residual;
        count = omega (arith, length-append frames (f ∷ []), length-append cycles []);
      }
  follow frames cycles p left n area (one a ka) bytes f residual count size long kf =
      record {
        pending = a ∷ (f ∷ []);
        n = 2;
        n-is = held_two;
        held = two a f ka kf;
        bytes = behind (a ∷ []) 1 area f bytes (omega arith) size long;
        residual = same frames cycles (a ∷ []) f residual;
        count = omega (arith, length-append frames (f ∷ []), length-append cycles []);
      }
  follow frames cycles p left n area (two a b ka kb) bytes f residual count size long kf =
      record {
        pending = a ∷ (b ∷ (f ∷ []));
        n = 3;
        n-is = held-three;
        held = three a b f ka kb kf;
        bytes = behind (a ∷ (b ∷ [])) 2 area f bytes (omega arith) size long;
        residual = same frames cycles (a ∷ (b ∷ [])) f residual;
        count = omega (arith, length-append frames (f ∷ []), length-append cycles []);
      }
  follow frames cycles p left n area (three a b c ka kb kc) bytes f residual count size long kf =
      record {
        pending = [];
        n = 0;
        n-is = held_none;
        held = none;
        bytes = refl;
        residual = given;
        count = omega (arith, length-append frames (f ∷ []), length-append cycles (with_frame 3 f area ∷ []));
      }
    where
      given : (rest : List (List ℕ)) → cycles_in y ((frames ++ (f ∷ [])) ++ rest) ≡ (cycles ++ (with_frame 3 f area ∷ [])) ++ cycles_in y rest
      given rest =
          on frames cycles (a ∷ (b ∷ (c ∷ []))) f residual rest
          ∙ ap (λ (l : List (List ℕ)). cycles ++ l) (made-whole y a b c ka kb kc f kf rest)
          ∙ ap (λ (l : List ℕ). cycles ++ (l ∷ cycles_in y rest)) (sym (fourth a b c area f bytes size long))
          ∙ sym (append_assoc cycles (with_frame 3 f area ∷ []) (cycles_in y rest))

  -- one that does not, and begins a cycle or is in none
  module _ (frames cycles p : List (List ℕ)) (left n : ℕ) (area : List ℕ) (held : Held y p n) (f : List ℕ) (residual : Rest frames cycles p f)
      (count : length frames ≡ 4 * length cycles + n + left) (other : is_frame y n f ≡ false) where
    apart : (rest : List (List ℕ)) → cycles_in y ((frames ++ (f ∷ [])) ++ rest) ≡ (cycles ++ []) ++ cycles_in y (f ∷ rest)
    apart rest =
        on frames cycles p f residual rest
        ∙ ap (λ (l : List (List ℕ)). cycles ++ l) (misfit y held f other rest)
        ∙ ap (λ (l : List (List ℕ)). l ++ cycles_in y (f ∷ rest)) (sym (append-nil cycles))

    begin : length area ≡ 65536 → length f ≡ 16384 → is_frame y 0 f ≡ true
        → Gathers (frames ++ (f ∷ [])) (cycles ++ []) (left + n) 1 (with_frame 0 f area)
    begin size long kf =
        record {
          pending = f ∷ [];
          n = 1;
          n-is = held_one;
          held = one f kf;
          bytes = behind [] 0 area f refl (omega arith) size long;
          residual = apart;
          count = omega (arith, length-append frames (f ∷ []), length-append cycles []);
        }

    neither : is_frame y 0 f ≡ false → Gathers (frames ++ (f ∷ [])) (cycles ++ []) (left + (n + 1)) 0 area
    neither e =
        record {
          pending = [];
          n = 0;
          n-is = held_none;
          held = none;
          bytes = refl;
          residual = λ rest. apart rest ∙ ap (λ (l : List (List ℕ)). (cycles ++ []) ++ l) (begins-none y f e rest);
          count = omega (arith, length-append frames (f ∷ []), length-append cycles []);
        }

  -- ---- one call more
  module _ {frames cycles : List (List ℕ)} {left bits : ℕ} {area : List ℕ} (g : Gathers frames cycles left bits area) (f : List ℕ)
      (e : next_refusal area bits f ≡ 0) where
    abbrev r : Brought
    r = brought y bits f

    abbrev new : List ℕ
    new = area_after y area bits f

    one_more : Gathers (frames ++ (f ∷ [])) (cycles ++ cycle_given r new) (left + r.omitted) r.bits new
    one_more = by_kind_lem (is_frame y g.n f) refl (is_frame y 0 f) refl
      where
        a : Accepted area bits f
        a = accepted area bits f e

        by_kind_lem : (u : Bool) → is_frame y g.n f ≡ u → (v : Bool) → is_frame y 0 f ≡ v
            → Gathers (frames ++ (f ∷ [])) (cycles ++ cycle_given r new) (left + r.omitted) r.bits new
        by_kind_lem true u v w =
            rw (next-follows area bits f y g.n a g.n-is u, area_follows area bits f y g.n a g.n-is u)
            (follow frames cycles g.pending left g.n area g.held g.bytes f g.residual g.count a.size a.long u)
        by_kind_lem false u true w =
            rw (next-begins area bits f y g.n a g.n-is u w, area_begins area bits f y g.n a g.n-is u w)
            (begin frames cycles g.pending left g.n area g.held f g.residual g.count u a.size a.long w)
        by_kind_lem false u false w =
            rw (next-neither area bits f y g.n a g.n-is u w, area_neither area bits f y g.n a g.n-is u w)
            (neither frames cycles g.pending left g.n area g.held f g.residual g.count u w)

  pub gathers : {frames cycles : List (List ℕ)} {left bits : ℕ} {area : List ℕ} → Taken y frames cycles left bits area
      → Gathers frames cycles left bits area
  gathers (begun area) =
      record { pending = []; n = 0; n-is = held_none; held = none; bytes = refl; residual = λ rest. refl; count = refl }
  gathers (taken f e t) = one_more (gathers t) f e
  gathers (moved other t) = elsewhere (gathers t)
    where
      elsewhere : {frames cycles : List (List ℕ)} {left : ℕ} {area : List ℕ} → Gathers frames cycles left 0 area → Gathers frames cycles left 0 other
      elsewhere g =
          let zero : g.n ≡ 0 = sym g.n-is ∙ held_none in
          let empty = none-held y g.held zero in
          record {
            pending = g.pending;
            n = g.n;
            n-is = g.n-is;
            held = g.held;
            bytes = rw (zero, empty);
            residual = g.residual;
            count = g.count;
          }

  -- ---- what holds of every list

  pub given-exactly : {frames cycles : List (List ℕ)} {left bits : ℕ} {area : List ℕ} → Gathers frames cycles left bits area
      → Gathered y frames cycles left bits
  given-exactly {frames} {cycles} g =
      record {
        exactly =
            sym (ap (λ (l : List (List ℕ)). cycles ++ l) (ap (cycles_in y) (append-nil g.pending) ∙ held-gives_none y g.held) ∙ append-nil cycles)
            ∙ sym (g.residual [])
            ∙ ap (cycles_in y) (append-nil frames);
        each_once = g.count ∙ omega (arith, g.n-is);
      }

  pub is_a_cycle : {frames cycles : List (List ℕ)} {left bits : ℕ} {area : List ℕ} → Gathers frames cycles left bits area → (f : List ℕ)
      → next_refusal area bits f ≡ 0 → (brought y bits f).whole ≡ true → is_cycle y (area_after y area bits f) ≡ true
  is_a_cycle {frames} {cycles} {left} {bits} {area} g f e w = by_kind_lem (is_frame y g.n f) refl (is_frame y 0 f) refl
    where
      a : Accepted area bits f
      a = accepted area bits f e

      whole : (p : List (List ℕ)) (n : ℕ) → Held y p n → take (start n) area ≡ joined_frames p → is_frame y n f ≡ true → eqb n 3 ≡ true
          → is_cycle y (with_frame n f area) ≡ true
      whole p n none bytes k t = let z : ◌≡◌ {A = ℕ} 0 1 = cc in absurd (omega arith)
      whole p n (one x kx) bytes k t = let z : ◌≡◌ {A = ℕ} 0 1 = cc in absurd (omega arith)
      whole p n (two x b kx kb) bytes k t = let z : ◌≡◌ {A = ℕ} 0 1 = cc in absurd (omega arith)
      whole p n (three x b c kx kb kc) bytes k t =
          ap (is_cycle y) (fourth x b c area f bytes a.size a.long) ∙ four-are_a_cycle y x b c f kx kb kc k

      not_whole : (brought y bits f).whole ≡ false → is_cycle y (area_after y area bits f) ≡ true
      not_whole h = let b : ◌≡◌ {A = Bool} true false = sym w ∙ h in let z : ◌≡◌ {A = ℕ} 0 1 = cc in absurd (omega arith)

      by_kind_lem : (u : Bool) → is_frame y g.n f ≡ u → (v : Bool) → is_frame y 0 f ≡ v → is_cycle y (area_after y area bits f) ≡ true
      by_kind_lem true u v h =
          let n = next-follows area bits f y g.n a g.n-is u in
          ap (is_cycle y) (area_follows area bits f y g.n a g.n-is u)
          ∙ whole g.pending g.n g.held g.bytes u (sym (ap (λ (r : Brought). r.whole) n) ∙ w)
      by_kind_lem false u true h = not_whole (ap (λ (r : Brought). r.whole) (next-begins area bits f y g.n a g.n-is u h))
      by_kind_lem false u false h = not_whole (ap (λ (r : Brought). r.whole) (next-neither area bits f y g.n a g.n-is u h))
