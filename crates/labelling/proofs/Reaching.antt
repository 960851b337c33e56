-- Lists of calls that read given pieces: they are handed on and take the pieces joined, and every stream that fits in 2^40 bytes has one. A
-- call is accepted while the bytes fit, and one that stops has taken a byte, so that a piece is read after as many calls as it has bytes at most.
-- Assumes nothing.
use mathlib.Core.Path.{◌≡◌, refl, sym, ◌∙◌}
use mathlib.Core.Bool.{Bool, true, false}
use mathlib.Core.List.{List, [], ◌∷◌, ◌++◌, append_assoc, append-nil}
use Prim.Native.Nat.{ℕ, zero, suc, ◌+◌, ◌^◌, ◌≤◌}
use native.Mathlib.Omega.{arith}
use lib.ListN.{length, take, drop, length-append, length-drop, take-append-drop}
use lib.Seq.{take_all, length-take-le}
use Rattle.base.specs.Lists.{concat_map}
use Rattle.base.proofs.Lists.{concat_map-append}
use Rattle.labelling.specs.declared.Tally.{Tally}
use Rattle.labelling.specs.Votes.{rule_vote}
use Rattle.labelling.specs.Machine.{state_of}
use Rattle.labelling.specs.Order.{in_order}
use Rattle.labelling.specs.Calls.{TakeCall, take_refusal, answer, progress_of, taken, Call, taken_by, joined, Handed, done, refused, accepted, changed}
use Rattle.labelling.specs.Calls.{left, Reads, no_call, takes_all, stops}
use Rattle.labelling.specs.Once.{frames_in, ReadBySome}
use Rattle.labelling.proofs.RunSteps.{area_length}
use Rattle.labelling.proofs.Feeding.{Extent, WholeInv, FedRight, feed-right}
use Rattle.labelling.proofs.CallLaws.{no_refusal, accepted-under, accepted-extent, accepted-rule, answer-ordered}

-- the pieces joined
abbrev stream : List (List ℕ) → List ℕ
stream ps = concat_map (λ p. p) ps

-- ---- one list after another

pub joined-append : (cs ds : List Call) → joined (cs ++ ds) ≡ joined cs ++ joined ds
unfolding joined
joined-append cs ds = concat_map-append taken_by cs ds

pub handed-append : {t u v : Tally} {a b c : List ℕ} {cs ds : List Call} → Handed t a cs u b → Handed u b ds v c
    → Handed t a (cs ++ ds) v c
handed-append done k = k
handed-append (refused c n e h) k = refused c n e (handed-append h k)
handed-append (accepted c e h) k = accepted c e (handed-append h k)
handed-append (changed d e h) k = changed d e (handed-append h k)

pub reads_append : {t u v : Tally} {a b c : List ℕ} {ps qs rs : List (List ℕ)} {cs ds : List Call} → Reads t a ps cs u b qs
    → Reads u b qs ds v c rs → Reads t a ps (cs ++ ds) v c rs
reads_append no_call k = k
reads_append (takes_all c e n r) k = takes_all c e n (reads_append r k)
reads_append (stops c e n r) k = stops c e n (reads_append r k)

-- ---- a list that reads the pieces

pub reads_handed : {t u : Tally} {a b : List ℕ} {ps qs : List (List ℕ)} {cs : List Call} → Reads t a ps cs u b qs → Handed t a cs u b
reads_handed no_call = done
reads_handed (takes_all c e n r) = accepted c e (reads_handed r)
reads_handed (stops c e n r) = accepted c e (reads_handed r)

-- what it has taken, and what is left, are the pieces joined
pub reads_joined : {t u : Tally} {a b : List ℕ} {ps qs : List (List ℕ)} {cs : List Call} → Reads t a ps cs u b qs
    → joined cs ++ stream qs ≡ stream ps
unfolding joined taken left
reads_joined no_call = refl
reads_joined (takes_all {ps} {qs} {cs} c e n r) =
    append_assoc (taken c) (joined cs) (stream qs) ∙ rw (reads_joined r, take_all (answer c).taken c.piece (omega arith))
reads_joined (stops {ps} {qs} {cs} c e n r) =
    append_assoc (taken c) (joined cs) (stream qs)
    ∙ rw (reads_joined r, ← append_assoc (taken c) (left c) (stream ps), take-append-drop (answer c).taken c.piece)

by_reads : {t u : Tally} {a b : List ℕ} {ps : List (List ℕ)} {cs : List Call} → Reads t a ps cs u b [] → ReadBySome t a ps
by_reads {cs} r = record {
  calls = _;
  tally = _;
  area = _;
  reads = r;
  handed = reads_handed r;
  joined_is = sym (append-nil (joined cs)) ∙ reads_joined r;
}

-- ---- every stream has such a list

module _ (rule : ℕ) (a₀ : List ℕ) where
  -- t and a are left by the bytes xs, and calls may go on
  pub record Reached (t : Tally) (a xs : List ℕ) : Type 0 where
    pub inv : WholeInv (rule_vote rule) a₀ (state_of t) a xs
    pub order : in_order t ≡ true
    pub rule_is : t.rule ≡ rule

  -- what an accepted call leaves
  accepted-reached : (c : TakeCall) (xs : List ℕ) → take_refusal c ≡ 0 → Reached c.tally c.area xs
      → Reached (answer c).tally (answer c).area (xs ++ taken c)
  unfolding taken
  accepted-reached c xs e i =
      let r : FedRight (rule_vote rule) a₀ xs c.piece (progress_of (answer c)) =
      rw (accepted-under c e i.rule_is) (feed-right (rule_vote rule) a₀ (state_of c.tally) c.area xs c.piece i.inv) in
      record { inv = r.grown.inv; order = answer-ordered c i.order; rule_is = accepted-rule c e ∙ i.rule_is }

  -- the bytes grouped anew
  regrouped : {u : Tally} {b : List ℕ} (xs ys zs : List ℕ) → Reached u b ((xs ++ ys) ++ zs) → Reached u b (xs ++ (ys ++ zs))
  regrouped xs ys zs i = rw append_assoc at i

  pub reads_reached : {t u : Tally} {a b : List ℕ} {ps qs : List (List ℕ)} {cs : List Call} (xs : List ℕ) → Reads t a ps cs u b qs → Reached t a xs
      → Reached u b (xs ++ joined cs)
  unfolding joined
  reads_reached xs no_call i = rw (append-nil xs) i
  reads_reached xs (takes_all {cs} c e n r) i = regrouped xs (taken c) (joined cs) (reads_reached (xs ++ taken c) r (accepted-reached c xs e i))
  reads_reached xs (stops {cs} c e n r) i = regrouped xs (taken c) (joined cs) (reads_reached (xs ++ taken c) r (accepted-reached c xs e i))

  -- a call for the piece p is accepted where the bytes fit
  module _ (t : Tally) (a xs p : List ℕ) (i : Reached t a xs) (fits : length xs + length p ≤ 2 ^ 40) where
    abbrev call : TakeCall
    call = record { tally = t; piece = p; area = a }

    call-accepted : take_refusal call ≡ 0
    call-accepted =
        no_refusal t p a i.order (area_length a₀ t.runs a (frames_in (rule_vote rule) xs) i.inv.in_runs) (omega (arith, i.inv.in_groups.bytes_is))

    call-extent : Extent p (answer call).taken (answer call).complete
    call-extent = accepted-extent call call-accepted

    call-reached : Reached (answer call).tally (answer call).area (xs ++ take (answer call).taken p)
    unfolding taken
    call-reached = accepted-reached call xs call-accepted i

    call-bytes : length (xs ++ take (answer call).taken p) ≡ length xs + (answer call).taken
    call-bytes = omega (arith, length-append xs (take (answer call).taken p), length-take-le (answer call).taken p call-extent.within)

  -- some calls read ps, whatever bytes are before
  abbrev Readable : List (List ℕ) → Type 0
  Readable ps = (t : Tally) (a xs : List ℕ) → Reached t a xs → length xs + length (stream ps) ≤ 2 ^ 40 → ReadBySome t a ps

  -- a piece, where ps and each shorter rest of the piece are readable
  read-piece : (p : List ℕ) (ps : List (List ℕ)) → Readable ps → ((n : ℕ) → 1 ≤ n → n ≤ length p → Readable (drop n p ∷ ps))
      → Readable (p ∷ ps)
  unfolding left
  read-piece p ps then-ps then-rest t a xs i fits = go (answer c).complete refl
    where
      c : TakeCall
      c = record { tally = t; piece = p; area = a }

      whole : length (stream (p ∷ ps)) ≡ length p + length (stream ps)
      whole = length-append p (stream ps)

      room : length xs + length p ≤ 2 ^ 40
      room = omega (arith, whole)

      accept : take_refusal c ≡ 0
      accept = call-accepted t a xs p i room

      extent : Extent p (answer c).taken (answer c).complete
      extent = call-extent t a xs p i room

      after : Reached (answer c).tally (answer c).area (xs ++ take (answer c).taken p)
      after = call-reached t a xs p i room

      bytes : length (xs ++ take (answer c).taken p) ≡ length xs + (answer c).taken
      bytes = call-bytes t a xs p i room

      go : (b : Bool) → (answer c).complete ≡ b → ReadBySome t a (p ∷ ps)
      go false e =
          let all : (answer c).taken ≡ length p = extent.takes_all e in
          by_reads (takes_all c accept all (then-ps _ _ _ after (omega (arith, whole, bytes))).reads)
      go true e =
          let rest = drop (answer c).taken p in
          let some : 1 ≤ (answer c).taken = extent.takes_some e in
          let shorter : length rest + (answer c).taken ≡ length p = omega (arith, length-drop (answer c).taken p, extent.within) in
          let next = then-rest (answer c).taken some extent.within _ _ _ after (omega (arith, whole, bytes, length-append rest (stream ps))) in
          by_reads (stops c accept e next.reads)

  -- a piece of n bytes at most
  piece_readable : (n : ℕ) (p : List ℕ) (ps : List (List ℕ)) → length p ≤ n → Readable ps → Readable (p ∷ ps)
  piece_readable zero p ps few k = read-piece p ps k (λ m some h. absurd (omega arith))
  piece_readable (suc n) p ps few k = read-piece p ps k (λ m some h. piece_readable n (drop m p) ps (omega (arith, length-drop m p)) k)

  pub readable : (ps : List (List ℕ)) → Readable ps
  readable [] t a xs i fits = by_reads no_call
  readable (p ∷ ps) t a xs i fits = piece_readable (length p) p ps (omega arith) (readable ps) t a xs i fits
