-- Where lead-ins stand on a reel, as it grows: bytes that find no frame add no mark, and a group whose word finds one is marked at its SYNC. A group not yet
-- closed has no mark, and none is changed by what follows. Assumes nothing.
use mathlib.Core.Path.{◌≡◌, refl, sym, ap, ◌∙◌}
use mathlib.Core.Bool.{Bool, true, false}
use mathlib.Core.List.{List, [], ◌∷◌, ◌++◌, map, append_assoc, append-nil, map-append}
use Prim.Native.Nat.{ℕ, zero, suc, ◌≤◌}
use native.Mathlib.Omega.{arith}
use lib.ListN.{length, take, length-append}
use borrow.Author.Tests.{le-ltb}
use Rattle.base.specs.Format.{SYNC}
use Rattle.base.specs.Lists.{concat_map}
use Rattle.base.proofs.Lists.{concat_map-append}
use Rattle.labelling.specs.declared.Groups.{Groups}
use Rattle.labelling.specs.declared.Word.{Word}
use Rattle.labelling.specs.Words.{outside, Group, groups, bytes_of, Vote, word_of, words}
use Rattle.labelling.specs.Machine.{start}
use Rattle.labelling.proofs.ByteLayer.{GroupsInv, groups_start, groups_step, groups_whole}
use Rattle.own_sync.specs.OwnCut.{own_found}
use Rattle.own_sync.specs.Relocking.{open_group}
use Rattle.own_sync.proofs.OpenGroup.{none_ahead, four-each}
use Rattle.own_reels.specs.HandedIn.{finds_frame, nowhere, at_first, leads_into, lead_ins, inserted}
use Rattle.own_reels.proofs.Finding.{found-more}

nowhere-both : (xs ys : List ℕ) → nowhere (xs ++ ys) ≡ nowhere xs ++ nowhere ys
nowhere-both xs ys = map-append (λ (b : ℕ). false) xs ys

at_none : (bs : List ℕ) → at_first false bs ≡ nowhere bs
at_none [] = refl
at_none (b ∷ bs) = refl

-- elements with no mark stay as they are
pub inserted-none : {A : Type 0} (lead : A → List A) (ms : List Bool) (f : ℕ → A) (ys : List ℕ) (xs : List A)
    → inserted lead (nowhere ys ++ ms) (map f ys ++ xs) ≡ map f ys ++ inserted lead ms xs
inserted-none lead ms f [] xs = refl
inserted-none {A} lead ms f (y ∷ ys) xs = ap (λ (l : List A). f y ∷ l) (inserted-none lead ms f ys xs)

module _ (vote : Vote) where
  -- the words of groups
  abbrev pub words_of : List Group → List Word
  words_of gs = concat_map (word_of vote) gs

  leads_both : (ws : List Word) (gs hs : List Group) → leads_into vote ws (gs ++ hs) ≡ leads_into vote ws gs ++ leads_into vote (ws ++ words_of gs) hs
  leads_both ws [] hs = rw (append-nil ws)
  leads_both ws (g ∷ gs) hs =
      let first = at_first (finds_frame ws (word_of vote g)) (bytes_of g) in
      let next = ws ++ word_of vote g in
      ap (λ (l : List Bool). first ++ l) (leads_both next gs hs)
      ∙ sym (append_assoc first (leads_into vote next gs) (leads_into vote (next ++ words_of gs) hs))
      ∙ ap (λ (l : List Word). (first ++ leads_into vote next gs) ++ leads_into vote l hs) (append_assoc ws (word_of vote g) (words_of gs))

  -- groups that find no frame
  no_lead : (ws : List Word) (gs : List Group) → own_found (ws ++ words_of gs) ≡ own_found ws → leads_into vote ws gs ≡ nowhere (concat_map bytes_of gs)
  no_lead ws [] e = refl
  no_lead ws (g ∷ gs) e =
      let next = ws ++ word_of vote g in
      let whole = ap own_found (append_assoc ws (word_of vote g) (words_of gs)) in
      let first : finds_frame ws (word_of vote g) ≡ false = le-ltb (own_found ws) (own_found next) (omega (arith, found-more next (words_of gs), whole, e)) in
      let rest = no_lead next gs (omega (arith, found-more next (words_of gs), found-more ws (word_of vote g), whole, e)) in
      rw (first, rest, at_none (bytes_of g)) (sym (nowhere-both (bytes_of g) (concat_map bytes_of gs)))

  -- ---- a reel cut at its last group

  pub record Ends (bs : List ℕ) : Type 0 where
    pub groups_at : Groups
    pub holds : GroupsInv vote groups_at bs

  pub ends : (bs : List ℕ) → Ends bs
  ends bs = go [] bs (record { groups_at = start.groups; holds = groups_start vote })
    where
      go : (done rest : List ℕ) → Ends done → Ends (done ++ rest)
      go done [] r = rw (append-nil done) r
      go done (b ∷ rest) r =
          rw append_assoc at (go (done ++ b ∷ []) rest (record { groups_at = _; holds = groups_step vote r.groups_at b done r.holds }))

  module _ (xs : List ℕ) where
    abbrev pub out : List Group
    out = (ends xs).holds.out

    -- the group not yet closed
    abbrev pub kept : List ℕ
    kept = open_group (ends xs).groups_at

    cut : (ys : List ℕ) → groups (xs ++ ys) ≡ out ++ groups (kept ++ ys)
    cut ys = (ends xs).holds.residual.goes_on ys

    pub words-then : (ys : List ℕ) → words vote (xs ++ ys) ≡ words_of out ++ words vote (kept ++ ys)
    unfolding words
    words-then ys = rw (cut ys) (concat_map-append (word_of vote) out (groups (kept ++ ys)))

    words-out : words vote xs ≡ words_of out
    words-out =
        ap (words vote) (sym (append-nil xs)) ∙ words-then []
        ∙ ap (λ (l : List Word). words_of out ++ l) (none_ahead vote (ends xs).groups_at (ends xs).holds.few_open) ∙ append-nil (words_of out)

    marks_then : (ys : List ℕ) → lead_ins vote (xs ++ ys) ≡ leads_into vote [] out ++ leads_into vote (words_of out) (groups (kept ++ ys))
    unfolding lead_ins
    marks_then ys = rw (cut ys) (leads_both [] out (groups (kept ++ ys)))

    -- behind them bytes that find no frame
    quiet : (ys : List ℕ) → own_found (words vote (xs ++ ys)) ≡ own_found (words vote xs)
        → lead_ins vote (xs ++ ys) ≡ leads_into vote [] out ++ nowhere (kept ++ ys)
    unfolding words
    quiet ys e =
        let same : own_found (words_of out ++ words_of (groups (kept ++ ys))) ≡ own_found (words_of out) =
        ap own_found (sym (words-then ys)) ∙ e ∙ ap own_found words-out in
        let none = no_lead (words_of out) (groups (kept ++ ys)) same in
        marks_then ys ∙ ap (λ (l : List Bool). leads_into vote [] out ++ l) (none ∙ ap nowhere (groups_whole (kept ++ ys)))

    pub unmarked : (ys : List ℕ) → own_found (words vote (xs ++ ys)) ≡ own_found (words vote xs) → lead_ins vote (xs ++ ys) ≡ lead_ins vote xs ++ nowhere ys
    unmarked ys e =
        let before = leads_into vote [] out in
        let now : lead_ins vote xs ≡ before ++ nowhere kept =
        ap (lead_ins vote) (sym (append-nil xs)) ∙ quiet [] (ap (λ (l : List ℕ). own_found (words vote l)) (append-nil xs))
        ∙ ap (λ (l : List ℕ). before ++ nowhere l) (append-nil kept) in
        quiet ys e ∙ ap (λ (l : List Bool). before ++ l) (nowhere-both kept ys) ∙ sym (append_assoc before (nowhere kept) (nowhere ys))
        ∙ ap (λ (l : List Bool). l ++ nowhere ys) (sym now)

    -- ---- behind them a group whose word finds a frame, where none is open

    module _ (none_open : (ys : List ℕ) → words vote (xs ++ ys) ≡ words vote xs ++ words vote ys) where
      longer : (ys : List ℕ) → length (words vote (kept ++ ys)) ≡ length (words vote ys)
      longer ys =
          let both = ap length (sym (words-then ys) ∙ none_open ys) in
          let l = length-append (words_of out) (words vote (kept ++ ys)) in
          let r = length-append (words vote xs) (words vote ys) in
          omega (arith, both, l, r, ap length words-out)

      none_kept : (n : ℕ) (g : Groups) → n ≤ 3
          → ((ys : List ℕ) → length (words vote (take n (SYNC ∷ g.first ∷ g.second ∷ []) ++ ys)) ≡ length (words vote ys))
          → take n (SYNC ∷ g.first ∷ g.second ∷ []) ≡ []
      unfolding words outside
      none_kept zero g h e = refl
      none_kept (suc zero) g h e = absurd (omega (arith, e (0 ∷ 0 ∷ 0 ∷ []), four-each vote (0 ∷ 0 ∷ 0 ∷ [])))
      none_kept (suc (suc zero)) g h e = absurd (omega (arith, e (0 ∷ 0 ∷ []), four-each vote (0 ∷ 0 ∷ [])))
      none_kept (suc (suc (suc zero))) g h e = absurd (omega (arith, e (0 ∷ []), four-each vote (0 ∷ [])))
      none_kept (suc (suc (suc (suc n)))) g h e = absurd (omega arith)

      pub marked : (x y z : ℕ) → finds_frame (words vote xs) (vote x y z ∷ []) ≡ true
          → lead_ins vote (xs ++ SYNC ∷ x ∷ y ∷ z ∷ []) ≡ lead_ins vote xs ++ at_first true (SYNC ∷ x ∷ y ∷ z ∷ [])
      unfolding outside lead_ins
      marked x y z e =
          let g = (ends xs).groups_at in
          let closed-off : kept ≡ [] = none_kept g.«open» g (ends xs).holds.few_open longer in
          let four = SYNC ∷ x ∷ y ∷ z ∷ [] in
          let before = leads_into vote [] out in
          let now : lead_ins vote xs ≡ before =
          ap (lead_ins vote) (sym (append-nil xs)) ∙ marks_then []
          ∙ ap (λ (l : List ℕ). before ++ leads_into vote (words_of out) (groups (l ++ []))) closed-off ∙ append-nil before in
          let finds : finds_frame (words_of out) (vote x y z ∷ []) ≡ true = ap (λ (l : List Word). finds_frame l (vote x y z ∷ [])) (sym words-out) ∙ e in
          marks_then four ∙ ap (λ (l : List ℕ). before ++ leads_into vote (words_of out) (groups (l ++ four))) closed-off
          ∙ ap (λ (m : Bool). before ++ (at_first m four ++ [])) finds ∙ ap (λ (l : List Bool). l ++ at_first true four) (sym now)
