-- The words that bytes give after a group not yet closed: one byte more leaves another such group, and gives the word that the machine says. A word
-- takes four bytes. Assumes nothing.
use mathlib.Core.Path.{◌≡◌, refl, sym, ap, ◌∙◌}
use mathlib.Core.List.{List, [], ◌∷◌, ◌++◌, append_assoc, append-nil}
use Prim.Native.Nat.{ℕ, zero, suc, ◌*◌, ◌≤◌}
use native.Mathlib.Omega.{arith}
use lib.ListN.{length, take, length-append}
use Rattle.base.specs.Format.{SYNC}
use Rattle.base.specs.Lists.{concat_map}
use Rattle.base.proofs.Lists.{concat_map-append}
use Rattle.labelling.specs.declared.Groups.{Groups}
use Rattle.labelling.specs.declared.Word.{Word}
use Rattle.labelling.specs.declared.Word.TheVariants.{Voted, Erased}
use Rattle.labelling.specs.Words.{Outside, opening, filling, straying, outside, Group, fill, stray, closed, opened, groups, bytes_of, Vote, word_of}
use Rattle.labelling.specs.Words.{words, weak_copy}
use Rattle.labelling.specs.Machine.{ByteEvent, outer, closes, after_byte, word_given, byte_event}
use Rattle.labelling.proofs.ByteLayer.{as_list, GroupsInv, groups_whole}
use Rattle.own_sync.specs.Relocking.{open_group}

module _ (vote : Vote) where
  -- SYNC and the copies so far, n bytes in all
  abbrev kept : ℕ → Groups → List ℕ
  kept n g = take n (SYNC ∷ g.first ∷ g.second ∷ [])

  -- one byte more, where n bytes are open
  record ByteMore (n : ℕ) (g : Groups) (b : ℕ) (e : ByteEvent) : Type 0 where
    goes_on : (ys : List ℕ) → words vote (kept n g ++ b ∷ ys) ≡ words vote (kept n g ++ b ∷ []) ++ words vote (open_group (after_byte e g b) ++ ys)
    gives : words vote (kept n g ++ b ∷ []) ≡ as_list (word_given e)

  byte_more : (n : ℕ) (g : Groups) (b : ℕ) → n ≤ 3 → ByteMore n g b (byte_event vote n g b)
  unfolding words outside
  byte_more zero g b h = go (outside b) refl
    where
      go : (k : Outside) → outside b ≡ k → ByteMore zero g b (outer k)
      go opening e = record { goes_on = λ ys. rw (e, groups); gives = rw (e, groups) }
      go filling e = record { goes_on = λ ys. rw (e, groups); gives = rw (e, groups) }
      go straying e = record { goes_on = λ ys. rw (e, groups); gives = rw (e, groups) }
  byte_more (suc zero) g b h = record { goes_on = λ ys. refl; gives = refl }
  byte_more (suc (suc zero)) g b h = record { goes_on = λ ys. refl; gives = refl }
  byte_more (suc (suc (suc zero))) g b h = go (vote g.first g.second b) refl
    where
      go : (w : Word) → vote g.first g.second b ≡ w → ByteMore 3 g b (closes w (weak_copy g.first g.second b))
      go (Voted m) e = record { goes_on = λ ys. refl; gives = rw e }
      go Erased e = record { goes_on = λ ys. refl; gives = rw e }
  byte_more (suc (suc (suc (suc n)))) g b h = absurd (omega arith)

  open_gives_none : (n : ℕ) (g : Groups) → n ≤ 3 → words vote (kept n g) ≡ []
  unfolding words outside
  open_gives_none zero g h = refl
  open_gives_none (suc zero) g h = refl
  open_gives_none (suc (suc zero)) g h = refl
  open_gives_none (suc (suc (suc zero))) g h = refl
  open_gives_none (suc (suc (suc (suc n)))) g h = absurd (omega arith)

  module _ (g : Groups) (few : g.«open» ≤ 3) (b : ℕ) where
    abbrev next : Groups
    next = after_byte (byte_event vote g.«open» g b) g b

    pub given : words vote (open_group g ++ b ∷ []) ≡ as_list (word_given (byte_event vote g.«open» g b))
    given = (byte_more g.«open» g b few).gives

    -- the words ahead are the word given, if any, and those ahead of it
    pub ahead : (ys : List ℕ)
        → words vote (open_group g ++ b ∷ ys) ≡ as_list (word_given (byte_event vote g.«open» g b)) ++ words vote (open_group next ++ ys)
    ahead ys = rw (← given) ((byte_more g.«open» g b few).goes_on ys)

  pub none_ahead : (g : Groups) → g.«open» ≤ 3 → words vote (open_group g ++ []) ≡ []
  none_ahead g few = rw append-nil (open_gives_none g.«open» g few)

  -- ---- a list of bytes that ends with such a group

  abbrev pub Pending : Groups → List ℕ → Type 0
  Pending g bs = (ys : List ℕ) → words vote (bs ++ ys) ≡ words vote bs ++ words vote (open_group g ++ ys)

  pub pending_of : {g : Groups} {bs : List ℕ} → GroupsInv vote g bs → Pending g bs
  unfolding words
  pending_of {g} {bs} i = λ ys.
      let cut : List Word = concat_map (word_of vote) i.out in
      let now : words vote bs ≡ cut =
      ap (words vote) (sym (append-nil bs)) ∙ with-more [] ∙ ap (λ (l : List Word). cut ++ l) (none_ahead g i.few_open) ∙ append-nil cut in
      with-more ys ∙ ap (λ (l : List Word). l ++ words vote (open_group g ++ ys)) (sym now)
    where
      with-more : (ys : List ℕ) → words vote (bs ++ ys) ≡ concat_map (word_of vote) i.out ++ words vote (open_group g ++ ys)
      with-more ys = rw (i.residual.goes_on ys) (concat_map-append (word_of vote) i.out (groups (open_group g ++ ys)))

  module _ (g : Groups) (few : g.«open» ≤ 3) (b : ℕ) (bs : List ℕ) (h : Pending g bs) where
    pub pending_words : words vote (bs ++ b ∷ []) ≡ words vote bs ++ as_list (word_given (byte_event vote g.«open» g b))
    pending_words = h (b ∷ []) ∙ ap (λ (l : List Word). words vote bs ++ l) (given g few b)

    pub pending_step : Pending (next g few b) (bs ++ b ∷ [])
    pending_step ys =
        let rest = words vote (open_group (next g few b) ++ ys) in
        ap (words vote) (append_assoc bs (b ∷ []) ys) ∙ h (b ∷ ys) ∙ ap (λ (l : List Word). words vote bs ++ l) (ahead g few b ys)
        ∙ sym (append_assoc (words vote bs) (as_list (word_given (byte_event vote g.«open» g b))) rest)
        ∙ ap (λ (l : List Word). l ++ rest) (sym pending_words)

  -- ---- how many words

  pub four-each : (bs : List ℕ) → 4 * length (words vote bs) ≤ length bs
  unfolding words
  four-each bs = omega (arith, go (groups bs), ap length (groups_whole bs))
    where
      go : (gs : List Group) → 4 * length (concat_map (word_of vote) gs) ≤ length (concat_map bytes_of gs)
      go [] = omega arith
      go (g ∷ gs) = omega (arith, one g, go gs, length-append (word_of vote g) (concat_map (word_of vote) gs), length-append (bytes_of g) (concat_map bytes_of gs))
        where
          one : (g : Group) → 4 * length (word_of vote g) ≤ length (bytes_of g)
          one fill = omega arith
          one (stray b) = omega arith
          one (closed a b c) = omega arith
          one (opened l) = omega arith
