-- The promises of the three entries on each of their ways out, from the laws of the code. The entries look a header's ten symbols up in tables, and
-- `header_code` proves what the tables give of any ten symbols, so that here only the ways out are told apart. Assumes nothing.
use Rattle.std.proofs.Common.{◌≡◌, refl, sym, ap, ◌∙◌, subst, Bool, true, false, cond, not, List, ◌++◌, ℕ, ◌/◌, ◌%◌, ◌≤◌, ◌<◌, Result, Ok, Err}
use mathlib.Core.Option.{Option, none, some}
use native.Mathlib.Omega.{arith}
use lib.Dec.{eqb}
use lib.ListN.{length, get_or, set, take}
use lib.Seq.{get_or-set_other}
use borrow.Author.Tests.{eq-eqb, ne_eqb, eqb-true}
use Rattle.base.specs.declared.refusal.Refusal.{Refusal}
use Rattle.base.specs.declared.refusal.Refusal.TheVariants.{NotAHeader, NoCodeWord}
use Rattle.base.specs.Refusals.{answered, refusal}
use Rattle.base.proofs.Lines.{told}
use Rattle.header_code.specs.Field.{◌⊕◌}
use Rattle.header_code.specs.Code.{Word, add, weight, Near, the_only}
use Rattle.header_code.specs.Symbols.{symbols_of, combined}
use Rattle.header_code.specs.Decoder.{syndromes, checks, located}
use Rattle.header_code.proofs.Words.{distance_self}
use Rattle.header_code.proofs.Symbols.{symbols-sum}
use Rattle.header_code.proofs.Encoding.{encoded}
use Rattle.header_code.proofs.Unique.{same-six}
use Rattle.header_code.proofs.Light.{located-light}
use Rattle.header_code.proofs.Repairing as repairing
use Rattle.header_symbols.specs.Header.{put_after}
use Rattle.header_symbols.proofs.Bytes.{put-header}
use Rattle.vcdu_header.specs.Header.{symbols, counter, placed}
use Rattle.vcdu_header.specs.Answers.{header_lines, is_none, repair_lines, changes, restored}
use Rattle.vcdu_header.specs.Promise.{EncodePromise, CheckPromise, RepairPromise}
use Rattle.vcdu_header.proofs.Bytes.{symbols-word, symbols-placed, placed-self, checks-placed}

module _ (h : List ℕ) (bytes : (i : ℕ) → get_or h i 0 < 256) where
  -- the header's symbols as a word, and what the tables give for it
  x : Word 10 (symbols h)
  x = symbols-word h bytes

  abbrev left : ℕ
  left = combined syndromes (symbols h)

  -- ---- encode
  abbrev word : List ℕ
  word = take 6 (symbols h) ++ symbols_of 4 (combined checks (symbols h))

  encode_promise : (after : List ℕ) (r : ℕ) → r ≡ refusal (header_lines h) → after ≡ answered (λ n. h) (header_lines h) (placed word h)
      → (r ≡ 0 → symbols after ≡ word) → ((i : ℕ) → i < 6 → get_or after i 0 ≡ get_or h i 0) → EncodePromise h after r
  encode_promise after r answer after_is symbols-after others_stay =
      record {
        word = word;
        is_word = encoded x;
        same-six = refl;
        only = λ w g e. same-six g (encoded x) e;
        answer = answer;
        after_is = after_is;
        symbols-after = symbols-after;
        others_stay = others_stay;
      }

  pub encode_refused : (length h ≡ 8 → ⊥) → EncodePromise h h 22
  encode_refused other =
      encode_promise h 22 (rw (ne_eqb (length h) 8 other)) (rw (ne_eqb (length h) 8 other)) (λ e. absurd (omega arith)) (λ i l. refl)

  pub encode_done : (n z : ℕ) → length h ≡ 8 → symbols_of 10 n ≡ symbols h → z < 65536 → z ≡ combined checks (symbols_of 10 n)
      → EncodePromise h (set (set h 6 (z / 256)) 7 (z % 256)) 0
  encode_done n z eight p small e =
      let same : z ≡ combined checks (symbols h) = e ∙ ap (combined checks) p in
      let after : set (set h 6 (z / 256)) 7 (z % 256) ≡ placed word h =
      checks-placed h eight z small ∙ ap (λ (k : ℕ). placed (take 6 (symbols h) ++ symbols_of 4 k) h) same in
      encode_promise _ 0 (rw (eq-eqb (length h) 8 eight)) (rw (eq-eqb (length h) 8 eight) after)
      (λ z. ap symbols after ∙ symbols-placed h (encoded x).word) stays
    where
      stays : (i : ℕ) → i < 6 → get_or (set (set h 6 (z / 256)) 7 (z % 256)) i 0 ≡ get_or h i 0
      stays i l = get_or-set_other (set h 6 (z / 256)) 7 i (z % 256) 0 (omega arith) ∙ get_or-set_other h 6 i (z / 256) 0 (omega arith)

  -- ---- check
  check_promise : (r : Result Bool Refusal) → r ≡ answered Err (header_lines h) (Ok (eqb left 0)) → CheckPromise h r
  check_promise r e =
      record {
        word = eqb left 0;
        if_yes = λ t. repairing.is_code x (eqb-true left 0 t);
        if_word = λ g. eq-eqb left 0 (repairing.is_clean x g);
        answers = told (header_lines h) (eqb left 0) r e;
      }

  pub check_refused : (length h ≡ 8 → ⊥) → CheckPromise h (Err NotAHeader)
  check_refused other = check_promise _ (rw (ne_eqb (length h) 8 other))

  module _ (n s : ℕ) (eight : length h ≡ 8) (p : symbols_of 10 n ≡ symbols h) (e : s ≡ combined syndromes (symbols_of 10 n)) where
    is_left : s ≡ left
    is_left = e ∙ ap (combined syndromes) p

    pub check_told : (m : ℕ) → m ≡ 0 → CheckPromise h (Ok (eqb s m))
    check_told m z = check_promise _ (rw (eq-eqb (length h) 8 eight, z, is_left))

  -- ---- repair
  module _ (near : Option (List ℕ)) (nearest : Near (symbols h) near) where
    abbrev answer_is : Result ℕ Refusal → Type 0
    answer_is r = r ≡ answered Err (repair_lines h near) (Ok (changes (symbols h) near))

    abbrev after_is : List ℕ → Type 0
    after_is after = after ≡ answered (λ n. h) (repair_lines h near) (restored h near)

    symbols-restored : (c : List ℕ) → near ≡ some c → symbols (restored h near) ≡ c
    symbols-restored c e = go near nearest e
      where
        go : (o : Option (List ℕ)) → Near (symbols h) o → o ≡ some c → symbols (restored h o) ≡ c
        go none n e = let z : ◌≡◌ {A = ℕ} 0 1 = cc in absurd (omega arith)
        go (some d) (the_only g _ _) e = let same : d ≡ c = cc in symbols-placed h g.word ∙ same

    counter-restored : counter (restored h near) ≡ counter h
    counter-restored = go near
      where
        go : (o : Option (List ℕ)) → counter (restored h o) ≡ counter h
        go none = refl
        go (some c) = refl

    -- by which of the two lines holds
    counter-after : (long lost : Bool) → counter (cond long h (cond lost h (restored h near))) ≡ counter h
    counter-after true lost = refl
    counter-after false true = refl
    counter-after false false = counter-restored

    symbols-after : (long lost : Bool) (c : List ℕ) → ◌≡◌ {A = ℕ} (cond long 22 (cond lost 23 0)) 0
        → near ≡ some c → symbols (cond long h (cond lost h (restored h near))) ≡ c
    symbols-after true lost c z e = absurd (omega arith)
    symbols-after false true c z e = absurd (omega arith)
    symbols-after false false c z e = symbols-restored c e

    repair_promise : (after : List ℕ) (r : Result ℕ Refusal) → answer_is r → after_is after → RepairPromise h after r
    repair_promise after r e f =
        let answers = told (repair_lines h near) (changes (symbols h) near) r e in
        let long = not (eqb (length h) 8) in
        record {
          near = near;
          nearest = nearest;
          answers = answers;
          after_is = f;
          symbols-after = λ c z o. ap symbols f ∙ symbols-after long (is_none near) c (sym answers.refusal_is ∙ z) o;
          counter_stays = ap counter f ∙ counter-after long (is_none near);
        }

  pub repair_refused : (length h ≡ 8 → ⊥) → RepairPromise h h (Err NotAHeader)
  repair_refused other =
      let o = repairing.outcome x in
      repair_promise o.near o.nearest h _ (rw (ne_eqb (length h) 8 other)) (rw (ne_eqb (length h) 8 other))

  module _ (n s : ℕ) (eight : length h ≡ 8) (p : symbols_of 10 n ≡ symbols h) (e : s ≡ combined syndromes (symbols_of 10 n)) where
    is_syndrome : s ≡ left
    is_syndrome = e ∙ ap (combined syndromes) p

    pub repair_clean : s ≡ 0 → RepairPromise h h (Ok 0)
    repair_clean z =
        repair_promise (some (symbols h)) (repairing.itself x (sym is_syndrome ∙ z)) h _
        (rw (eq-eqb (length h) 8 eight) (ap Ok (sym (distance_self (symbols h)))))
        (rw (eq-eqb (length h) 8 eight) (sym (placed-self h eight)))

    module _ (errors : ℕ) (found : errors ≡ located s) where
      is_located : errors ≡ located left
      is_located = found ∙ ap located is_syndrome

      lost : Near (symbols h) none → RepairPromise h h (Err NoCodeWord)
      lost none-near = repair_promise none none-near h _ (rw (eq-eqb (length h) 8 eight)) (rw (eq-eqb (length h) 8 eight))

      module _ (t : ℕ) (et : t ≡ combined syndromes (symbols_of 10 errors)) where
        pub repair_unlike : (t ≡ s → ⊥) → RepairPromise h h (Err NoCodeWord)
        repair_unlike other =
            lost (repairing.unlike x (λ same. other (et ∙ ap (λ (k : ℕ). combined syndromes (symbols_of 10 k)) is_located ∙ same ∙ sym is_syndrome)))

        pub repair_done : t ≡ s → (after : List ℕ) (count : ℕ) → after ≡ put_after (symbols_of 10 (n ⊕ errors)) h → count ≡ weight (symbols_of 10 errors)
            → RepairPromise h after (Ok count)
        repair_done same after count ea ec =
            let alike : combined syndromes (symbols_of 10 errors) ≡ left = sym et ∙ same ∙ is_syndrome in
            let light : weight (symbols_of 10 errors) ≤ 2 =
            subst (λ (k : ℕ). weight (symbols_of 10 k) ≤ 2) (sym is_located) (located-light left (repairing.syndrome-fits x)) in
            let c = add (symbols h) (symbols_of 10 errors) in
            let sum : symbols_of 10 (n ⊕ errors) ≡ c = symbols-sum 10 n errors ∙ ap (λ (w : List ℕ). add w (symbols_of 10 errors)) p in
            repair_promise (some c) (repairing.repaired x errors alike light) after _
            (rw (eq-eqb (length h) 8 eight) (ap Ok (ec ∙ sym (repairing.changed x errors alike))))
            (rw (eq-eqb (length h) 8 eight) (ea ∙ sym (put-header (symbols_of 10 (n ⊕ errors)) h eight) ∙ ap (λ (w : List ℕ). placed w h) sum))
