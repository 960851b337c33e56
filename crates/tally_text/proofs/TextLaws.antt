-- What is added to a text, slice by slice and line by line: each law joins what two additions add. Assumes nothing.
use mathlib.Core.Path.{◌≡◌, refl, sym, ap, ◌∙◌}
use mathlib.Core.Bool.{Bool, true, false}
use mathlib.Core.List.{List, [], ◌∷◌, ◌++◌, append-nil, append_assoc}
use Prim.Native.Nat.{ℕ, ◌+◌, ◌-◌, ◌^◌, ◌≤◌, ◌<◌}
use native.Mathlib.Nat.{pow-le-pow_right}
use native.Mathlib.Omega.{arith}
use lib.Dec.{leb}
use lib.ListN.{length, take, length-append}
use lib.Seq.{length-take-le}
use borrow.Author.Tests.{leb-true, leb-false}
use Rattle.base.proofs.Lists.{sum_by-append}
use Rattle.io.specs.Digits.{last_digits, IsDigitCount}
use Rattle.labelling.specs.declared.Tally.{Tally}
use Rattle.tally_text.specs.declared.Text.{Text}
use Rattle.tally_text.specs.Listing.{ascii, Count, counted, group_counts, frame_counts, run_counts, Lines}
use Rattle.tally_text.specs.Listing.{none, line, Adds, Lined, ListingPromise}

pub adds_append : {a b c : Text} {xs ys : List ℕ} → Adds a xs b → Adds b ys c → Adds a (xs ++ ys) c
adds_append {a} {b} {c} {xs} {ys} p q = record {
  text_is = q.text_is ∙ rw (p.text_is, append_assoc);
  length-is = omega (arith, p.length-is, q.length-is, length-append xs ys);
  room_is = q.room_is ∙ p.room_is;
}

-- ---- lines

-- a number of 64 bits has 20 digits at most
pub twenty : (n k : ℕ) → n < 2 ^ 64 → IsDigitCount 10 1 n k → k ≤ 20
twenty n k h few = go (leb k 20) refl
  where
    go : (b : Bool) → leb k 20 ≡ b → k ≤ 20
    go true e = leb-true k 20 e
    go false e =
        let long : 20 < k = leb-false k 20 e in
        let large : 10 ^ 20 ≤ 10 ^ (k - 1) = pow-le-pow_right {n = 10} (omega arith) {i = 20} {j = k - 1} (omega arith) in
        absurd (omega (arith, few.2 (omega arith)))

pub lined : {a b c d : Text} (name out : List ℕ) (n k : ℕ) → IsDigitCount 10 1 n k → k ≤ 20 → k ≤ length out → take k out ≡ last_digits 10 k n
    → Adds a name b → Adds b (take k out) c → Adds c (0x0a ∷ []) d → Lined a (counted name n ∷ []) d
lined name out n k few short within same p q r = record {
  bytes = (name ++ last_digits 10 k n ++ (0x0a ∷ [])) ++ [];
  lines = line (record { places = k; fewest = few; bytes_are = refl }) none;
  fits = rw append-nil (omega (arith, length-append (name ++ last_digits 10 k n) (0x0a ∷ []), length-append name (last_digits 10 k n), places));
  adds = rw (append-nil, ← same) (adds_append (adds_append p q) r);
}
  where
    places : length (last_digits 10 k n) ≡ k
    places = ap length (sym same) ∙ length-take-le k out within

pub lines-append : {cs ds : List Count} {xs ys : List ℕ} → Lines cs xs → Lines ds ys → Lines (cs ++ ds) (xs ++ ys)
lines-append none q = q
lines-append {ys} (line {bytes} {rest} p ps) q = rw (append_assoc bytes rest ys) (line p (lines-append ps q))

pub lined_append : {a b c : Text} {cs ds : List Count} → Lined a cs b → Lined b ds c → Lined a (cs ++ ds) c
lined_append {cs} {ds} p q = record {
  bytes = p.bytes ++ q.bytes;
  lines = lines-append p.lines q.lines;
  fits = omega (arith, p.fits, q.fits, length-append p.bytes q.bytes, sum_by-append (λ c. length c.name + 21) cs ds);
  adds = adds_append p.adds q.adds;
}

-- the heading and the lines, from an empty text on
pub whole-text : {a b r : Text} (t : Tally) → a.length ≡ 0 → length a.bytes ≡ 512 → Adds a (ascii "PCD TALLY 2\n") b
    → Lined b (group_counts t ++ frame_counts t ++ run_counts t) r → ListingPromise t r
whole-text {a} {b} {r} t empty room p q =
    let all = adds_append p q.adds in
    let two = length-append (ascii "PCD TALLY 2\n") q.bytes in
    let within : r.length ≤ length r.bytes = omega (arith, all.length-is, all.room_is, two, q.fits) in
    record {
      lines_are = q.bytes;
      lines = q.lines;
      text_is = all.text_is ∙ rw empty;
      counts = (within, sym (length-take-le r.length r.bytes within));
    }
