-- Each layer's test against a wide bound, and its sum: a test that fails refutes the sum, and one that passes leaves room for it. Assumes nothing.
use mathlib.Core.Path.{◌≡◌}
use mathlib.Core.Bool.{Bool, true, false, ◌||◌}
use mathlib.Core.List.{List, [], ◌∷◌}
use Prim.Native.Nat.{ℕ, ◌+◌, ◌*◌, ◌^◌, ◌≤◌}
use native.Mathlib.Omega.{arith}
use lib.Dec.{T, eqb, ltb, leb→le, eqb→eq}
use lib.Ieee.Fits.{and_l, and_r}
use denote.Floats.{passes}
use borrow.Author.Tests.{ltb-false, le-ltb, le-leb}
use Rattle.labelling.specs.declared.Framing.{Framing}
use Rattle.labelling.specs.declared.Groups.{Groups}
use Rattle.labelling.specs.declared.Runs.{Runs}
use Rattle.number_order.specs.Sums.{groups_add, framing_adds, runs_add}
use Rattle.number_order.proofs.Joined.{neither, refuted, joined, Each, passed-each, sum-passes}

-- ---- the groups

-- what the sum's test says in numbers
pub record GroupsFit (g : Groups) : Type 0 where
  pub bytes_max : g.bytes ≤ 2 ^ 40
  pub open_max : g.«open» ≤ 3
  pub sum : g.bytes ≡ g.fill + g.stray + 4 * g.voted + 4 * g.split + g.«open»

pub groups_fit : (g : Groups) → T (groups_add g) → GroupsFit g
groups_fit g h = search (and_l, and_r, leb→le, eqb→eq) depth 6

module _ (wide : ℕ) (g : Groups) where
  abbrev group_counts : List ℕ
  group_counts = g.stray ∷ g.voted ∷ g.split ∷ []

  abbrev groups_wide : Bool
  groups_wide = ltb (2 ^ 40) g.bytes || ltb wide (joined g.fill group_counts) || ltb 3 g.«open»

  pub groups_refused : 2 ^ 40 ≤ wide → groups_wide ≡ true → false ≡ groups_add g
  groups_refused w e = refuted groups_wide (groups_add g) e go
    where
      go : groups_add g ≡ true → groups_wide ≡ false
      go s =
          let f = groups_fit g (passes (groups_add g) s) in
          rw (le-ltb (2 ^ 40) g.bytes f.bytes_max, sum-passes wide g.fill group_counts (omega arith), le-ltb 3 g.«open» f.open_max)

  pub groups_passed : groups_wide ≡ false → (g.bytes ≤ 2 ^ 40) × Each wide (g.fill ∷ group_counts) × (g.«open» ≤ 3)
  groups_passed e =
      let second = neither _ _ e in
      let first = neither _ _ second.0 in
      (ltb-false (2 ^ 40) g.bytes first.0, passed-each wide g.fill group_counts first.1, ltb-false 3 g.«open» second.1)

pub groups_sum : (g : Groups) {x : ℕ} → (g.bytes ≤ 2 ^ 40) → (g.«open» ≤ 3) → x ≡ g.fill + g.stray + 4 * g.voted + 4 * g.split + g.«open»
    → eqb g.bytes x ≡ groups_add g
groups_sum g b o e = rw (le-leb g.bytes (2 ^ 40) b, le-leb g.«open» 3 o, e)

-- ---- the minor frames

pub record FramingFits (words : ℕ) (f : Framing) : Type 0 where
  pub placed_max : f.placed ≤ 127
  pub matched_max : f.matched ≤ 2
  pub sum : words ≡ f.hunted + 128 * (f.good + f.damaged + f.unsynced) + f.placed

pub framing_fits : (words : ℕ) (f : Framing) → T (framing_adds words f) → FramingFits words f
framing_fits words f h = search (and_l, and_r, leb→le, eqb→eq) depth 6

module _ (wide words : ℕ) (f : Framing) where
  abbrev frame_counts : List ℕ
  frame_counts = f.good ∷ f.damaged ∷ f.unsynced ∷ []

  abbrev framing_wide : Bool
  framing_wide = ltb wide (joined f.hunted frame_counts) || ltb 127 f.placed || ltb 2 f.matched

  pub framing_refused : words ≤ wide → framing_wide ≡ true → false ≡ framing_adds words f
  framing_refused w e = refuted framing_wide (framing_adds words f) e go
    where
      go : framing_adds words f ≡ true → framing_wide ≡ false
      go s =
          let fit = framing_fits words f (passes (framing_adds words f) s) in
          rw (
            sum-passes wide f.hunted frame_counts (omega arith),
            le-ltb 127 f.placed fit.placed_max,
            le-ltb 2 f.matched fit.matched_max,
          )

  pub framing_passed : framing_wide ≡ false → Each wide (f.hunted ∷ frame_counts) × (f.placed ≤ 127) × (f.matched ≤ 2)
  framing_passed e =
      let second = neither _ _ e in
      let first = neither _ _ second.0 in
      (passed-each wide f.hunted frame_counts first.0, ltb-false 127 f.placed first.1, ltb-false 2 f.matched second.1)

pub framing_sum : (words : ℕ) (f : Framing) → f.placed ≤ 127 → f.matched ≤ 2
    → eqb words (f.hunted + 128 * (f.good + f.damaged + f.unsynced) + f.placed) ≡ framing_adds words f
framing_sum words f p m = rw (le-leb f.placed 127 p, le-leb f.matched 2 m)

-- ---- the major frames

pub record RunsFit (good : ℕ) (r : Runs) : Type 0 where
  pub building_max : r.building ≤ 127
  pub sum : good ≡ 128 * r.majors + r.broken + r.loose + r.building

pub runs_fit : (good : ℕ) (r : Runs) → T (runs_add good r) → RunsFit good r
runs_fit good r h = search (and_l, and_r, leb→le, eqb→eq) depth 6

module _ (wide good : ℕ) (r : Runs) where
  abbrev run_counts : List ℕ
  run_counts = r.broken ∷ r.loose ∷ []

  abbrev runs_wide : Bool
  runs_wide = ltb wide (joined r.majors run_counts) || ltb 127 r.building

  pub runs-refused : good ≤ wide → runs_wide ≡ true → false ≡ runs_add good r
  runs-refused w e = refuted runs_wide (runs_add good r) e go
    where
      go : runs_add good r ≡ true → runs_wide ≡ false
      go s =
          let fit = runs_fit good r (passes (runs_add good r) s) in
          rw (sum-passes wide r.majors run_counts (omega arith), le-ltb 127 r.building fit.building_max)

  pub runs-passed : runs_wide ≡ false → Each wide (r.majors ∷ run_counts) × (r.building ≤ 127)
  runs-passed e =
      let both = neither _ _ e in
      (passed-each wide r.majors run_counts both.0, ltb-false 127 r.building both.1)

pub runs-sum : (good : ℕ) (r : Runs) → r.building ≤ 127 → eqb good (128 * r.majors + r.broken + r.loose + r.building) ≡ runs_add good r
runs-sum good r b = rw (le-leb r.building 127 b)
