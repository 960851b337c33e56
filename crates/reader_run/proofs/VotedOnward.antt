-- Voted stretches as parts of a call: their counts added at once, and where they lead. Assumes nothing.
use mathlib.Core.Path.{◌≡◌, refl, sym, ◌∙◌}
use mathlib.Core.Bool.{true, false}
use mathlib.Core.List.{List, [], ◌∷◌}
use Prim.Native.Nat.{ℕ, ◌+◌, ◌*◌, ◌-◌, ◌≤◌, ◌<◌, ◌^◌}
use native.Mathlib.Nat.{add-zero}
use native.Mathlib.Omega.{arith}
use lib.ListN.{length}
use Rattle.labelling.specs.declared.Groups.{Groups}
use Rattle.labelling.specs.declared.Weak.{Weak}
use Rattle.nominal.specs.Effect.{with_placed, with_hunted}
use Rattle.voted.specs.declared.hunting.Passed.{Passed}
use Rattle.voted.specs.declared.placing.Filled.{Filled}
use Rattle.voted.specs.Copies.{Copies}
use Rattle.voted.specs.Stretches.{Placed, Hunted}
use Rattle.voted.specs.Effect.{held, with_voted}
use Rattle.voted.proofs.Agreeing.{weak_few}
use Rattle.voted.proofs.Effect.{placed-plain, hunted_plain}
use Rattle.voted.proofs.Joining.{decided_far}
use Rattle.plain_steps.specs.declared.layers.Layers.{Layers}
use Rattle.plain_steps.specs.Shapes.{state_with}
use Rattle.reader_run.specs.Onward.{Begun, Reaches, VotedGroups, WeakRoom, both_weak}
use Rattle.reader_run.proofs.Onward.{layers_of, plain_onward}

-- ---- counts added at once

-- n bytes more, k stray ones and w groups among them, with these weak counts and first copies
abbrev counted : Groups → ℕ → ℕ → ℕ → Weak → ℕ → ℕ → Groups
counted g n k w weak f s = record {
  bytes = g.bytes + n;
  fill = g.fill + (n - 4 * w - k);
  stray = g.stray + k;
  voted = g.voted + w;
  split = g.split;
  weak = weak;
  «open» = g.«open»;
  first = f;
  second = s;
}

module _ (g : Groups) (n k : ℕ) (gs : List Copies) (w : ℕ) (weak : Weak) (x y : ℕ) (h : VotedGroups gs w weak x y) where
  pub no_groups : w ≡ 0 → counted g n k w g.weak g.first g.second ≡ with_voted g n k gs
  no_groups z = rw h.count-is (go gs (sym h.count-is ∙ z))
    where
      go : (hs : List Copies) → length hs ≡ 0 → counted g n k (length hs) g.weak g.first g.second ≡ with_voted g n k hs
      go [] e = rw (add-zero g.weak.first, add-zero g.weak.second, add-zero g.weak.third)
      go (x ∷ hs) e = absurd (omega arith)

  pub some_groups : (w ≡ 0 → ⊥) → counted g n k w (both_weak g.weak weak) x y ≡ with_voted g n k gs
  some_groups z =
      let some : 0 < length gs = omega (arith, z, h.count-is) in
      rw (h.count-is, h.weak_is, h.first-is (held g) some, h.second_is (held g) some)

-- ---- where they lead

module _ {p : List ℕ} {i q : ℕ} {f : List ℕ} {r : Filled} {f' : List ℕ} (s : Placed p i q f r f') where
  pub placed-groups : {w : ℕ} → w ≡ r.placed - q → VotedGroups s.groups w r.weak r.first r.second
  placed-groups e = record { count-is = omega (arith, s.place_is); weak_is = s.weak_is; first-is = s.first-is; second_is = s.second_is }

  pub placed-weak : length s.groups ≤ 2 ^ 40 → WeakRoom r.weak
  placed-weak h =
      let few = weak_few s.stretch in
      rw s.weak_is record { weak1_max = omega (arith, few.0); weak2_max = omega (arith, few.1); weak3_max = omega (arith, few.2) }

module _ {p : List ℕ} {i : ℕ} {r : Passed} (s : Hunted p i r) where
  pub hunted_groups : VotedGroups s.groups r.count r.weak r.first r.second
  hunted_groups = record { count-is = s.count-is; weak_is = s.weak_is; first-is = s.first-is; second_is = s.second_is }

  pub hunted_weak : length s.groups ≤ 2 ^ 40 → WeakRoom r.weak
  hunted_weak h =
      let few = weak_few s.stretch in
      rw s.weak_is record { weak1_max = omega (arith, few.0); weak2_max = omega (arith, few.1); weak3_max = omega (arith, few.2) }

  pub hunted_far : i + 4 * r.count + r.stray ≤ r.at
  hunted_far = omega (arith, decided_far s.stretch, s.count-is)

module _ {l : Layers} {frame p : List ℕ} {i : ℕ} (b : Begun p i (state_with l frame)) (closed : l.groups.«open» ≡ 0) where
  pub voted_onward : {r : Filled} {frame' : List ℕ} (s : Placed p i l.framing.placed frame r frame') {g : Groups}
      → l.framing.hunting ≡ false → l.framing.placed ≤ 127 → g ≡ with_voted l.groups (r.at - i) r.stray s.groups
      → Reaches p i (state_with l frame) r.at (state_with (layers_of g (with_placed l.framing (length s.groups)) l.runs) frame')
  voted_onward s h few e =
      rw (e, s.frame_is)
      (plain_onward
      (λ vote decides a.
      placed-plain decides {a = a} s.stretch (state_with l frame) record { closed = closed; places = h; room = omega (arith, s.place_is, s.room few) })
      refl refl b)

  pub hunted_onward : {r : Passed} (s : Hunted p i r) {g : Groups} → l.framing.hunting ≡ true → l.framing.matched ≡ 0
      → g ≡ with_voted l.groups (r.at - i) r.stray s.groups
      → Reaches p i (state_with l frame) r.at (state_with (layers_of g (with_hunted l.framing r.count) l.runs) frame)
  hunted_onward s h m e =
      rw (e, s.count-is)
      (plain_onward
      (λ vote decides a.
      hunted_plain decides {a = a} s.stretch (state_with l frame) record { closed = closed; hunts = h; unmatched = m; none_begins = s.none_begins })
      refl refl b)
