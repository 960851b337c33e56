-- The cycles that a list of major frames gives: four frames of the kinds 0, 1, 2, 3 in a row are one (02, request 7). Definitions only.
use Rattle.std.specs.Prelude.{Bool, true, false, cond, ◌&&◌, List, [], ◌∷◌, ℕ, zero, suc, take}
use Rattle.base.specs.Lists.{concat_map}
use Rattle.cycle.specs.Cycle.{is_frame}

-- the first n frames are there, and are of the kinds k, k + 1, ..
abbrev pub in_kinds : ℕ → ℕ → ℕ → List (List ℕ) → Bool
in_kinds y k zero frames = true
in_kinds y k (suc n) [] = false
in_kinds y k (suc n) (f ∷ frames) = is_frame y k f && in_kinds y (suc k) n frames

-- frames end to end
abbrev pub joined_frames : List (List ℕ) → List ℕ
joined_frames frames = concat_map (λ f. f) frames

-- wherever a cycle begins, its four frames end to end; two of them never overlap, as no frame has two kinds
abbrev pub cycles_in : ℕ → List (List ℕ) → List (List ℕ)
cycles_in y [] = []
cycles_in y (f ∷ frames) =
    cond (in_kinds y 0 4 (f ∷ frames)) (joined_frames (take 4 (f ∷ frames)) ∷ cycles_in y frames) (cycles_in y frames)
