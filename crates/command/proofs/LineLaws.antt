-- The lines of a text are its parts between line feeds. Assumes nothing.
use Rattle.std.proofs.Common.{◌≡◌, refl, ap, ◌∙◌, Bool, true, false, cond, List, [], ◌∷◌, ℕ, zero, suc, get_or, Option, Some, None}
use Rattle.std.specs.List.{slice_split, slice_get, onto_first}
use Rattle.std.specs.Option.{unwrap_or, option_map}
use Rattle.std.proofs.lemmas.Option.{unwrap_or-slice_get}
use lib.Dec.{eqb}
use Rattle.command.specs.Lines.{first_line, after_line, line_in}

abbrev pub is_feed : ℕ → Bool
is_feed b = eqb b 0x0a

abbrev parts : List ℕ → List (List ℕ)
parts text = slice_split is_feed text

-- a byte at the front of the first part is in no other
first_with : (b : ℕ) (ps : List (List ℕ)) → get_or (onto_first b ps) 0 [] ≡ b ∷ get_or ps 0 []
first_with b [] = refl
first_with b (p ∷ ps) = refl

later-with : (b : ℕ) (ps : List (List ℕ)) (n : ℕ) → get_or (onto_first b ps) (suc n) [] ≡ get_or ps (suc n) []
later-with b [] n = refl
later-with b (p ∷ ps) n = refl

first_part : (text : List ℕ) → get_or (parts text) 0 [] ≡ first_line text
unfolding first_line
first_part [] = refl
first_part (b ∷ bs) = go (is_feed b) (first_part bs)
  where
    go : (f : Bool) → get_or (parts bs) 0 [] ≡ first_line bs → get_or (cond f ([] ∷ parts bs) (onto_first b (parts bs))) 0 [] ≡ cond f [] (b ∷ first_line bs)
    go true e = refl
    go false e = first_with b (parts bs) ∙ ap (λ (l : List ℕ). b ∷ l) e

none-later : (n : ℕ) → get_or (parts []) (suc n) [] ≡ get_or (parts []) n []
none-later zero = refl
none-later (suc n) = refl

later-part : (text : List ℕ) (n : ℕ) → get_or (parts text) (suc n) [] ≡ get_or (parts (after_line text)) n []
unfolding after_line
later-part [] n = none-later n
later-part (b ∷ bs) n = go (is_feed b) (later-part bs n)
  where
    go : (f : Bool) → get_or (parts bs) (suc n) [] ≡ get_or (parts (after_line bs)) n []
        → get_or (cond f ([] ∷ parts bs) (onto_first b (parts bs))) (suc n) [] ≡ get_or (parts (cond f bs (after_line bs))) n []
    go true e = refl
    go false e = later-with b (parts bs) n ∙ e

part_is : (text : List ℕ) (n : ℕ) → get_or (parts text) n [] ≡ line_in text n
unfolding line_in
part_is text zero = first_part text
part_is text (suc n) = later-part text n ∙ part_is (after_line text) n

pub line_is : (text : List ℕ) (n : ℕ) → unwrap_or (slice_get (slice_split is_feed text) n) [] ≡ line_in text n
line_is text n = unwrap_or-slice_get (parts text) n [] ∙ part_is text n

-- a function of what is there, or of what stands in for it
pub unwrap_or-map : {A B : Type 0} (f : A → B) (o : Option A) (d : A) → f (unwrap_or o d) ≡ unwrap_or (option_map f o) (f d)
unwrap_or-map f None d = refl
unwrap_or-map f (Some a) d = refl
