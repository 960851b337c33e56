-- The bytes that the reader is handed for a reel whose frames are found by their own sync: the reel's, and the lead-in of spacing 0 just before the
-- SYNC of each group whose word finds a frame. They are said of the whole reel, and not of calls. Definitions only.
use Rattle.std.specs.Prelude.{Bool, false, cond, List, [], ◌∷◌, ◌++◌, map, ℕ, ltb}
use Rattle.labelling.specs.declared.Word.{Word}
use Rattle.labelling.specs.declared.Word.TheVariants.{Erased}
use Rattle.labelling.specs.Words.{Group, groups, bytes_of, Vote, word_of}
use Rattle.own_sync.specs.OwnCut.{own_found}
use Rattle.own_sync.specs.Relocking.{lead_in_bytes}

-- behind the words ws, the words vs find a frame by its own FA F3 20: the cut of all of them has one more
abbrev pub finds_frame : List Word → List Word → Bool
finds_frame ws vs = ltb (own_found ws) (own_found (ws ++ vs))

-- the words ws end with FA F3 20 that ended a hunt, and the next word decides: any other than FA would find a frame
unfoldable pub awaits_word : List Word → Bool
awaits_word ws = finds_frame ws (Erased ∷ [])

-- ---- where lead-ins stand

-- before none of these bytes
abbrev pub nowhere : List ℕ → List Bool
nowhere bs = map (λ b. false) bs

-- before the first of them, where m says so, and before no other
abbrev pub at_first : Bool → List ℕ → List Bool
at_first m [] = []
at_first m (b ∷ bs) = m ∷ nowhere bs

module _ (vote : Vote) where
  -- behind the words ws stand these groups: of each of their bytes, whether a lead-in is handed before it
  abbrev pub leads_into : List Word → List Group → List Bool
  leads_into ws [] = []
  leads_into ws (g ∷ gs) = at_first (finds_frame ws (word_of vote g)) (bytes_of g) ++ leads_into (ws ++ word_of vote g) gs

  -- of each byte of the reel bs
  unfoldable pub lead_ins : List ℕ → List Bool
  lead_ins bs = leads_into [] (groups bs)

-- the elements xs, with `lead x` before each x that is marked
abbrev pub inserted : {A : Type 0} → (A → List A) → List Bool → List A → List A
inserted lead [] xs = xs
inserted lead (m ∷ ms) [] = []
inserted lead (m ∷ ms) (x ∷ xs) = cond m (lead x) [] ++ (x ∷ inserted lead ms xs)

-- the bytes handed in for the reel bs
unfoldable pub handed_in : Vote → List ℕ → List ℕ
handed_in vote bs = inserted (λ b. lead_in_bytes) (lead_ins vote bs) bs
