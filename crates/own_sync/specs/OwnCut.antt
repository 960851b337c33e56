-- Minor frames where they lie on a reel (DFCB tables 10-1 and 10-2): the words are cut as in `labelling`, except that a hunt ends before FA F3 20, so
-- that these are places 0 to 2 of the frame that begins there, and every word still stands in one piece. Where the word after them is FA, as after
-- a lead-in, or where none follows, the hunt ends behind them, as 01 has it. Definitions only.
use Rattle.std.specs.Prelude.{Bool, true, false, List, [], ◌∷◌, map, ℕ, zero, suc, ◌+◌, leb, length, take, drop}
use Rattle.base.specs.Format.{sync_word, minor_frame}
use Rattle.base.specs.Lists.{concat_map, count_by}
use Rattle.labelling.specs.declared.Word.{Word}
use Rattle.labelling.specs.Cutting.{CutOff, cut_by}
use Rattle.labelling.specs.MinorFrames.{is_word, synced, Mode, hunting, placing, Piece, hunted, frame_piece, frame_of}

-- how many words stand before the first FA, F3, 20 in a row; all there are where it stands nowhere
abbrev pub before_sync : List Word → ℕ
before_sync [] = 0
before_sync (w ∷ ws) = elim (synced (w ∷ ws)) [ true ↦ 0 | false ↦ suc (before_sync ws) ]

-- these words follow FA F3 20: does a hunt end behind the three? It does where the next word is FA, and where there is none
abbrev pub ends_behind : List Word → Bool
ends_behind [] = true
ends_behind (w ∷ ws) = is_word (sync_word 0) w

-- how the cut goes on: it hunts; a frame begins; or one begins that a hunt has found by its own FA F3 20
pub data OwnMode : Type 0 where
  seeks places finds : OwnMode

-- a piece, and whether it is a frame, or the beginning of one, that a hunt has found so
pub record Own : Type 0 where
  pub piece : Piece
  pub found : Bool

abbrev pub own_mode : Mode → OwnMode
own_mode hunting = seeks
own_mode placing = places

-- where a frame begins: 128 words close it, if there are as many
abbrev pub own_frame : Bool → List Word → CutOff OwnMode Word Own
own_frame found ws =
    let c = frame_piece (leb minor_frame (length ws)) ws in
    record { piece = record { piece = c.piece; found = found }; state = own_mode c.state; rest = c.rest }

-- k words of ws stand before FA F3 20: the hunt ends behind the three, or before them. Where it then takes no word, it has found a frame here
abbrev pub hunt_piece : Bool → ℕ → List Word → CutOff OwnMode Word Own
hunt_piece true k ws = record { piece = record { piece = hunted (take (k + 3) ws); found = false }; state = places; rest = drop (k + 3) ws }
hunt_piece false zero ws = own_frame true ws
hunt_piece false (suc k) ws = record { piece = record { piece = hunted (take (suc k) ws); found = false }; state = finds; rest = drop (suc k) ws }

-- the first piece of the words w ∷ ws, begun in mode m
abbrev pub own_piece : OwnMode → Word → List Word → CutOff OwnMode Word Own
own_piece seeks w ws =
    let k = before_sync (w ∷ ws) in
    hunt_piece (ends_behind (drop (k + 3) (w ∷ ws))) k (w ∷ ws)
own_piece places w ws = own_frame false (w ∷ ws)
own_piece finds w ws = own_frame true (w ∷ ws)

-- at the start the reader hunts
unfoldable pub own_cut : List Word → List Own
own_cut ws = cut_by own_piece (length ws) seeks ws

unfoldable pub own_pieces : List Word → List Piece
own_pieces ws = map (λ p. p.piece) (own_cut ws)

-- the list of all closed frames in order
unfoldable pub own_frames : List Word → List (List Word)
own_frames ws = concat_map frame_of (own_pieces ws)

-- how many frames were found by their own FA F3 20
unfoldable pub own_found : List Word → ℕ
own_found ws = count_by (λ p. p.found) (own_cut ws)
