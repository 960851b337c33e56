-- The values of a cycle's records as items of tables 17 to 20: each stands where the book's table has one item of its length and form, so that the
-- counts that 01 asks for are those that a record is made of. Definitions only.
use Rattle.std.specs.Prelude.{◌≡◌, Bool, true, false, ◌&&◌, ℕ, ◌+◌, ◌*◌, eqb}
use Rattle.base.specs.Ranges.{each}
use Rattle.word72_items.specs.declared.Form.{Form}
use Rattle.word72_items.specs.declared.Form.TheVariants.{Count, TwelveBit, Flags, Number, Time, Fill}
use Rattle.word72_items.specs.declared.Item.{Item}
use Rattle.word72_items.specs.ItemTable.{item_of, entry}
use Rattle.orbit_ephemeris.specs.Record.{ephemeris_place}

-- forms by 01's names
abbrev pub is_count : Form → Bool
is_count Count = true
is_count TwelveBit = false
is_count Flags = false
is_count Number = false
is_count Time = false
is_count Fill = false

abbrev pub is_twelve_bit : Form → Bool
is_twelve_bit Count = false
is_twelve_bit TwelveBit = true
is_twelve_bit Flags = false
is_twelve_bit Number = false
is_twelve_bit Time = false
is_twelve_bit Fill = false

abbrev pub is_number : Form → Bool
is_number Count = false
is_number TwelveBit = false
is_number Flags = false
is_number Number = true
is_number Time = false
is_number Fill = false

-- the item in which a place of a column of kind k lies begins there, and has this length and form
abbrev pub begins : (Form → Bool) → ℕ → ℕ → ℕ → Bool
begins form width k place =
    let item : Item = item_of k (entry k place) in
    eqb item.first place && eqb item.length width && form item.form

-- so does each of n values, one after the other from a place on
abbrev pub row : (Form → Bool) → ℕ → ℕ → ℕ → ℕ → Bool
row form width n k place = each (λ i. begins form width k (place + width * i)) 0 n

pub record Items : Type 0 where
  -- in every major frame
  pub parameters : each (λ k. row is_count 4 4 k 0) 0 4 ≡ true
  pub components : each (λ k. row is_count 4 6 k (ephemeris_place k)) 0 4 ≡ true
  pub temperatures : each (λ k. row is_twelve_bit 2 4 k 108) 0 4 ≡ true
  -- in major frame 0
  pub drifts : row is_count 4 3 0 16 ≡ true
  pub update : row is_number 6 1 0 28 ≡ true
  -- the three terms of the clock's drift are one item of six bytes
  pub terms : row is_count 6 1 0 36 ≡ true
