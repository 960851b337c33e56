-- The items of word 72: tables 17 to 20 of the DFCB, item by item, each with the book's description (01, "Word 72 and its items").
-- Neighbouring places with one description are one item, and so are the several rows of one value. Definitions only.
use Rattle.std.specs.Prelude.{List, [], ◌∷◌, ℕ, suc, ◌-◌}
use Rattle.word72_items.specs.declared.Form.{Form}
use Rattle.word72_items.specs.declared.Form.TheVariants.{Count, TwelveBit, Flags, Number, Time, Fill}
use Rattle.word72_items.specs.declared.Item.{Item}

-- the places of an item, its first and its last
pub record Places : Type 0 where
  pub first : ℕ
  pub last : ℕ

infix 80 ◌to◌
abbrev pub ◌to◌ : ℕ → ℕ → Places
a to b = record { first = a; last = b }

infix 70 ◌is◌
abbrev pub ◌is◌ : Places → Form → Item
s is f = record { form = f; first = s.first; length = suc s.last - s.first }

-- Table 17: major frame (0)
unfoldable pub table17 : List Item
table17 =
    0 to 3 is Count  -- Euler Parameter 1 (EPA 1)
    ∷ 4 to 7 is Count  -- Euler Parameter 2 (EPA 2)
    ∷ 8 to 11 is Count  -- Euler Parameter 3 (EPA 3)
    ∷ 12 to 15 is Count  -- Euler Parameter 4 (EPA 4)
    ∷ 16 to 19 is Count  -- Theta BX
    ∷ 20 to 23 is Count  -- Theta BY
    ∷ 24 to 27 is Count  -- Theta BZ
    ∷ 28 to 33 is Number  -- Last SV clock update
    ∷ 34 to 34 is Count  -- Gyro Select Data
    ∷ 35 to 35 is Fill  -- Zero Fill
    ∷ 36 to 41 is Count  -- SV Clock Drift
    ∷ 42 to 47 is Number  -- Time of the last ETM+ On Time
    ∷ 48 to 49 is Fill  -- Zero Fill
    ∷ 50 to 53 is Count  -- X-Position
    ∷ 54 to 57 is Count  -- Y-Position
    ∷ 58 to 61 is Count  -- Z-Position
    ∷ 62 to 65 is Count  -- X-Velocity
    ∷ 66 to 69 is Count  -- Y-Velocity
    ∷ 70 to 73 is Count  -- Z-Velocity
    ∷ 74 to 74 is Count  -- Black Body Temperature (Isolated)
    ∷ 75 to 75 is Count  -- CFPA Heater Current
    ∷ 76 to 76 is Count  -- Calibration Shutter Flag Temperature
    ∷ 77 to 77 is Count  -- Backup Shutter Flag Temperature
    ∷ 78 to 78 is Count  -- Black Body Temperature (Control)
    ∷ 79 to 79 is Count  -- Baffle Temperature (Heater)
    ∷ 80 to 80 is Count  -- CFPA Control Temperature
    ∷ 81 to 81 is Count  -- Mux 1 or 2 Electronic Temperature or Mux 1 Electronics Temperature
    ∷ 82 to 82 is Count  -- Mux 1 or 2 Power Supply Temperature or Mux 1 Power Supply Temperature
    ∷ 83 to 83 is Count  -- Cal Lamp 2 Current or Mux 2 Electronics Temperature
    ∷ 84 to 89 is Number  -- Time of the last ETM+ Off Time
    ∷ 90 to 95 is Fill  -- Zero Fill
    ∷ 96 to 102 is Time  -- Spacecraft ID and time code
    ∷ 103 to 103 is Fill  -- Bits 0-8 = Zeroes
    ∷ 104 to 107 is Fill  -- Zero Fill
    ∷ 108 to 109 is TwelveBit  -- ADS-X Temp 1
    ∷ 110 to 111 is TwelveBit  -- ADS-Y Temp 2
    ∷ 112 to 113 is TwelveBit  -- ADS-Z Temp 3
    ∷ 114 to 115 is TwelveBit  -- A/D Temp - ADS Electronics
    ∷ 116 to 117 is Count  -- A/D Ground Reference
    ∷ 118 to 127 is Fill  -- Zero Fill
    ∷ []

-- Table 18: major frame (1)
unfoldable pub table18 : List Item
table18 =
    0 to 3 is Count  -- Euler Parameter 1 (EPA 1)
    ∷ 4 to 7 is Count  -- Euler Parameter 2 (EPA 2)
    ∷ 8 to 11 is Count  -- Euler Parameter 3 (EPA 3)
    ∷ 12 to 15 is Count  -- Euler Parameter 4 (EPA 4)
    ∷ 16 to 19 is Count  -- X-Position
    ∷ 20 to 23 is Count  -- Y-Position
    ∷ 24 to 27 is Count  -- Z-Position
    ∷ 28 to 31 is Count  -- X-Velocity
    ∷ 32 to 35 is Count  -- Y-Velocity
    ∷ 36 to 39 is Count  -- Z-Velocity
    ∷ 40 to 73 is Fill  -- Zero Fill
    ∷ 74 to 74 is Count  -- Black Body Temperature (Isolated)
    ∷ 75 to 75 is Count  -- CFPA Heater Current
    ∷ 76 to 76 is Count  -- Calibration Shutter Flag Temperature
    ∷ 77 to 77 is Count  -- Backup Shutter Flag Temperature
    ∷ 78 to 78 is Count  -- Black Body Temperature (Control)
    ∷ 79 to 79 is Count  -- Baffle Temperature (Heater)
    ∷ 80 to 80 is Count  -- CFPA Control Temperature
    ∷ 81 to 81 is Count  -- Cal Lamp 1 Current or Mux 2 Power Supply Temperature
    ∷ 82 to 82 is Flags  -- Serial Word J
    ∷ 83 to 83 is Flags  -- Serial Word K
    ∷ 84 to 95 is Fill  -- Zero Fill
    ∷ 96 to 103 is Count  -- Major frame identifier 00000001
    ∷ 104 to 107 is Fill  -- Zero Fill
    ∷ 108 to 109 is TwelveBit  -- ADS-X Temp 1
    ∷ 110 to 111 is TwelveBit  -- ADS-Y Temp 2
    ∷ 112 to 113 is TwelveBit  -- ADS-Z Temp 3
    ∷ 114 to 115 is TwelveBit  -- A/D Temp - ADS Electronics
    ∷ 116 to 117 is Count  -- A/D Ground Reference
    ∷ 118 to 127 is Fill  -- Zero Fill
    ∷ []

-- Table 19: major frame (2)
unfoldable pub table19 : List Item
table19 =
    0 to 3 is Count  -- Euler Parameter 1 (EPA 1)
    ∷ 4 to 7 is Count  -- Euler Parameter 2 (EPA 2)
    ∷ 8 to 11 is Count  -- Euler Parameter 3 (EPA 3)
    ∷ 12 to 15 is Count  -- Euler Parameter 4 (EPA 4)
    ∷ 16 to 16 is Count  -- MEM Heat Sink Power Supply #2
    ∷ 17 to 17 is Count  -- Silicon Focal-Plane Assembly Temp.
    ∷ 18 to 18 is Fill  -- Zero Fill
    ∷ 19 to 19 is Count  -- Baffle Temperature (Tube)
    ∷ 20 to 20 is Count  -- MEM Heat Sink Power Supply #1
    ∷ 21 to 21 is Count  -- Cold FPA Monitor Temperature
    ∷ 22 to 22 is Count  -- Baffle Temperature (Support)
    ∷ 23 to 23 is Count  -- Calibration Lamp Housing Temperature
    ∷ 24 to 24 is Count  -- Scan-Line Corrector Temperature
    ∷ 25 to 25 is Count  -- Calibration Shutter Hub Temperature
    ∷ 26 to 26 is Count  -- Ambient Preamp Temperature (High Channels)
    ∷ 27 to 27 is Count  -- Band 4 Post Amp Temperature
    ∷ 28 to 28 is Fill  -- Spare Zero Fill
    ∷ 29 to 29 is Count  -- Band 7 Preamp Temperature
    ∷ 30 to 30 is Count  -- Ambient Preamp Temperature (Low Channels)
    ∷ 31 to 31 is Flags  -- Serial Word A
    ∷ 32 to 32 is Flags  -- Serial Word B
    ∷ 33 to 33 is Flags  -- Serial Word C
    ∷ 34 to 34 is Flags  -- Serial Word D
    ∷ 35 to 35 is Flags  -- Serial Word E
    ∷ 36 to 36 is Flags  -- Serial Word F
    ∷ 37 to 37 is Flags  -- Serial Word G
    ∷ 38 to 38 is Flags  -- Serial Word H
    ∷ 39 to 39 is Flags  -- Serial Word I
    ∷ 40 to 40 is Count  -- Primary Mirror Temperature
    ∷ 41 to 41 is Count  -- Primary Mirror Mask Temperature
    ∷ 42 to 42 is Count  -- Secondary Mirror Temperature
    ∷ 43 to 43 is Count  -- Secondary Mirror Mask Temperature
    ∷ 44 to 44 is Count  -- Telescope Housing Temperature
    ∷ 45 to 45 is Count  -- Telescope Baseplate Temperature
    ∷ 46 to 46 is Count  -- Pan Band Post Amplifier Temperature
    ∷ 47 to 49 is Fill  -- Zero Fill
    ∷ 50 to 53 is Count  -- X-Position
    ∷ 54 to 57 is Count  -- Y-Position
    ∷ 58 to 61 is Count  -- Z-Position
    ∷ 62 to 65 is Count  -- X-Velocity
    ∷ 66 to 69 is Count  -- Y-Velocity
    ∷ 70 to 73 is Count  -- Z-Velocity
    ∷ 74 to 74 is Count  -- Black Body Temperature (Isolated)
    ∷ 75 to 75 is Count  -- CFPA Heater Current
    ∷ 76 to 76 is Count  -- Calibration Shutter Flag Temperature
    ∷ 77 to 77 is Count  -- Backup Shutter Flag Temperature
    ∷ 78 to 78 is Count  -- Black Body Temperature (Control)
    ∷ 79 to 79 is Count  -- Baffle Temperature (Heater)
    ∷ 80 to 80 is Count  -- CFPA Control Temperature
    ∷ 81 to 81 is Flags  -- Serial Word L
    ∷ 82 to 82 is Flags  -- Serial Word M
    ∷ 83 to 83 is Flags  -- Serial Word N
    ∷ 84 to 84 is Flags  -- Serial Word P
    ∷ 85 to 95 is Fill  -- Zero Fill
    ∷ 96 to 103 is Count  -- Major frame identifier 00000010
    ∷ 104 to 107 is Fill  -- Zero Fill
    ∷ 108 to 109 is TwelveBit  -- ADS-X Temp 1
    ∷ 110 to 111 is TwelveBit  -- ADS-Y Temp 2
    ∷ 112 to 113 is TwelveBit  -- ADS-Z Temp 3
    ∷ 114 to 115 is TwelveBit  -- A/D Temp - ADS Electronics
    ∷ 116 to 117 is Count  -- A/D Ground Reference
    ∷ 118 to 127 is Fill  -- Zero Fill
    ∷ []

-- Table 20: major frame (3)
unfoldable pub table20 : List Item
table20 =
    0 to 3 is Count  -- Euler Parameter 1 (EPA 1)
    ∷ 4 to 7 is Count  -- Euler Parameter 2 (EPA 2)
    ∷ 8 to 11 is Count  -- Euler Parameter 3 (EPA 3)
    ∷ 12 to 15 is Count  -- Euler Parameter 4 (EPA 4)
    ∷ 16 to 19 is Count  -- X-Position
    ∷ 20 to 23 is Count  -- Y-Position
    ∷ 24 to 27 is Count  -- Z-Position
    ∷ 28 to 31 is Count  -- X-Velocity
    ∷ 32 to 35 is Count  -- Y-Velocity
    ∷ 36 to 39 is Count  -- Z-Velocity
    ∷ 40 to 73 is Fill  -- Zero Fill
    ∷ 74 to 74 is Count  -- Black Body Temperature (Isolated)
    ∷ 75 to 75 is Count  -- CFPA Heater Current
    ∷ 76 to 76 is Count  -- Calibration Shutter Flag
    ∷ 77 to 77 is Count  -- Backup Shutter Flag Temperature
    ∷ 78 to 78 is Count  -- Black Body Temperature (Control)
    ∷ 79 to 79 is Count  -- Baffle Temperature
    ∷ 80 to 80 is Count  -- CFPA Control Temperature
    ∷ 81 to 81 is Flags  -- Serial Word Q
    ∷ 82 to 82 is Flags  -- Serial Word R
    ∷ 83 to 83 is Flags  -- Serial Word S
    ∷ 84 to 84 is Count  -- Spacecraft CPUMODE
    ∷ 85 to 95 is Fill  -- Zero Fill
    ∷ 96 to 103 is Count  -- Major frame identifier 00000011
    ∷ 104 to 107 is Fill  -- Zero Fill
    ∷ 108 to 109 is TwelveBit  -- ADS-X Temp 1
    ∷ 110 to 111 is TwelveBit  -- ADS-Y Temp 2
    ∷ 112 to 113 is TwelveBit  -- ADS-Z Temp 3
    ∷ 114 to 115 is TwelveBit  -- A/D Temp - ADS Electronics
    ∷ 116 to 117 is Count  -- A/D Ground Reference
    ∷ 118 to 127 is Fill  -- Zero Fill
    ∷ []
