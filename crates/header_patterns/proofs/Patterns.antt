-- One computed test over the 10,276 error patterns of at most two symbols: from its syndrome each is found again. Assumes nothing.
use mathlib.Core.Bool.{Bool, ◌&&◌}
use Prim.Native.Nat.{ℕ, zero, suc, ◌+◌, ◌*◌, ◌^◌}
use lib.Dec.{T, eqb}
use lib.ListN.{get_or}
use Rattle.header_patterns.specs.Field.{◌⊕◌}
use Rattle.header_patterns.specs.Decoder.{products, quotients, roots, sixths, places, syndromes, lifted, one, both, from_root, from_sums, two}
use Rattle.header_patterns.specs.Decoder.{by_determinant, from_values, located}
use Rattle.header_patterns.proofs.Every.{all}

-- whichever at most k of the last n symbols are wrong: so is the number, of which the digits so far are given, and so is the syndrome
unfoldable pub found : ℕ → ℕ → ℕ → ℕ → Bool
found k zero sofar s = eqb (located s) sofar
found zero (suc n) sofar s = eqb (located s) (sofar * 16 ^ suc n)
found (suc k) (suc n) sofar s =
    found (suc k) n (sofar * 16) s && all 15 (λ c. found k n (sofar * 16 + suc c) (get_or syndromes (n * 16 + suc c) 0 ⊕ s))

pub all_found : T (found 2 10 0 0)
unfolding found products quotients roots sixths places syndromes lifted one both from_root from_sums two by_determinant from_values located
all_found = tt
