-- How at most two wrong symbols are found, as the crate header_patterns defines it (02, request 11). Definitions only.
pub use Rattle.header_patterns.specs.Decoder.{digit, cell}
unfoldable pub use Rattle.header_patterns.specs.Decoder.{products, quotients, roots, sixths, places, syndromes, checks}
unfoldable pub use Rattle.header_patterns.specs.Decoder.{lifted, one, both, from_root, from_sums, two, by_determinant, from_values, located}
