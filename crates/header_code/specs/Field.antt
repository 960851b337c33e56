-- The field of sixteen elements, as the crate header_patterns defines it (02, request 11; the book, B.1 (4)). Definitions only.
pub use Rattle.header_patterns.specs.Field.{◌⊕◌, times_bits, power}
unfoldable pub use Rattle.header_patterns.specs.Field.{times_x, times}
