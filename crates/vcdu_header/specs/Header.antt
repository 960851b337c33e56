-- The bytes of a VCDU header, as the crate header_symbols defines them (02, request 11; the book, 3.1.2.2.1). Definitions only.
pub use Rattle.header_symbols.specs.Header.{halves, protected, symbols, counter, byte_at, placed}
