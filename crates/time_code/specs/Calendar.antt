-- The years that a time code can be of, and the last day of each, as the crate calendar defines them (02, request 4). Definitions only.
unfoldable pub use Rattle.calendar.specs.Calendar.{in_span, is_leap}
pub use Rattle.calendar.specs.Calendar.{last_day}
