-- Every worked example holds of the definitions: the checker computes the whole table. Assumes nothing.
use mathlib.Core.Path.{◌≡◌, refl}
use mathlib.Core.List.{map}
use lib.Ieee.{odd, to_bits}
use Rattle.float1750.specs.Codec.{candidate, word_for}
use Rattle.float1750.specs.Codec as number
use Rattle.float1750.specs.Word.{dyadic}
use Rattle.labelling.specs.Words.{byte_vote}
use Rattle.subcom.specs.Readings.{reading}
use Rattle.time_code.specs.Calendar.{in_span, is_leap}
use Rattle.time_code.specs.Fields.{is_time}
use Rattle.word72_items.specs.ItemTable.{layout}
use Rattle.word72_items.specs.Layout.{table17, table18, table19, table20}
use Rattle.worked_examples.specs.Table.{answer_to, table}

pub table-holds : map (λ e. answer_to e.asks) table ≡ map (λ e. e.answer) table
unfolding answer_to byte_vote odd to_bits candidate word_for number.decoded dyadic in_span is_leap is_time reading layout table17 table18 table19 table20
table-holds = refl
