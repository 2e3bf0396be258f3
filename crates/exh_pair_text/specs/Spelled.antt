-- Bytes as far as a value can have them.
use Rattle.std.specs.Prelude.{ℕ, List, length, nat_le, if◌then◌else◌, Result, Ok, Err}
use Rattle.exh_page.specs.declared.value.TheConstants.{VALUE_LIMIT}
use Rattle.exh_pair_text.specs.declared.spelled.Spelled.{Spelled}
use Rattle.exh_pair_text.specs.declared.spelled.Spelled.TheVariants.{Few, Many}
use Rattle.exh_pair_text.specs.declared.wrong_line.WrongLine.{WrongLine}

-- all of them, or how many there are
unfoldable pub spelled : List ℕ → Spelled
spelled bytes = if nat_le (length bytes) VALUE_LIMIT then Few bytes else Many (length bytes)

abbrev pub all_spelled : Result (List ℕ) WrongLine → Result Spelled WrongLine
all_spelled (Ok bytes) = Ok (spelled bytes)
all_spelled (Err wrong) = Err wrong
