-- The line that says how far work is.
use Rattle.std.specs.Prelude.{ℕ, ◌-◌, ◌/◌, ◌%◌, ◌==◌, ◌&&◌, not, Bool, if◌then◌else◌, List, [], ◌∷◌, ◌++◌, length, count_by, decimal, codes, Option, None, Some}
use Rattle.exh_stream.specs.declared.work.TheConstants.{BLOCK_LEN, NEWLINE}
use Rattle.exh_stream.specs.declared.work.Unit.{Unit}
use Rattle.exh_stream.specs.declared.work.Unit.TheVariants.{BlocksRead, BlocksWritten, PairsRead}
use Rattle.exh_stream.specs.declared.work.Work.{Work}
use Rattle.exh_stream.specs.declared.storm_counts.StormCounts.{StormCounts}

-- how much these bytes add: their number, or that of their newlines
abbrev pub amount_of : Unit → List ℕ → ℕ
amount_of BlocksRead bytes = length bytes
amount_of BlocksWritten bytes = length bytes
amount_of PairsRead bytes = count_by (λ byte. byte == NEWLINE) bytes

-- how many there are in so much: whole blocks, or lines behind the first
abbrev pub count_of : Unit → ℕ → ℕ
count_of BlocksRead amount = amount / BLOCK_LEN
count_of BlocksWritten amount = amount / BLOCK_LEN
count_of PairsRead amount = amount - 1

abbrev pub unit_words : Unit → List ℕ
unit_words BlocksRead = codes " blocks read"
unit_words BlocksWritten = codes " blocks written"
unit_words PairsRead = codes " pairs read"

-- whether a comma stands before the last so many digits
abbrev pub has_comma : ℕ → Bool
has_comma count = not (count == 0) && (count % 3 == 0)

-- a digit, and the comma behind it, where so many digits follow
abbrev pub digit_text : ℕ → ℕ → List ℕ
digit_text digit count = if has_comma count then digit ∷ 44 ∷ [] else digit ∷ []

-- digits, with a comma between each three, counted from the right
abbrev pub in_threes : List ℕ → List ℕ
in_threes [] = []
in_threes (digit ∷ digits) = digit_text digit (length digits) ++ in_threes digits

abbrev pub number_text : ℕ → List ℕ
number_text number = in_threes (decimal number)

-- of how many, where that is known
abbrev pub of_text : Option ℕ → List ℕ
of_text None = []
of_text (Some of) = codes " of " ++ number_text of

-- from the left edge on, with what finds no room in the line cut off; and nothing behind it
abbrev pub begun_text : List ℕ
begun_text = codes "\r\u{1b}[?7lexhash: "

abbrev pub ended_text : List ℕ
ended_text = codes "\u{1b}[K\u{1b}[?7h"

-- the line of work of which so much is done
abbrev pub line_text : Work → ℕ → List ℕ
line_text work amount = begun_text ++ number_text (count_of work.unit amount) ++ of_text work.of ++ unit_words work.unit ++ ended_text

-- the line of a storm that is so far
abbrev pub storm_text : StormCounts → List ℕ
storm_text counts = begun_text ++ number_text counts.calls ++ codes " calls answered, " ++ number_text counts.merges ++ codes " merges, " ++ number_text counts.notices ++ (codes " notices carried" ++ ended_text)
