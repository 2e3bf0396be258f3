-- What words a line of a text may have, one after the other.
use Rattle.std.specs.Prelude.{ℕ, ◌-◌, ◌^◌, List, Bool, ◌&&◌, ◌||◌, leb, if◌then◌else◌, Option, Some, None, Result, Ok, Err, is_some, codes}
use Rattle.std.specs.Str.{bytes_eq}
use Rattle.exh_page.specs.declared.page.TheConstants.{CAP_LIMIT}
use Rattle.exh_prefix.specs.declared.prefix.TheConstants.{WARD_BITS_LIMIT}
use Rattle.exh_text.specs.declared.file_line.TheConstants.{COPIES_LIMIT}
use Rattle.exh_text.specs.ByteWord.{bytes_of_word, key_in_range, pair_in_range, spelled_pair}
use Rattle.exh_text.specs.LineFault.{ranged}
use Rattle.exh_text.specs.Numbers.{index_spelled, number_after, number_spelled}
use Rattle.exh_text.specs.declared.line_fault.LineFault.{LineFault}
use Rattle.exh_text.specs.declared.line_fault.LineFault.TheVariants.{Syntax, Range}
use Rattle.exh_text.specs.declared.expect.Expect.{Expect}
use Rattle.exh_text.specs.declared.expect.Expect.TheVariants.{File, Cap, Wards, Copies, Keyer, Moves, Keyword, Request, Client, Copy, Verb, OnlyRequest, OnlyKey, Key, SwapKey, Old, Value, CopyWardIndex, WardIndex, Index, TwoNumbers, Number, End}

-- ---- the keywords of a script's later lines, and what comes behind each

abbrev pub after_view : List ℕ → Option Expect
after_view word =
    if bytes_eq word (codes "send") || bytes_eq word (codes "restart") || bytes_eq word (codes "show") then Some Number
    else (if bytes_eq word (codes "page") then Some TwoNumbers
    else (if bytes_eq word (codes "inflight") then Some End else None))

abbrev pub is_change : List ℕ → Bool
is_change word = bytes_eq word (codes "split") || bytes_eq word (codes "merge") || bytes_eq word (codes "combine")

abbrev pub after_keyword : List ℕ → Option Expect
after_keyword word =
    if bytes_eq word (codes "begin") then Some Request
    else (if bytes_eq word (codes "hop") then Some OnlyRequest
    else (if is_change word then Some TwoNumbers
    else (if bytes_eq word (codes "deliver") then Some CopyWardIndex else after_view word)))

abbrev pub is_verb : List ℕ → Bool
is_verb word = bytes_eq word (codes "get") || bytes_eq word (codes "put") || bytes_eq word (codes "del") || bytes_eq word (codes "swap")

-- ---- why a word can't stand where it stands

abbrev pub fault_unless : Bool → Option LineFault
fault_unless right = if right then None else Some Syntax

-- it must spell a number from the least to the greatest
abbrev pub fault_in : ℕ → ℕ → Option ℕ → Option LineFault
fault_in least greatest None = Some Syntax
fault_in least greatest (Some number) = if leb least number && leb number greatest then None else Some Range

abbrev pub fault_of : {T : Type 0} → Result T LineFault → Option LineFault
fault_of (Ok read) = None
fault_of (Err fault) = Some fault

-- any number
abbrev pub greatest : ℕ
greatest = 2 ^ 32 - 1

-- of a word of a `file` line
abbrev pub fault_of_file_word : Expect → List ℕ → Option LineFault
fault_of_file_word File word = fault_unless (bytes_eq word (codes "file"))
fault_of_file_word Cap word = fault_in 1 CAP_LIMIT (number_after (codes "cap=") word)
fault_of_file_word Wards word = fault_in 0 WARD_BITS_LIMIT (number_after (codes "wards=") word)
fault_of_file_word Copies word = fault_in 1 COPIES_LIMIT (number_after (codes "copies=") word)
fault_of_file_word Keyer word = fault_unless (bytes_eq word (codes "keyer=sha") || bytes_eq word (codes "keyer=plain"))
fault_of_file_word Moves word = fault_unless (bytes_eq word (codes "moves=yes"))
fault_of_file_word other word = Some Syntax

-- of any word
abbrev pub fault_of_word : Expect → List ℕ → Option LineFault
fault_of_word Keyword word = fault_unless (is_some (after_keyword word))
fault_of_word Request word = fault_in 1 greatest (number_after (codes "r") word)
fault_of_word OnlyRequest word = fault_in 1 greatest (number_after (codes "r") word)
fault_of_word Client word = fault_in 1 greatest (number_after (codes "c") word)
fault_of_word Copy word = fault_in 0 greatest (number_spelled word)
fault_of_word Verb word = fault_unless (is_verb word)
fault_of_word OnlyKey word = fault_of (ranged key_in_range (bytes_of_word word))
fault_of_word Key word = fault_of (ranged key_in_range (bytes_of_word word))
fault_of_word SwapKey word = fault_of (ranged key_in_range (bytes_of_word word))
fault_of_word Old word = fault_of (ranged pair_in_range (spelled_pair (codes "k") word))
fault_of_word Value word = fault_of (ranged pair_in_range (spelled_pair (codes "k") word))
fault_of_word CopyWardIndex word = fault_in 0 greatest (number_spelled word)
fault_of_word WardIndex word = fault_in 0 greatest (number_spelled word)
fault_of_word Index word = fault_unless (is_some (index_spelled word))
fault_of_word TwoNumbers word = fault_in 0 greatest (number_spelled word)
fault_of_word Number word = fault_in 0 greatest (number_spelled word)
fault_of_word other word = fault_of_file_word other word

-- ---- what comes behind a word

-- whatever it is
abbrev pub after_word : Expect → Expect
after_word File = Cap
after_word Cap = Wards
after_word Wards = Copies
after_word Copies = Keyer
after_word Keyer = Moves
after_word Request = Client
after_word Client = Copy
after_word Copy = Verb
after_word Key = Value
after_word SwapKey = Old
after_word Old = Value
after_word CopyWardIndex = WardIndex
after_word WardIndex = Index
after_word TwoNumbers = Number
after_word other = End

abbrev pub or_end : Option Expect → Expect
or_end None = End
or_end (Some next) = next

abbrev pub next_word : Expect → List ℕ → Expect
next_word Keyword word = or_end (after_keyword word)
next_word Verb word = if bytes_eq word (codes "put") then Key else (if bytes_eq word (codes "swap") then SwapKey else OnlyKey)
next_word other word = after_word other
