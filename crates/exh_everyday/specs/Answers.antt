-- What the everyday commands print of what the library answers, and the statuses behind it.
use Rattle.std.specs.Prelude.{ℕ, Bool, true, false, List, [], ◌∷◌, ◌++◌, codes, Option, None, Some}
use Rattle.hex.specs.Hex.{encode_lower}
use Rattle.exh_text.specs.Contents.{on_line}
use Rattle.exh_text.specs.Printing.{printed}
use Rattle.exh_transfer.specs.declared.Put.{Put}
use Rattle.exh_transfer.specs.declared.Put.TheVariants as put
use Rattle.exh_transfer.specs.declared.PutNew.{PutNew}
use Rattle.exh_transfer.specs.declared.PutNew.TheVariants as put_new
use Rattle.exh_transfer.specs.declared.Swap.{Swap}
use Rattle.exh_transfer.specs.declared.Swap.TheVariants as swap
use Rattle.exh_transfer.specs.declared.Status.{Status}
use Rattle.exh_transfer.specs.declared.Status.TheVariants.{Done, Missing}
use Rattle.exh_everyday.specs.declared.answer.Answer.{Answer}
use Rattle.exh_everyday.specs.declared.answer.Answer.TheVariants.{New, Was, Full, Exists, Absent, Swapped, Differs}

-- ---- bytes

-- a value alone: its bytes as they are, or in hexadecimal digits, two a byte
abbrev pub shown : Bool → List ℕ → List ℕ
shown true bytes = encode_lower bytes
shown false bytes = bytes

-- a key or a value in a list: a word of a text of pairs, or hexadecimal digits
abbrev pub listed : Bool → List ℕ → List ℕ
listed true bytes = encode_lower bytes
listed false bytes = printed bytes

-- ---- the answer to a change of one key

abbrev pub put_answer : Put → Answer
put_answer put.New = New
put_answer (put.Was value) = Was value
put_answer put.Full = Full

abbrev pub put_new_answer : PutNew → Answer
put_new_answer put_new.New = New
put_new_answer (put_new.Is value) = Exists
put_new_answer put_new.Full = Full

-- of a value that is replaced or taken out, if there is one
abbrev pub was_answer : Option (List ℕ) → Answer
was_answer (Some value) = Was value
was_answer None = Absent

abbrev pub swap_answer : Swap → Answer
swap_answer swap.Swapped = Swapped
swap_answer (swap.Differs value) = Differs value
swap_answer swap.None = Absent

abbrev pub answer_words : Bool → Answer → List ℕ
answer_words hex New = codes "new"
answer_words hex (Was value) = codes "was " ++ shown hex value
answer_words hex Full = codes "full"
answer_words hex Exists = codes "exists"
answer_words hex Absent = codes "none"
answer_words hex Swapped = codes "swapped"
answer_words hex (Differs value) = codes "differs " ++ shown hex value

abbrev pub answer_line : Bool → Answer → List ℕ
answer_line hex answer = on_line (answer_words hex answer)

-- the change is made, or isn't
abbrev pub answer_status : Answer → Status
answer_status New = Done
answer_status (Was value) = Done
answer_status Full = Missing
answer_status Exists = Missing
answer_status Absent = Missing
answer_status Swapped = Done
answer_status (Differs value) = Missing

-- ---- the values of keys

-- of one key, with or without the newline
abbrev pub value_text : Bool → Bool → List ℕ → List ℕ
value_text true hex value = shown hex value
value_text false hex value = on_line (shown hex value)

-- of several the line of each that is there, with words between key and value
abbrev pub pair_line : List ℕ → Bool → List ℕ × List ℕ → List ℕ
pair_line words hex pair = on_line (listed hex pair.0 ++ (words ++ listed hex pair.1))

-- all keys are there, or some are absent
abbrev pub found_status : {K : Type 0} → List K → Status
found_status [] = Done
found_status (key ∷ keys) = Missing
