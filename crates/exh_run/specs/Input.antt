-- The keys and the value that a text of standard input gives.
use Rattle.std.specs.Prelude.{◌≡◌, ⊤, ◌⊎◌, ◌+◌, ◌/◌, ℕ, Bool, true, false, nat_le, nat_lt, List, [], ◌∷◌, ◌++◌, length, map, Option, Some, None, Result, Ok, Err, if◌then◌else◌}
use Rattle.hex.specs.Hex.{decode_of}
use Rattle.hex.specs.declared.error.FromHexError.{FromHexError}
use Rattle.exh_job.specs.declared.status.Status.{Status}
use Rattle.exh_job.specs.declared.status.Status.TheVariants.{Refused}
use Rattle.exh_page.specs.declared.value.TheConstants.{VALUE_LIMIT}
use Rattle.exh_text.specs.ByteWord.{bytes_of_word, key_in_range}
use Rattle.exh_text.specs.TextLines.{newline, parts_at}
use Rattle.exh_run.specs.declared.wrong_input.WrongInput.{WrongInput}
use Rattle.exh_run.specs.declared.wrong_input.WrongInput.TheVariants.{Line, LongValue, NoDigits, Memory}

-- ---- a text without its last newline

-- what stands before a newline that ends the text, of which no more is left off, or a text that ends in none
abbrev pub IsBeforeNewline : List ℕ → List ℕ → Type 0
IsBeforeNewline text front = (text ≡ front ++ newline ∷ []) ⊎ ((front ≡ text) × ((other : List ℕ) → text ≡ other ++ newline ∷ [] → ⊥))

-- ---- keys

-- the bytes that hexadecimal digits spell, two a byte, of either case
abbrev pub bytes_decoded : Result (List ℕ) FromHexError → Option (List ℕ)
bytes_decoded (Ok bytes) = Some bytes
bytes_decoded (Err error) = None

-- the bytes that a line stands for: those of a word of a text of pairs, or of its digits
abbrev pub bytes_of_line : Bool → List ℕ → Option (List ℕ)
bytes_of_line false line = bytes_of_word line
bytes_of_line true line = bytes_decoded (decode_of line)

-- a key has 1 to 64 bytes
abbrev pub if_key : Option (List ℕ) → Option (List ℕ)
if_key None = None
if_key (Some bytes) = if key_in_range bytes then Some bytes else None

abbrev pub key_of_line : Bool → List ℕ → Option (List ℕ)
key_of_line is_hex line = if_key (bytes_of_line is_hex line)

-- the lines of a text, of which the last may lack its newline; an empty text has none
abbrev pub AreLines : List ℕ → List (List ℕ) → Type 0
AreLines text lines = ((text ≡ []) × (lines ≡ [])) ⊎ ((front : List ℕ) × ((text ≡ [] → ⊥) × (IsBeforeNewline text front × (lines ≡ parts_at newline front))))

-- each line is a key, and these are they
abbrev pub AreKeys : Bool → List (List ℕ) → List (List ℕ) → Type 0
AreKeys is_hex lines keys = map (key_of_line is_hex) lines ≡ map Some keys

-- the line of this number, from 1 on, is no key, and all before it are
pub record IsFirstOther (is_hex : Bool) (lines : List (List ℕ)) (number : ℕ) : Type 0 where
  pub before : List (List ℕ)
  pub line : List ℕ
  pub behind : List (List ℕ)
  pub are : lines ≡ before ++ line ∷ behind
  pub keys : List (List ℕ)
  pub are_keys : AreKeys is_hex before keys
  pub other : key_of_line is_hex line ≡ None
  pub counted : number ≡ length before + 1

-- a line is no key, or memory is refused
abbrev pub IsNoKeys : Bool → List (List ℕ) → WrongInput → Type 0
IsNoKeys is_hex lines (Line number) = IsFirstOther is_hex lines number
IsNoKeys is_hex lines Memory = ⊤
IsNoKeys is_hex lines other = ⊥

-- of a text
abbrev pub AreKeysOf : Bool → List ℕ → List (List ℕ) → Type 0
AreKeysOf is_hex text keys = (lines : List (List ℕ)) × (AreLines text lines × AreKeys is_hex lines keys)

abbrev pub HasNoKeys : Bool → List ℕ → WrongInput → Type 0
HasNoKeys is_hex text wrong = (lines : List (List ℕ)) × (AreLines text lines × IsNoKeys is_hex lines wrong)

-- ---- a value

-- a value has at most 128 bytes
abbrev pub if_value : List ℕ → Result (List ℕ) WrongInput
if_value bytes = if nat_le (length bytes) VALUE_LIMIT then Ok bytes else Err (LongValue (length bytes))

abbrev pub value_decoded : Result (List ℕ) FromHexError → Result (List ℕ) WrongInput
value_decoded (Ok bytes) = if_value bytes
value_decoded (Err error) = Err NoDigits

-- the value that bytes are, or that digits spell; of too many digits, whatever they are, it is too long
abbrev pub value_of_bytes : Bool → List ℕ → Result (List ℕ) WrongInput
value_of_bytes false bytes = if_value bytes
value_of_bytes true digits = if nat_lt VALUE_LIMIT (length digits / 2) then Err (LongValue (length digits / 2)) else value_decoded (decode_of digits)

-- what is taken of a text: all of it, by `--raw`, or what stands before its last newline
abbrev pub IsTaken : Bool → List ℕ → List ℕ → Type 0
IsTaken true text taken = taken ≡ text
IsTaken false text taken = IsBeforeNewline text taken

abbrev pub IsValueOf : Bool → Bool → List ℕ → Result (List ℕ) WrongInput → Type 0
IsValueOf is_raw is_hex text value = (taken : List ℕ) × (IsTaken is_raw text taken × (value ≡ value_of_bytes is_hex taken))

-- ---- what is read of a text, or the status where it gives none

abbrev pub KeysEnd : {V : Type 0} → Bool → List ℕ → (V → List (List ℕ)) → Result V Status → Type 0
KeysEnd is_hex text items (Ok keys) = AreKeysOf is_hex text (items keys)
KeysEnd is_hex text items (Err status) = (status ≡ Refused) × ((wrong : WrongInput) × HasNoKeys is_hex text wrong)

abbrev pub ValueEnds : Bool → Bool → List ℕ → Result (List ℕ) Status → Type 0
ValueEnds is_raw is_hex text (Ok value) = IsValueOf is_raw is_hex text (Ok value)
ValueEnds is_raw is_hex text (Err status) = (status ≡ Refused) × ((wrong : WrongInput) × IsValueOf is_raw is_hex text (Err wrong))
