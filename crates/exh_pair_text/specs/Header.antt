-- The columns that a header gives: those of two names, or, where none are asked for, both of two.
use Rattle.std.specs.Prelude.{ℕ, ◌+◌, ◌==◌, Bool, List, [], ◌∷◌, length, count_by, nat_lt, if◌then◌else◌, Option, Some, None, Result, Ok, Err}
use Rattle.std.specs.Borrow.{Bor}
use Rattle.std.specs.Str.{bytes_eq}
use Rattle.exh_pair_text.specs.Fields.{fields_in}
use Rattle.exh_pair_text.specs.declared.wrong_record.WrongRecord.{WrongRecord}
use Rattle.exh_pair_text.specs.declared.columns.Columns.{Columns}
use Rattle.exh_pair_text.specs.declared.field.Field.{Field}
use Rattle.exh_pair_text.specs.declared.field.Field.TheVariants.{Key, Value}
use Rattle.exh_pair_text.specs.declared.field_names.FieldNames.{FieldNames}
use Rattle.exh_pair_text.specs.declared.wrong_header.WrongHeader.{WrongHeader}
use Rattle.exh_pair_text.specs.declared.wrong_header.WrongHeader.TheVariants.{NoColumn, NoRecord, NotTwo, TwoColumns}
use Rattle.exh_pair_text.specs.Parts.{two_columns}
use Rattle.exh_pair_text.specs.Reading.{without_return}

-- the first fault decides
infixl 10 ◌>>=◌
abbrev pub ◌>>=◌ : {A B : Type 0} → Result A WrongHeader → (A → Result B WrongHeader) → Result B WrongHeader
Ok found >>= next = next found
Err wrong >>= next = Err wrong

-- the names of a key's column and a value's
abbrev pub names_of : Option (Bor FieldNames) → Option (List ℕ × List ℕ)
names_of None = None
names_of (Some names) = Some (names.now.key.now, names.now.value.now)

-- a field is the name
abbrev pub is_named : List ℕ → List ℕ → Bool
is_named name field = bytes_eq field name

-- the first place of a name among fields, of which the first stands at this place
abbrev pub place_from : ℕ → List ℕ → List (List ℕ) → Option ℕ
place_from at name [] = None
place_from at name (field ∷ fields) = if is_named name field then Some at else place_from (at + 1) name fields

-- the first place of a name that so many fields are
abbrev pub only_by : Field → ℕ → Option ℕ → Result ℕ WrongHeader
only_by field count None = Err (NoColumn field)
only_by field count (Some at) = if nat_lt 1 count then Err (TwoColumns field) else Ok at

-- the place of the only field that is a name
abbrev pub column_named : Field → List ℕ → List (List ℕ) → Result ℕ WrongHeader
column_named field name fields = only_by field (count_by (is_named name) fields) (place_from 0 name fields)

unfoldable pub named_columns : List ℕ → List ℕ → List (List ℕ) → Result Columns WrongHeader
named_columns key value fields = do
  k ← column_named Key key fields
  v ← column_named Value value fields
  Ok (record { key = k; value = v; width = length fields })

unfoldable pub both_columns : List (List ℕ) → Result Columns WrongHeader
both_columns fields = if length fields == 2 then Ok two_columns else Err (NotTwo (length fields))

abbrev pub columns_by : Option (List ℕ × List ℕ) → List (List ℕ) → Result Columns WrongHeader
columns_by (Some names) fields = named_columns names.0 names.1 fields
columns_by None fields = both_columns fields

abbrev pub or_no_header : {A : Type 0} → Result A WrongRecord → Result A WrongHeader
or_no_header (Ok found) = Ok found
or_no_header (Err wrong) = Err (NoRecord wrong)

-- by a line, without its newline
unfoldable pub columns_in : Option (List ℕ × List ℕ) → List ℕ → Result Columns WrongHeader
columns_in names line = or_no_header (fields_in (without_return line)) >>= columns_by names
