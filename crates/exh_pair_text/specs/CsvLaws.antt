-- What holds of each record that is written.
use Rattle.std.specs.Prelude.{◌≡◌, ◌≢◌, ℕ, List, ◌∷◌, Ok}
use Rattle.exh_pair_text.specs.declared.place.Place.TheVariants.{Start, Quoted}
use Rattle.exh_pair_text.specs.Fields.{fields_in}
use Rattle.exh_pair_text.specs.Places.{AreQuoted, place_after, place_behind}
use Rattle.exh_pair_text.specs.Rows.{row_words}

abbrev pub FieldsAreRead : Type 0
FieldsAreRead = (field : List ℕ) (fields : List (List ℕ)) → fields_in (row_words field fields) ≡ Ok (field ∷ fields)

-- each newline of it stands in quotes, and it ends outside of them
abbrev pub RecordsAreWhole : Type 0
RecordsAreWhole = (field : List ℕ) (fields : List (List ℕ)) → AreQuoted place_after Start (row_words field fields) × (place_behind place_after Start (row_words field fields) ≢ Quoted)
