-- The fields of a record.
use Rattle.std.specs.Prelude.{ℕ, ◌+◌, List, [], ◌∷◌, Result, Ok, Err}
use Rattle.exh_pair_text.specs.declared.part.Part.{Part}
use Rattle.exh_pair_text.specs.declared.part.Part.TheVariants.{Mark, Content, Comma, Stray}
use Rattle.exh_pair_text.specs.declared.place.Place.{Place}
use Rattle.exh_pair_text.specs.declared.place.Place.TheVariants.{Start, Plain, Quoted, Closed}
use Rattle.exh_pair_text.specs.declared.wrong_record.WrongRecord.{WrongRecord}
use Rattle.exh_pair_text.specs.declared.wrong_record.WrongRecord.TheVariants.{OpenQuote, BehindQuote}
use Rattle.exh_pair_text.specs.Places.{part_at, place_after}

-- a field, and those behind it
abbrev pub Read : Type 0
Read = Result (List ℕ × List (List ℕ)) WrongRecord

abbrev pub with_byte : ℕ → Read → Read
with_byte byte (Ok found) = Ok (byte ∷ found.0, found.1)
with_byte byte (Err wrong) = Err wrong

-- an empty field in front
abbrev pub behind_comma : Read → Read
behind_comma (Ok found) = Ok ([], found.0 ∷ found.1)
behind_comma (Err wrong) = Err wrong

-- a byte that is such a part, at this place of the record, in front of what is read behind it
abbrev pub in_front : Part → ℕ → ℕ → Read → Read
in_front Mark at byte read = read
in_front Content at byte read = with_byte byte read
in_front Comma at byte read = behind_comma read
in_front Stray at byte read = Err (BehindQuote at)

abbrev pub read_end : Place → Read
read_end Quoted = Err OpenQuote
read_end Start = Ok ([], [])
read_end Plain = Ok ([], [])
read_end Closed = Ok ([], [])

unfoldable pub fields_from : Place → ℕ → List ℕ → Read
fields_from place at [] = read_end place
fields_from place at (byte ∷ text) = in_front (part_at place byte) at byte (fields_from (place_after place byte) (at + 1) text)

abbrev pub all_fields : Read → Result (List (List ℕ)) WrongRecord
all_fields (Ok found) = Ok (found.0 ∷ found.1)
all_fields (Err wrong) = Err wrong

abbrev pub fields_in : List ℕ → Result (List (List ℕ)) WrongRecord
fields_in record_text = all_fields (fields_from Start 1 record_text)
