-- Fields that are read, as lists: contracts of private functions.
use Rattle.std.specs.Prelude.{ℕ, List, [], ◌∷◌, ◌++◌, map, Result, Ok, Err}
use Rattle.std.specs.Global.{Vec}
use Rattle.exh_pair_text.specs.declared.fields.Taken.{Taken}
use Rattle.exh_pair_text.specs.declared.part.Part.{Part}
use Rattle.exh_pair_text.specs.declared.part.Part.TheVariants.{Mark, Content, Comma, Stray}
use Rattle.exh_pair_text.specs.declared.wrong_record.WrongRecord.{WrongRecord}

abbrev pub items_of : Vec (Vec ℕ) → List (List ℕ)
items_of fields = map (λ field. field.items) fields.items

abbrev pub lists_of : Result (Vec (Vec ℕ)) WrongRecord → Result (List (List ℕ)) WrongRecord
lists_of (Ok fields) = Ok (items_of fields)
lists_of (Err wrong) = Err wrong

-- the fields behind which a comma stands, and the one behind them
abbrev pub so_far : Taken → List (List ℕ) × List ℕ
so_far taken = (items_of taken.fields, taken.field.items)

-- the field ends
abbrev pub ended : List (List ℕ) × List ℕ → List (List ℕ) × List ℕ
ended taken = (taken.0 ++ taken.1 ∷ [], [])

-- one byte more
abbrev pub taken_by : Part → ℕ → List (List ℕ) × List ℕ → List (List ℕ) × List ℕ
taken_by Content byte taken = (taken.0, taken.1 ++ byte ∷ [])
taken_by Comma byte taken = ended taken
taken_by Mark byte taken = taken
taken_by Stray byte taken = taken
