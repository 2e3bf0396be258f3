-- Records in their order: a list in which each place rises.
use Rattle.std.specs.Prelude.{◌≡◌, ⊤, ℕ, Bool, not, List, [], ◌∷◌, ◌++◌, Option, filter, find}
use Rattle.std.specs.declared.cmp.Ordering.TheVariants.{Less}
use Rattle.std.specs.List.{AllByRecursion}
use Rattle.std.specs.Option.{option_map}
use Rattle.std.specs.Ordering.{is_lt, is_eq, is_gt}
use Rattle.exh_page.specs.declared.record.Record.{Record}
use Rattle.exh_page.specs.Place.{Place, place_cmp, place_of}

-- each record stands before all that follow it, so no two have one place
abbrev pub IsRising : List Record → Type 0
IsRising [] = ⊤
IsRising (first ∷ rest) = AllByRecursion (λ r. place_cmp (place_of first) (place_of r) ≡ Less) rest × IsRising rest

-- tests of where a record stands, seen from a place
abbrev pub is_before : Place → Record → Bool
is_before place r = is_lt (place_cmp (place_of r) place)

abbrev pub is_at : Place → Record → Bool
is_at place r = is_eq (place_cmp (place_of r) place)

abbrev pub is_after : Place → Record → Bool
is_after place r = is_gt (place_cmp (place_of r) place)

-- the value of the record at a place, if there is one
abbrev pub value_at : Place → List Record → Option (List ℕ)
value_at place records = option_map (λ r. r.value) (find (is_at place) records)

-- the records with this one at its place, in which it replaces what stands there
abbrev pub with_record : Record → List Record → List Record
with_record r records = filter (is_before (place_of r)) records ++ r ∷ filter (is_after (place_of r)) records

-- the records without the one at a place
abbrev pub without_place : Place → List Record → List Record
without_place place records = filter (λ r. not (is_at place r)) records
