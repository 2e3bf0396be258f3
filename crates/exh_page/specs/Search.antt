-- What a search for a place finds in rising records.
use Rattle.std.specs.Prelude.{◌≡◌, ℕ, ◌+◌, ◌-◌, ◌^◌, ◌<◌, ◌≤◌, Bool, cond, List, length, take, drop, slice_get, Option, Some, None, Result, Ok, Err}
use Rattle.std.specs.List.{AllByRecursion, flat_map}
use Rattle.exh_prefix.specs.Prefix.{low_of}
use Rattle.exh_page.specs.declared.record.Record.{Record}
use Rattle.exh_page.specs.declared.spot.Spot.{Spot}
use Rattle.exh_page.specs.PackedRecords.{record_text}
use Rattle.exh_page.specs.Place.{Place}
use Rattle.exh_page.specs.Records.{value_at}
use Rattle.exh_page.specs.RecordsLemmas.{IsCut}

-- the record of the place stands at i
pub record IsFound (place : Place) (records : List Record) (i : ℕ) : Type 0 where
  pub within : i < length records
  pub found : Record
  pub at : slice_get records i ≡ Some found
  pub cut : IsCut place records (take i records) (Some found) (drop (i + 1) records)

-- no record stands at the place, and one would stand at i
pub record IsGap (place : Place) (records : List Record) (i : ℕ) : Type 0 where
  pub within : i ≤ length records
  pub cut : IsCut place records (take i records) None (drop i records)

-- the spot counts the bytes of the records before it
abbrev pub IsSpot : List Record → Spot → Type 0
IsSpot records spot = spot.start ≡ length (flat_map record_text (take spot.index records))

-- what a search for a place answers: the spot of its record, or else the spot where one would stand
abbrev pub IsSought : Place → List Record → Result Spot Spot → Type 0
IsSought place records (Ok spot) = IsSpot records spot × IsFound place records spot.index
IsSought place records (Err spot) = IsSpot records spot × IsGap place records spot.index

-- where the record of a place stands, if there is one
abbrev pub IsStood : Place → List Record → Option Spot → Type 0
IsStood place records (Some spot) = IsSpot records spot × IsFound place records spot.index
IsStood place records None = value_at place records ≡ None

-- the least pseudokey that a prefix begins, or else the first past all that it begins
abbrev pub bound_of : List Bool → Bool → ℕ
bound_of prefix past = low_of prefix + cond past (2 ^ (64 - length prefix)) 0

-- before the spot stand the records of lesser pseudokeys than the bound, and all others from it on
pub record IsCutAt (bound : ℕ) (records : List Record) (at : Spot) : Type 0 where
  pub spot : IsSpot records at
  pub within : at.index ≤ length records
  pub below : AllByRecursion (λ r. r.pseudokey < bound) (take at.index records)
  pub rest : AllByRecursion (λ r. bound ≤ r.pseudokey) (drop at.index records)
