-- Records where they stand in an image: what is found there, and what is put in place of others.
use Rattle.std.specs.Prelude.{◌≡◌, ◌≢◌, ⊤, ℕ, ◌+◌, ◌^◌, ◌<◌, ◌≤◌, Bool, List, [], ◌∷◌, ◌++◌, length, map, take, drop, slice_get, slice_index, false, Option, None, Some}
use Rattle.std.specs.List.{AllByRecursion, flat_map}
use Rattle.std.specs.Ordering.{is_lt}
use Rattle.exh_prefix.specs.Prefix.{Begins}
use Rattle.exh_page.specs.declared.page.Page.{Page}
use Rattle.exh_page.specs.declared.page.TheConstants.{CAP_LIMIT}
use Rattle.exh_page.specs.declared.record.Record.{Record}
use Rattle.exh_page.specs.declared.spot.Spot.{Spot}
use Rattle.exh_page.specs.KeyMap.{pair_of}
use Rattle.exh_page.specs.declared.page.Page.TheVariants.{Live}
use Rattle.exh_page.specs.Page.{IsLive, records_of}
use Rattle.exh_page.specs.Place.{Place, place_cmp, place_of}
use Rattle.exh_page.specs.Records.{IsRising, with_record}
use Rattle.exh_page.specs.RecordsLemmas.{AllBefore}
use Rattle.exh_page.specs.Search.{IsSpot, IsStood}
use Rattle.exh_codec.specs.declared.block.TheConstants.{CONTENT_LEN}
use Rattle.exh_codec.specs.declared.head.TheConstants.{HEAD_LEN}
use Rattle.exh_codec.specs.Cells.{IsSizedPair, Pair, pair_image}
use Rattle.exh_codec.specs.PageImage.{content_of}
use Rattle.exh_frames.specs.declared.cell.Cell.{Cell}
use Rattle.exh_frames.specs.declared.gap.Gap.{Gap}

-- the bytes of records, one after the other
abbrev pub bytes_of : List Record → List ℕ
bytes_of records = flat_map pair_image (map pair_of records)

-- the block's content is that of a live page, whatever its digest bytes are
pub record HasContent (block : List ℕ) (page : Page) : Type 0 where
  pub live : IsLive page
  pub few : length (records_of page) ≤ CAP_LIMIT
  pub sized : AllByRecursion IsSizedPair (map pair_of (records_of page))
  pub content : take CONTENT_LEN block ≡ content_of page

-- the cell is that of a pair which begins at a byte
pub record IsCellOf (start : ℕ) (pair : Pair) (cell : Cell) : Type 0 where
  pub key : cell.key.now ≡ pair.0
  pub value : cell.value.now ≡ pair.1
  pub end : cell.end ≡ start + length (pair_image pair)

-- where each of the records begins in a block, and after these where the last one ends
abbrev pub AreStarts : List Record → List ℕ → Type 0
AreStarts records starts = (i : ℕ) → i ≤ length records → slice_index starts i ≡ HEAD_LEN + length (bytes_of (take i records))

-- the record of a key stands at a spot, and has this value
pub record IsKeyAt (key : List ℕ) (records : List Record) (spot : Spot) (value : List ℕ) : Type 0 where
  pub spot_is : IsSpot records spot
  pub within : spot.index < length records
  pub one : Record
  pub at : slice_get records spot.index ≡ Some one
  pub key_is : one.key ≡ key
  pub value_is : value ≡ one.value

-- the first record of a key, if there is one
abbrev pub IsSoughtKey : List ℕ → List Record → Option (Spot × List ℕ) → Type 0
IsSoughtKey key records None = AllByRecursion (λ r. r.key ≢ key) records
IsSoughtKey key records (Some found) = IsKeyAt key records found.0 found.1

-- numbers begin with the pseudokeys of records, in their order
abbrev pub AreKeyed : List Record → List ℕ → Type 0
AreKeyed [] numbers = ⊤
AreKeyed (r ∷ records) [] = ⊥
AreKeyed (r ∷ records) (number ∷ numbers) = (number ≡ r.pseudokey) × AreKeyed records numbers

-- the records rise, and numbers begin with their pseudokeys
pub record AreHashed (pseudokeys : List ℕ) (records : List Record) : Type 0 where
  pub rising : IsRising records
  pub keyed : AreKeyed records pseudokeys

-- the records before the index stand before a place, and none of the others
pub record IsPlaceIn (place : Place) (records : List Record) (i : ℕ) : Type 0 where
  pub within : i ≤ length records
  pub before : AllBefore place (take i records)
  pub rest : AllByRecursion (λ r. is_lt (place_cmp (place_of r) place) ≡ false) (drop i records)

-- old records are new ones where those of a gap are replaced by others
pub record IsEdit (old put new : List Record) (gap : Gap) : Type 0 where
  pub front : List Record
  pub middle : List Record
  pub back : List Record
  pub old_is : old ≡ front ++ (middle ++ back)
  pub new_is : new ≡ front ++ (put ++ back)
  pub start : gap.start ≡ HEAD_LEN + length (bytes_of front)
  pub end : gap.end ≡ gap.start + length (bytes_of middle)
  pub count : gap.count ≡ length middle

-- the block is that of a page, with its records' pseudokeys, which a record may be put into: over the one that stands at a spot, if one has its place
pub record TakesRecord (pseudokeys : List ℕ) (block : List ℕ) (stood : Option Spot) (item : Record) (page : Page) : Type 0 where
  pub content : HasContent block page
  pub hashed : AreHashed pseudokeys (records_of page)
  pub stands : IsStood (place_of item) (records_of page) stood
  pub room : length (with_record item (records_of page)) ≤ CAP_LIMIT

-- the block is that of a page with a record of this index
pub record LosesRecord (block : List ℕ) (index : ℕ) (page : Page) : Type 0 where
  pub content : HasContent block page
  pub within : index < length (records_of page)

-- the block is that of a page of this prefix and link, with its records' pseudokeys, which can be split
pub record IsSplitBlock (pseudokeys : List ℕ) (block : List ℕ) (prefix : List Bool) (link : Option ℕ) (records : List Record) : Type 0 where
  pub content : HasContent block (Live prefix link records)
  pub hashed : AreHashed pseudokeys records
  pub words : AllByRecursion (λ r. r.pseudokey < 2 ^ 64) records
  pub begun : AllByRecursion (λ r. Begins prefix r.pseudokey) records

-- the blocks are those of two pages whose records one page can have
pub record AreUnited (block other : List ℕ) (page twin : Page) : Type 0 where
  pub content : HasContent block page
  pub twin_content : HasContent other twin
  pub room : length (records_of page ++ records_of twin) ≤ CAP_LIMIT
