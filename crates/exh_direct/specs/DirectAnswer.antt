-- What is answered of a key by the blocks on its way, in each version: its value, or the first fault.
use Rattle.std.specs.Prelude.{◌≡◌, ⊤, ◌⊎◌, ℕ, ◌+◌, ◌-◌, ◌<◌, ◌≤◌, nat_eq, IsTrue, false, min, List, [], ◌∷◌, ◌++◌, Option, length, map, take, slice_index}
use Rattle.std.specs.List.{IsDistinct, list_any, sum}
use Rattle.std.specs.Io.KnownBytes.{Appends}
use Rattle.exh_keyer.specs.Pseudokey.{any_pseudokey}
use Rattle.exh_prefix.specs.Leading.{ward_of}
use Rattle.exh_format.specs.declared.Leaf.{Leaf}
use Rattle.exh_page.specs.declared.page.Page.{Page}
use Rattle.exh_page.specs.Page.{records_of}
use Rattle.exh_page.specs.Records.{value_at}
use Rattle.exh_format.specs.declared.header.Header.{Header}
use Rattle.exh_prefix.specs.declared.version.Version.{Version}
use Rattle.exh_format.specs.FileVersion.{FileVersion, file_version, format_of}
use Rattle.exh_format.specs.FileTests.{HeaderFails, PageFails}
use Rattle.exh_direct.specs.declared.direct_fault.DirectFault.{DirectFault}
use Rattle.exh_direct.specs.declared.direct_fault.DirectFault.TheVariants.{File, Astray, Read, Memory}
use Rattle.exh_direct.specs.declared.lead.Lead.TheVariants.{Home, Nowhere, To}
use Rattle.exh_direct.specs.declared.table_block.TableBlock.{TableBlock}
use Rattle.exh_direct.specs.KnownBlocks.{BlockFails, IsHeaderAt, IsPageBlock, MayRead}
use Rattle.exh_direct.specs.TableSearch.{AreBlocksOf, FailsNext, TABLE_READS, WalkEnds, places_in}
use Rattle.exh_direct.specs.Way.{lead_of}

-- ---- places

-- a page behind the header, the pages of the wards before its own, and those before it
abbrev pub page_place : Header → ℕ → ℕ → ℕ
page_place header ward number = 1 + sum (take ward header.page_counts) + number

-- ---- the table

-- a page that the table names for a pseudokey, once some of its blocks were read, each once: where the walk ends over what
-- they tell
pub record NamesPage (version : FileVersion) (known : Option (List ℕ)) (header : Header) (pseudokey : ℕ) (old new : Option (List ℕ)) (page : ℕ) : Type 0 where
  pub blocks : List TableBlock
  pub are : AreBlocksOf version known header blocks
  pub few : length blocks ≤ TABLE_READS
  pub leaf : Leaf
  pub ends : WalkEnds blocks header pseudokey leaf
  pub is : page ≡ leaf.page
  pub reads : Appends old new (places_in header blocks)

-- behind some of its blocks another one fails
abbrev pub FailsInTable : FileVersion → Option (List ℕ) → Header → Option (List ℕ) → Option (List ℕ) → DirectFault → Type 0
FailsInTable version known header old new fault = FailsNext version known header old new [] TABLE_READS fault

-- ---- the way from page to page

abbrev pub pseudokey_in : Header → List ℕ → ℕ
pseudokey_in header key = any_pseudokey header.settings.keyer key

abbrev pub ward_in : Header → List ℕ → ℕ
ward_in header key = ward_of header.settings.ward_bits (pseudokey_in header key)

-- how many pages the key's ward has, and where one stands
abbrev pub pages_in : Header → List ℕ → ℕ
pages_in header key = slice_index header.page_counts (ward_in header key)

abbrev pub place_in : Header → List ℕ → ℕ → ℕ
place_in header key number = page_place header (ward_in header key) number

-- how many of them lie within a file of so many whole blocks
abbrev pub pages_within : ℕ → Header → List ℕ → ℕ
pages_within whole header key = min (pages_in header key) (whole - place_in header key 0)

-- behind a way no page was read, or that of the number, which is another than those of the way
abbrev pub IsLastRead : Header → List ℕ → List ℕ → ℕ → Option (List ℕ) → Option (List ℕ) → Type 0
IsLastRead header key way number old new = Appends old new [] ⊎ ((number < pages_in header key) × (list_any (nat_eq number) way ≡ false) × Appends old new (place_in header key number ∷ []))

module _ (version : FileVersion) (known : Option (List ℕ)) (header : Header) (key : List ℕ) where
  -- the page of a number
  pub record IsPageIn (number : ℕ) (page : Page) : Type 0 where
    pub there : number < pages_in header key
    pub is : IsPageBlock version.images (any_pseudokey header.settings.keyer) known (place_in header key number) page

  -- pages by their numbers, each of which leads to the next, and the last to a number
  abbrev pub IsWay : ℕ → List ℕ → ℕ → Type 0
  IsWay from [] to = from ≡ to
  IsWay from (number ∷ way) to = (number ≡ from) × (page : Page) × IsPageIn number page × (next : ℕ) × (lead_of page (pseudokey_in header key) ≡ To next) × IsWay next way to

  -- of a file of so many whole blocks
  module _ (whole : ℕ) where
    -- what the key's own page has, at the end of a way; the pages of the way were read, and this one, each once
    pub record FindsOnWay (first : ℕ) (old new : Option (List ℕ)) (value : Option (List ℕ)) : Type 0 where
      pub way : List ℕ
      pub number : ℕ
      pub leads : IsWay first way number
      pub page : Page
      pub there : IsPageIn number page
      pub home : lead_of page (pseudokey_in header key) ≡ Home
      pub is : value ≡ value_at (pseudokey_in header key, key) (records_of page)
      pub short : length way < pages_within whole header key
      pub once : IsDistinct nat_eq (way ++ number ∷ [])
      pub reads : Appends old new (map (place_in header key) (way ++ number ∷ []))

    -- a number behind a way at which no page leads on: it is that of a page of the way, or of one within the file, and as
    -- many as lie there were passed, or the ward has none of this number, or the page leads nowhere
    abbrev pub IsAstray : List ℕ → ℕ → Type 0
    IsAstray way number = (IsTrue (list_any (nat_eq number) way) ⊎ ((number < pages_within whole header key) × (pages_within whole header key ≤ length way)))
        ⊎ ((pages_in header key ≤ number) ⊎ ((page : Page) × IsPageIn number page × (lead_of page (pseudokey_in header key) ≡ Nowhere)))

    -- what comes of the number: the fault of its page, or that it leads astray
    abbrev pub FailsAtEnd : List ℕ → ℕ → DirectFault → Type 0
    FailsAtEnd way number (File fault) = (number < pages_in header key) × BlockFails (PageFails version.images (any_pseudokey header.settings.keyer) (place_in header key number)) known (place_in header key number) (File fault)
    FailsAtEnd way number Astray = IsAstray way number
    FailsAtEnd way number Read = ⊤
    FailsAtEnd way number Memory = ⊤

    -- the pages of a way were read, each once, and at most one more; there are at most as many as the ward has within the
    -- file
    pub record FailsOnWay (first : ℕ) (old new : Option (List ℕ)) (fault : DirectFault) : Type 0 where
      pub way : List ℕ
      pub number : ℕ
      pub leads : IsWay first way number
      pub fails : FailsAtEnd way number fault
      pub short : length way ≤ pages_within whole header key
      pub once : IsDistinct nat_eq way
      pub between : Option (List ℕ)
      pub reads : Appends old between (map (place_in header key) way)
      pub last : IsLastRead header key way number between new

-- ---- the whole answer

-- the value of a key in the version that a header is of, and the blocks that were read for it, of so many whole ones, in
-- their order: the header, some of the table, each once, and the pages of the way
pub record Finds (known : Option (List ℕ)) (whole : ℕ) (key : List ℕ) (old new : Option (List ℕ)) (value : Option (List ℕ)) : Type 0 where
  pub version : Version
  pub header : Header
  pub head : IsHeaderAt (file_version version) known header
  pub first : Option (List ℕ)
  pub between : Option (List ℕ)
  pub reads : Appends old first (0 ∷ [])
  pub page : ℕ
  pub names : NamesPage (file_version version) known header (pseudokey_in header key) first between page
  pub found : FindsOnWay (file_version version) known header key whole page between new value

-- the first fault: of the header, of the table behind it, or of the way behind both
abbrev pub RefusesBehind : FileVersion → Option (List ℕ) → ℕ → List ℕ → Option (List ℕ) → Option (List ℕ) → DirectFault → Header → Type 0
RefusesBehind version known whole key old new fault header = IsHeaderAt version known header × (first : Option (List ℕ)) × Appends old first (0 ∷ []) × (FailsInTable version known header first new fault
    ⊎ ((page : ℕ) × (between : Option (List ℕ)) × NamesPage version known header (pseudokey_in header key) first between page × FailsOnWay version known header key whole page between new fault))

abbrev pub Refuses : Option (List ℕ) → ℕ → List ℕ → Option (List ℕ) → Option (List ℕ) → DirectFault → Type 0
Refuses known whole key old new fault = (BlockFails (λ block. HeaderFails (format_of block) block) known 0 fault × MayRead old new 0)
    ⊎ ((version : Version) × (header : Header) × RefusesBehind (file_version version) known whole key old new fault header)
