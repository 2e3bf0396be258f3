-- What a page file holds, as values.
use Rattle.std.specs.Prelude.{◌≡◌, ℕ, ◌^◌, ◌<◌, ◌≤◌, Bool, List, get_or, length, slice_get, Some}
use Rattle.std.specs.FinMap.{empty}
use Rattle.exh_prefix.specs.declared.prefix.TheConstants.{LIMIT}
use Rattle.exh_table.specs.Table.{TableMap}
use Rattle.exh_page.specs.declared.page.Page.{Page}
use Rattle.exh_page.specs.declared.page.Page.TheVariants.{Live, Forward}
use Rattle.exh_page.specs.declared.page.TheConstants.{CAP_LIMIT}
use Rattle.exh_prefix.specs.Leading.{ward_prefix}

pub record FileParts : Type 0 where
  pub cap : ℕ
  pub ward_bits : ℕ
  -- the pages of each ward
  pub wards : List (List Page)
  -- of each number the entries of the file's table that name it as their ward
  pub tables : List TableMap

abbrev pub table_of : FileParts → ℕ → TableMap
table_of parts number = get_or parts.tables number empty

-- it holds of each ward's prefix, table and pages
abbrev pub OfEachWard : FileParts → (List Bool → TableMap → List Page → Type 0) → Type 0
OfEachWard parts Holds = (number : ℕ) (pages : List Page) → slice_get parts.wards number ≡ Some pages → Holds (ward_prefix parts.ward_bits number) (table_of parts number) pages

-- no entry names a ward that isn't there
abbrev pub HasNoStrays : FileParts → Type 0
HasNoStrays parts = (number : ℕ) → length parts.wards ≤ number → table_of parts number ≡ empty

-- as a header has them
pub record HasPartRanges (parts : FileParts) : Type 0 where
  pub cap : parts.cap ≤ CAP_LIMIT
  pub bits : parts.ward_bits ≤ LIMIT

-- the parts of a file
abbrev pub parts_of : ℕ → ℕ → List (List Page) → List TableMap → FileParts
parts_of cap ward_bits wards tables = record { cap = cap; ward_bits = ward_bits; wards = wards; tables = tables }

-- a prefix and a low bound as large as there are
abbrev pub IsBounded : Page → Type 0
IsBounded (Live prefix right records) = length prefix ≤ LIMIT
IsBounded (Forward low target) = low < 2 ^ 64
