-- Numbers at prefixes, and the index of a ward's notices.
use Rattle.std.specs.Prelude.{◌≡◌, ℕ, ◌+◌, Bool, List, slice_get, Some}
use Rattle.std.specs.FinMap.{entries, get}
use Rattle.std.specs.List.{sum_by}
use Rattle.std.specs.Option.{option_map_or}
use Rattle.exh_table.specs.declared.Entry.{Entry}
use Rattle.exh_table.specs.declared.Kind.{Kind}
use Rattle.exh_table.specs.declared.Notice.{Notice}
use Rattle.exh_table.specs.Table.{TableMap}

-- the number at a prefix: how many changes were made there
abbrev pub number_at : TableMap → List Bool → ℕ
number_at table prefix = option_map_or (λ entry. entry.number) (get table prefix) 0

-- how many changes a table tells of: the sum of the numbers at all prefixes
abbrev pub index_of : TableMap → ℕ
index_of table = sum_by (λ (e : List Bool × Entry). e.1.number) (entries table)

-- the notice of the next change, at a prefix: it has the next number there, and the next index
abbrev pub next_notice : ℕ → TableMap → List Bool → Kind → Notice
next_notice ward table prefix kind = record { ward = ward; index = index_of table + 1; prefix = prefix; number = number_at table prefix + 1; kind = kind }

-- the notices since a start table are of the ward, and their indexes go on from the table's
abbrev pub AreNumbered : ℕ → TableMap → List Notice → Type 0
AreNumbered ward start notices = (place : ℕ) (notice : Notice) → slice_get notices place ≡ Some notice → (notice.ward ≡ ward) × (notice.index ≡ index_of start + (place + 1))
