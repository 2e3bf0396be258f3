-- A table as a finite map from prefixes to entries, and the table of a set of notices.
use Rattle.std.specs.Prelude.{ℕ, ◌+◌, Bool, List, ◌++◌, map, Option, Some, None, Contains}
use Rattle.std.specs.Coded.{Coded, coded_list, coded_bool}
use Rattle.std.specs.FinMap.{FinMap, code, entries, get, insert, remove}
use Rattle.std.specs.Option.{option_map_or}
use Rattle.exh_prefix.specs.Prefix.{prefix_cmp}
use Rattle.exh_notice.specs.Greater.{IsUpTo}
use Rattle.exh_notice.specs.declared.entry.Entry.{Entry}
use Rattle.exh_notice.specs.declared.entry.Kind.{Kind}
use Rattle.exh_notice.specs.declared.notice.Notice.{Notice}
use Rattle.exh_notice.specs.Entry.{entry_cmp, greater_entry, entry_of}

abbrev pub TableMap : Type 0
TableMap = FinMap prefix_cmp Entry

-- by which a proof tells tables apart
abbrev pub coded_table : Coded Entry → Coded TableMap
coded_table entry = code (coded_list coded_bool) entry

-- ---- the table of a set of entries at prefixes, which is given as a list

-- what a notice tells: an entry at a prefix
abbrev pub told_by : Notice → List Bool × Entry
told_by notice = (notice.prefix, entry_of notice)

-- the set has the entry at the prefix, and none there that is greater
pub record IsGreatest (told : List (List Bool × Entry)) (prefix : List Bool) (entry : Entry) : Type 0 where
  pub member : Contains told (prefix, entry)
  pub greatest : (other : Entry) → Contains told (prefix, other) → IsUpTo entry_cmp other entry

-- the greatest entry that the set has at the prefix, else none
abbrev pub IsEntryOf : List (List Bool × Entry) → List Bool → Option Entry → Type 0
IsEntryOf told prefix (Some entry) = IsGreatest told prefix entry
IsEntryOf told prefix None = (entry : Entry) → Contains told (prefix, entry) → ⊥

-- at each prefix the greatest entry of the set
abbrev pub IsTableOf : List (List Bool × Entry) → TableMap → Type 0
IsTableOf told table = (prefix : List Bool) → IsEntryOf told prefix (get table prefix)

-- of a set of notices
abbrev pub IsTableOfNotices : List Notice → TableMap → Type 0
IsTableOfNotices notices table = IsTableOf (map told_by notices) table

-- of a start table and the notices since
abbrev pub IsTableSince : TableMap → List Notice → TableMap → Type 0
IsTableSince start notices table = IsTableOf (entries start ++ map told_by notices) table

-- ---- one notice more

-- the greater of an entry and what stood there
abbrev pub greater_of : Option Entry → Entry → Entry
greater_of None entry = entry
greater_of (Some old) entry = greater_entry old entry

-- the table that was told an entry more: at its prefix the greater entry, elsewhere the same
abbrev pub raised : TableMap → List Bool → Entry → TableMap
raised table prefix entry = insert table prefix (greater_of (get table prefix) entry)

-- the table with one notice more
abbrev pub table_with : TableMap → Notice → TableMap
table_with table notice = raised table notice.prefix (entry_of notice)

-- the table with the given entry, or none, at a prefix
abbrev pub table_at : TableMap → List Bool → Option Entry → TableMap
table_at table prefix None = remove table prefix
table_at table prefix (Some entry) = insert table prefix entry

-- ---- the next change at a prefix

-- the number of what stands at a prefix, 0 where nothing does
abbrev pub entry_number : Option Entry → ℕ
entry_number stood = option_map_or (λ entry. entry.number) stood 0

-- the entry that comes after it
abbrev pub entry_after : Option Entry → Kind → Entry
entry_after stood kind = record { number = entry_number stood + 1; kind = kind }
