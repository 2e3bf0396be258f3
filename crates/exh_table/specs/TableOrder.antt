-- The order of tables and their join.
use Rattle.std.specs.Prelude.{⊤, Bool, List, map, ◌++◌, Option, Some, None}
use Rattle.std.specs.FinMap.{entries, from_entries, get}
use Rattle.exh_notice.specs.Greater.{IsUpTo}
use Rattle.exh_notice.specs.declared.entry.Entry.{Entry}
use Rattle.exh_notice.specs.Entry.{entry_cmp}
use Rattle.exh_table.specs.Table.{TableMap, greater_of}

-- no entry is at most everything, an entry at most those that are as great
abbrev pub IsOptionUpTo : Option Entry → Option Entry → Type 0
IsOptionUpTo None other = ⊤
IsOptionUpTo (Some entry) None = ⊥
IsOptionUpTo (Some entry) (Some other) = IsUpTo entry_cmp entry other

-- at each prefix the first table has no entry, or the second has one at least as great
abbrev pub IsTableUpTo : TableMap → TableMap → Type 0
IsTableUpTo table other = (prefix : List Bool) → IsOptionUpTo (get table prefix) (get other prefix)

-- at each prefix of either table the greater of what stands there
abbrev pub table_join : TableMap → TableMap → TableMap
table_join table other = from_entries (map (λ e. (e.0, greater_of (get table e.0) e.1)) (entries other) ++ entries table)
