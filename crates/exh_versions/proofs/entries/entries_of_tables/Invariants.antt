use Rattle.std.proofs.Common.{◌≡◌, ◌++◌, drop}
use Rattle.std.specs.List.{enumerate_from, flat_map}
use Rattle.exh_versions.specs.PlainFile.{entries_of_table, entries_of_tables}
use Rattle.exh_versions.proofs.entries.entries_of_tables.Given as goal

-- behind the entries so far come those of the other tables
abbrev pub invariant-loop-ward : goal.invariant-loop-ward
invariant-loop-ward l = l.entries.items ++ flat_map entries_of_table (enumerate_from l.ward (drop l.ward l.tables)) ≡ entries_of_tables l.tables
