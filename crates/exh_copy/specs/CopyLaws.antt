-- Laws of copies that readers look at.
use Rattle.std.specs.Prelude.{◌≡◌, ◌↔◌, ℕ, ◌<◌, ◌^◌, Bool, List, ◌++◌, flat_map, Contains}
use Rattle.std.specs.FinMap.{entries}
use Rattle.exh_notice.specs.declared.entry.Entry.{Entry}
use Rattle.exh_table.specs.Table.{TableMap, IsTableOf}
use Rattle.exh_table.specs.TableOrder.{IsTableUpTo}
use Rattle.exh_table.specs.TableWalk.{walk_of}
use Rattle.exh_array.specs.Pointers.{DirectoryState, HasArrayOf, NamesPageOf}
use Rattle.exh_copy.specs.declared.addition.Addition.{Addition}
use Rattle.exh_copy.specs.Additions.{BeginsWith, longest, table_after, told_in}

-- who holds more of the published list is no lower in the order of tables
abbrev pub CopiesNeverGoBack : Type 0
CopiesNeverGoBack = (start : TableMap) (longer shorter : List Addition) → BeginsWith longer shorter → IsTableUpTo (table_after start shorter) (table_after start longer)

-- who holds a beginning of a list and learns another beginning of it holds all that it held, and its table is no lower
abbrev pub LearningNeverGoesBack : Type 0
LearningNeverGoesBack = (start : TableMap) (list held told : List Addition) → BeginsWith list held → BeginsWith list told
    → BeginsWith (longest held told) held × IsTableUpTo (table_after start held) (table_after start (longest held told))

-- a copy's table is that of the set of all that it was told: the start table's entries, and those of the list's notices and tables
abbrev pub CopiesAreTablesOfTheirSets : Type 0
CopiesAreTablesOfTheirSets = (start : TableMap) (additions : List Addition) → IsTableOf (entries start ++ flat_map told_in additions) (table_after start additions)

-- A directory with its array, as a copy in a world is, that took a set of entries: where the list of a look tells the same
-- set, in whatever order and however often, the look names the page that the directory's table does, and so does the
-- directory's pointer.
abbrev pub LooksAreWalksOfCopies : Type 0
LooksAreWalksOfCopies = (start : TableMap) (ward_bits : ℕ) (additions : List Addition) (directory : DirectoryState) (taken : List (List Bool × Entry)) (pseudokey : ℕ)
    → HasArrayOf ward_bits directory → IsTableOf taken directory.table
    → ((pair : List Bool × Entry) → Contains taken pair ↔ Contains (entries start ++ flat_map told_in additions) pair)
    → pseudokey < 2 ^ 64
    → ((walk_of directory.table ward_bits pseudokey).page ≡ (walk_of (table_after start additions) ward_bits pseudokey).page)
    × NamesPageOf directory.pointers pseudokey (walk_of (table_after start additions) ward_bits pseudokey).page
