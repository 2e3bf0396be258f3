-- What an array's pointers name.
use Rattle.std.proofs.Common.{ℕ, ◌<◌, ◌^◌, option_map, ap}
use Rattle.exh_table.specs.Table.{TableMap}
use Rattle.exh_table.specs.TableWalk.{walk_of}
use Rattle.exh_array.specs.Pointers.{PointerArray, IsArrayOf, NamesPageOf}

-- a pointer of a table's array is to the page that the table names
pub names_page : (table : TableMap) (array : PointerArray) (pseudokey : ℕ) → IsArrayOf table array → pseudokey < 2 ^ 64 → NamesPageOf array pseudokey (walk_of table array.ward_bits pseudokey).page
names_page table array pseudokey is small = ap (option_map (λ pointer. pointer.page)) (is.each pseudokey small)
