-- What is answered of a key of a legal file.
use Rattle.std.specs.Prelude.{◌≡◌, ⊤, ℕ, ◌+◌, ◌<◌, ◌≤◌, nat_eq, List, [], ◌∷◌, ◌++◌, Option, length, map}
use Rattle.std.specs.List.{AllByRecursion, IsDistinct}
use Rattle.std.specs.FinMap.{get}
use Rattle.std.specs.Io.KnownBytes.{Appends}
use Rattle.exh_page.specs.KeyMap.{KeyMap}
use Rattle.exh_format.specs.Pages.{map_of}
use Rattle.exh_format.specs.PageFile.{PageFile, pages_of, table_blocks}
use Rattle.exh_direct.specs.declared.direct_fault.DirectFault.{DirectFault}
use Rattle.exh_direct.specs.declared.direct_fault.DirectFault.TheVariants.{File, Astray, Read, Memory}
use Rattle.exh_direct.specs.DirectAnswer.{page_place}
use Rattle.exh_direct.specs.TableSearch.{TABLE_READS, table_place}

-- the map of all records of a file
abbrev pub map_in : PageFile → KeyMap
map_in file = map_of (pages_of file.wards)

-- the value is the map's at the key, and of the blocks the header, some of the table, each once, and one page were read
pub record FindsInFile (file : PageFile) (key : List ℕ) (old new : Option (List ℕ)) (value : Option (List ℕ)) : Type 0 where
  pub is : value ≡ get (map_in file) key
  pub numbers : List ℕ
  pub within : AllByRecursion (λ number. number < table_blocks file.header.entry_count) numbers
  pub once : IsDistinct nat_eq numbers
  pub few : length numbers ≤ TABLE_READS
  pub ward : ℕ
  pub number : ℕ
  pub reads : Appends old new (0 ∷ map (λ number. table_place file.header + number) numbers ++ page_place file.header ward number ∷ [])

-- the fault isn't one of the file
abbrev pub IsOtherFault : DirectFault → Type 0
IsOtherFault (File fault) = ⊥
IsOtherFault Astray = ⊥
IsOtherFault Read = ⊤
IsOtherFault Memory = ⊤
