-- What is answered of a key of a legal page file of version 3.
use Rattle.std.specs.Prelude.{◌≡◌, ℕ, ◌*◌, ◌<◌, ◌≤◌, nat_eq, List, [], ◌∷◌, ◌++◌, Option, length, map}
use Rattle.std.specs.List.{AllByRecursion, IsDistinct}
use Rattle.std.specs.FinMap.{get}
use Rattle.std.specs.Io.KnownBytes.{Appends}
use Rattle.exh_prefix.specs.declared.prefix.TheConstants.{LIMIT}
use Rattle.exh_page.specs.KeyMap.{KeyMap}
use Rattle.exh_legal.specs.Pages.{map_of}
use Rattle.exh_format.specs.PageFile.{pages_of}
use Rattle.exh_cells.specs.declared.places.TheConstants.{GROUP_PAGES}
use Rattle.exh_cells.specs.LegalPlaced.{wards_of}
use Rattle.exh_cells.specs.PlacedFile.{PlacedFile}
use Rattle.exh_cells.specs.Places.{page_block_of, walk_block_of}

-- the map of all records of a file, ward by ward
abbrev pub map_in : PlacedFile → KeyMap
map_in file = map_of (pages_of (wards_of file))

-- the value is the map's at the key, and of the blocks the header, at most 20 walk blocks, each once, and one page were read
pub record FindsInPlaced (file : PlacedFile) (key : List ℕ) (old new value : Option (List ℕ)) : Type 0 where
  pub is : value ≡ get (map_in file) key
  pub groups : List ℕ
  pub within : AllByRecursion (λ group. GROUP_PAGES * group < length file.pages) groups
  pub once : IsDistinct nat_eq groups
  pub few : length groups ≤ LIMIT
  pub place : ℕ
  pub there : place < length file.pages
  pub reads : Appends old new (0 ∷ map walk_block_of groups ++ page_block_of place ∷ [])
