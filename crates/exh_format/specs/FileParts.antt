-- The parts of a file as the code has them.
use Rattle.std.specs.Prelude.{ℕ, List, Vec, map}
use Rattle.std.specs.List.{AllByRecursion, flat_map}
use Rattle.std.specs.declared.alloc.Global.{Global}
use Rattle.exh_keyer.specs.Pseudokey.{any_pseudokey}
use Rattle.exh_legal.specs.declared.Page.{Page}
use Rattle.exh_legal.specs.Page.{IsWellFormed}
use Rattle.exh_format.specs.declared.file_parts.FileParts.{FileParts}
use Rattle.exh_format.specs.PageFile.{PageFile}

-- of wards that say which pages they have
abbrev pub pages_read : {W : Type 0} → (W → List Page) → List W → List Page
pages_read pages_of wards = flat_map pages_of wards

abbrev pub file_read : {W : Type 0} → (W → List Page) → FileParts W → PageFile
file_read pages_of parts = record { header = parts.header; wards = map pages_of parts.wards.items; entries = parts.entries.items }

-- what a ward is read into takes the pages that are well formed under a keyer's pseudokeys
abbrev pub TakesFormed : {W : Type 0} → (W → Page → Type 0) → (List ℕ → ℕ) → W → Type 0
TakesFormed takes pseudo ward = (page : Page) → IsWellFormed pseudo page → takes ward page

-- each does, under the file's keyer
abbrev pub AreTaking : {W : Type 0} → (W → Page → Type 0) → FileParts W → Type 0
AreTaking takes parts = AllByRecursion (TakesFormed takes (any_pseudokey parts.header.settings.keyer)) parts.wards.items

-- of wards that are lists of pages
abbrev pub pages_in : List (Vec Page Global) → List Page
pages_in wards = pages_read (λ ward. ward.items) wards

abbrev pub file_of : FileParts (Vec Page Global) → PageFile
file_of parts = file_read (λ ward. ward.items) parts
