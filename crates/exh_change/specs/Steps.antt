-- What answers make of a page file, one after the other.
use Rattle.std.specs.Prelude.{◌≡◌, ◌⊎◌, ℕ, List, [], Option, Some, length, take}
use Rattle.exh_table.specs.Table.{TableMap}
use Rattle.exh_page.specs.KeyMap.{KeyMap}
use Rattle.exh_format.specs.Reading.{AreBytes}
use Rattle.exh_cells.specs.LegalPlaced.{IsLegalPlacedFile}
use Rattle.exh_cells.specs.PlacedFile.{PlacedFile, lows_of}
use Rattle.exh_edits.specs.declared.block_edit.BlockEdit.{BlockEdit}
use Rattle.exh_change.specs.PlacedLaws.{map_in}

-- the bytes are those of a legal file with this map, which came of another file
pub record IsReached (file : PlacedFile) (map : KeyMap) (known : Option (List ℕ)) : Type 0 where
  pub bytes : List ℕ
  pub is : known ≡ Some bytes
  pub are_bytes : AreBytes bytes
  pub new : PlacedFile
  pub tables : List TableMap
  pub legal : IsLegalPlacedFile new tables bytes
  pub map_is : map_in new ≡ map
  pub settings : new.header.settings ≡ file.header.settings
  pub places : take (length file.pages) (lows_of new.pages) ≡ lows_of file.pages

-- they are those of the file with this stamp; if there are edits, it is the new one, and the one before is the own one
pub record IsStampedLast (file : PlacedFile) (own stamp : ℕ) (known : Option (List ℕ)) (edits : List BlockEdit) (now : ℕ) : Type 0 where
  pub bytes : List ℕ
  pub is : known ≡ Some bytes
  pub new : PlacedFile
  pub tables : List TableMap
  pub legal : IsLegalPlacedFile new tables bytes
  pub map_is : map_in new ≡ map_in file
  pub settings : new.header.settings ≡ file.header.settings
  pub places : take (length file.pages) (lows_of new.pages) ≡ lows_of file.pages
  pub stamp_is : new.header.stamp ≡ now
  pub stamped : (edits ≡ []) ⊎ ((new.header.stamp ≡ stamp) × (new.header.before ≡ own))
