-- What a list of calls makes of a legal page file of version 3.
use Rattle.std.specs.Prelude.{◌≡◌, ◌⊎◌, ℕ, List, [], ◌∷◌, length, take}
use Rattle.exh_keyer.specs.Pseudokey.{any_pseudokey}
use Rattle.exh_table.specs.Table.{TableMap}
use Rattle.exh_page.specs.KeyMap.{KeyMap}
use Rattle.exh_calls.specs.declared.call.Call.{Call}
use Rattle.exh_calls.specs.declared.reply.Reply.{Reply}
use Rattle.exh_calls.specs.MapMachine.{map_after, reply_of}
use Rattle.exh_cells.specs.LegalPlaced.{IsLegalPlacedFile}
use Rattle.exh_cells.specs.PlacedFile.{PlacedFile, lows_of}
use Rattle.exh_edits.specs.BlockEdits.{with_edits}
use Rattle.exh_change.specs.PlacedLaws.{map_in}
use Rattle.exh_change.specs.declared.changed_all.ChangedAll.{ChangedAll}

-- ---- the map machine

-- its replies to calls, one after the other
abbrev pub replies_of : ℕ → (List ℕ → ℕ) → KeyMap → List Call → List Reply
replies_of cap pseudo map [] = []
replies_of cap pseudo map (call ∷ calls) = reply_of cap pseudo map call ∷ replies_of cap pseudo (map_after cap pseudo map call) calls

-- the map that they leave
abbrev pub map_after_all : ℕ → (List ℕ → ℕ) → KeyMap → List Call → KeyMap
map_after_all cap pseudo map [] = map
map_after_all cap pseudo map (call ∷ calls) = map_after_all cap pseudo (map_after cap pseudo map call) calls

-- the same over the map of a file
abbrev pub replies_in : PlacedFile → List Call → List Reply
replies_in file calls = replies_of file.header.settings.cap (any_pseudokey file.header.settings.keyer) (map_in file) calls

abbrev pub map_then_all : PlacedFile → List Call → KeyMap
map_then_all file calls = map_after_all file.header.settings.cap (any_pseudokey file.header.settings.keyer) (map_in file) calls

-- ---- the file

-- no block changes; or the file has the new stamp, and before it its old own one
abbrev pub IsStampedAnew : PlacedFile → ℕ → ChangedAll → PlacedFile → Type 0
IsStampedAnew file stamp changed new = (changed.edits.items ≡ []) ⊎ ((new.header.stamp ≡ stamp) × (new.header.before ≡ file.header.stamp))

-- the replies are the map machine's; with the edits the bytes are those of a legal file with the map that the machine leaves, the same settings, and each page of the old one at its place
pub record IsChangeByAll (file : PlacedFile) (bytes : List ℕ) (calls : List Call) (stamp : ℕ) (changed : ChangedAll) : Type 0 where
  pub replies : changed.replies.items ≡ replies_in file calls
  pub new : PlacedFile
  pub tables : List TableMap
  pub legal : IsLegalPlacedFile new tables (with_edits changed.edits.items bytes)
  pub map_is : map_in new ≡ map_then_all file calls
  pub settings : new.header.settings ≡ file.header.settings
  pub places : take (length file.pages) (lows_of new.pages) ≡ lows_of file.pages
  pub stamp_is : new.header.stamp ≡ changed.stamp
  pub stamped : IsStampedAnew file stamp changed new
