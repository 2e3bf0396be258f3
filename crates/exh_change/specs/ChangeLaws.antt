-- What a call makes of a legal page file of version 3.
use Rattle.std.specs.Prelude.{◌≡◌, ◌≢◌, ◌⊎◌, ℕ, Bool, true, false, List, [], length, take}
use Rattle.exh_keyer.specs.Pseudokey.{any_pseudokey}
use Rattle.exh_table.specs.Table.{TableMap}
use Rattle.exh_page.specs.KeyMap.{KeyMap}
use Rattle.exh_calls.specs.declared.call.Call.{Call}
use Rattle.exh_calls.specs.declared.reply.Reply.{Reply}
use Rattle.exh_calls.specs.declared.call.Call.TheVariants.{Del}
use Rattle.exh_calls.specs.Call.{key_of}
use Rattle.exh_calls.specs.MapMachine.{map_after, reply_of}
use Rattle.exh_cells.specs.declared.stamped_header.StampedHeader.{StampedHeader}
use Rattle.exh_cells.specs.LegalPlaced.{IsLegalPlacedFile}
use Rattle.exh_cells.specs.PlacedFile.{PlacedFile, lows_of}
use Rattle.exh_edits.specs.declared.block_edit.BlockEdit.{BlockEdit}
use Rattle.exh_edits.specs.BlockEdits.{with_edits}
use Rattle.exh_edits.specs.PlacedEdits.{with_page}
use Rattle.exh_change.specs.PlacedSteps.{IsStep, page_after, reply_at}
use Rattle.exh_edits.specs.declared.home.Home.{Home}
use Rattle.exh_change.specs.PlacedHome.{IsHomeIn}
use Rattle.exh_change.specs.PlacedLaws.{map_in}
use Rattle.exh_change.specs.declared.changed.Changed.{Changed}
use Rattle.exh_change.specs.declared.draft.Draft.{Draft}
use Rattle.exh_change.specs.Drafts.{IsOf}
use Rattle.exh_change.specs.Leaves.{AreFew, IsLeaf, IsSettled}

-- the map machine's reply and map
abbrev pub reply_in : PlacedFile → Call → Reply
reply_in file call = reply_of file.header.settings.cap (any_pseudokey file.header.settings.keyer) (map_in file) call

abbrev pub map_then : PlacedFile → Call → KeyMap
map_then file call = map_after file.header.settings.cap (any_pseudokey file.header.settings.keyer) (map_in file) call

-- the pseudokey of the call's key
abbrev pub key_in : PlacedFile → Call → ℕ
key_in file call = any_pseudokey file.header.settings.keyer (key_of call)

-- the key's home, with what the call leaves of its records, is merged with its buddy exactly where both may be
abbrev pub SettlesHome : PlacedFile → Call → PlacedFile → Type 0
SettlesHome file call new = (home : Home) × IsHomeIn file (key_in file call) home × IsSettled (with_page home.place (page_after file call home.page) file) home.place new

-- no block changes, and the map stays; or the file has the new stamp, and before it its old own one
abbrev pub IsStamped : PlacedFile → Call → ℕ → List BlockEdit → PlacedFile → Type 0
IsStamped file call stamp edits new = ((edits ≡ []) × (map_then file call ≡ map_in file)) ⊎ ((new.header.stamp ≡ stamp) × (new.header.before ≡ file.header.stamp))

-- the reply is the map machine's; with the edits, which are few, the bytes are those of a legal file with the map that the machine leaves, the same settings, and each page of the old one at its place; a del that changes a block merges the pages that may be
pub record IsChange (file : PlacedFile) (bytes : List ℕ) (call : Call) (stamp : ℕ) (changed : Changed) : Type 0 where
  pub reply : changed.reply ≡ reply_in file call
  pub new : PlacedFile
  pub tables : List TableMap
  pub legal : IsLegalPlacedFile new tables (with_edits changed.edits.items bytes)
  pub map_is : map_in new ≡ map_then file call
  pub settings : new.header.settings ≡ file.header.settings
  pub places : take (length file.pages) (lows_of new.pages) ≡ lows_of file.pages
  pub stamped : IsStamped file call stamp changed.edits.items new
  pub few : AreFew file new (key_in file call) changed.edits.items
  pub settled : (key : List ℕ) → call ≡ Del key → changed.edits.items ≢ [] → SettlesHome file call new

-- ---- of drafts

-- another stamp, and before it the old own one
abbrev pub stamped_anew : ℕ → StampedHeader → StampedHeader
stamped_anew stamp header = record { settings = header.settings; page_counts = header.page_counts; stamp = stamp; before = header.stamp }

-- the home of the call's key answers it, and whether it is another page then
pub record IsAnsweredAt (base : List ℕ) (file : PlacedFile) (call : Call) (home : Home) (draft : Draft) (reply : Reply) (changes : Bool) : Type 0 where
  pub reply_is : reply ≡ reply_at file call home.page
  pub kept : changes ≡ false → page_after file call home.page ≡ home.page
  pub made : changes ≡ true → IsOf base draft (with_page home.place (page_after file call home.page) file)

-- the draft is the file that the call leaves
pub record IsLeft (base : List ℕ) (file : PlacedFile) (call : Call) (stamp : ℕ) (draft : Draft) : Type 0 where
  pub new : PlacedFile
  pub is : IsOf base draft new
  pub step : IsStep file (map_then file call) new
  pub settings : new.header.settings ≡ file.header.settings
  pub stamp_is : new.header.stamp ≡ stamp
  pub before_is : new.header.before ≡ file.header.stamp
  pub few : AreFew file new (key_in file call) draft.edits.items.items
  pub settled : (key : List ℕ) → call ≡ Del key → SettlesHome file call new

pub record IsAnswered (base : List ℕ) (file : PlacedFile) (call : Call) (stamp : ℕ) (draft : Draft) (reply : Reply) (changes : Bool) : Type 0 where
  pub reply_is : reply ≡ reply_in file call
  pub kept : changes ≡ false → map_then file call ≡ map_in file
  pub left : changes ≡ true → IsLeft base file call stamp draft
  pub leaf : (prefix : List Bool) × IsLeaf file (key_in file call) prefix
