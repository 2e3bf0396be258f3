-- Edits of a file's blocks: one after the other, none of a place twice.
use Rattle.std.specs.Prelude.{◌≡◌, ℕ, ◌+◌, ◌*◌, ◌<◌, ◌≤◌, nat_eq, true, List, [], ◌∷◌, Some, length, map, max, slice_get}
use Rattle.std.specs.List.{AllByRecursion, IsDistinct, list_any}
use Rattle.exh_codec.specs.declared.block.TheConstants.{BLOCK_LEN}
use Rattle.exh_cells.specs.FileTests.{block_at}
use Rattle.exh_edits.specs.declared.block_edit.BlockEdit.{BlockEdit}
use Rattle.exh_edits.specs.BlockEdits.{with_block, with_edits}
use Rattle.exh_edits.specs.EditLaws.{StandsAt}

abbrev pub places_of : List BlockEdit → List ℕ
places_of edits = map (λ edit. edit.place) edits

-- over a file of so many blocks, which has so many with them: each is of a block that is there by then, or of the next one
abbrev pub AreInTurn : ℕ → List BlockEdit → ℕ → Type 0
AreInTurn first [] count = count ≡ first
AreInTurn first (edit ∷ edits) count = (edit.place ≤ first) × AreInTurn (max first (edit.place + 1)) edits count

-- and none is of the place of another
pub record AreEdits (first : ℕ) (edits : List BlockEdit) (count : ℕ) : Type 0 where
  pub turn : AreInTurn first edits count
  pub once : IsDistinct nat_eq (places_of edits)
  pub blocks : AllByRecursion (λ edit. length edit.block ≡ BLOCK_LEN) edits

-- the edit of a place stands at an index
abbrev pub HasPlace : List BlockEdit → ℕ → ℕ → Type 0
HasPlace edits place index = (edit : BlockEdit) × (slice_get edits index ≡ Some edit) × (edit.place ≡ place)

-- ---- of places

-- each of the numbers is one of these
abbrev pub AreAmong : List ℕ → List ℕ → Type 0
AreAmong these numbers = AllByRecursion (λ number. list_any (nat_eq number) these ≡ true) numbers

-- the edits of after are of the places of those before, or of these: of which all of them are, those of after are
abbrev pub AreMoreAt : List ℕ → List BlockEdit → List BlockEdit → Type 0
AreMoreAt more old new = (places : List ℕ) → AreAmong places more → AreAmong places (places_of old) → AreAmong places (places_of new)

-- ---- of the bytes of so many blocks

-- one edit more was made
abbrev pub IsMade : ℕ → List BlockEdit → List BlockEdit → ℕ → List ℕ → Type 0
IsMade first old new place block = (bytes : List ℕ) → length bytes ≡ BLOCK_LEN * first → with_edits new bytes ≡ with_block place block (with_edits old bytes)

-- after the edits the block stands at a place
abbrev pub StandsOver : ℕ → List BlockEdit → ℕ → List ℕ → Type 0
StandsOver first edits place block = (bytes : List ℕ) → length bytes ≡ BLOCK_LEN * first → StandsAt (with_edits edits bytes) place block

-- at a place of the file after them the block stands that stood there before
abbrev pub StoodBefore : ℕ → List BlockEdit → ℕ → ℕ → Type 0
StoodBefore first edits count place = (bytes : List ℕ) → length bytes ≡ BLOCK_LEN * first → place < count → (place < first) × StandsAt (with_edits edits bytes) place (block_at place bytes)
