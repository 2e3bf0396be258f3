-- Several edits of the same bytes, one after the other.
use Rattle.std.specs.Prelude.{◌≡◌, ◌≢◌, ◌↔◌, ⊤, ℕ, List, [], ◌∷◌, ◌++◌, length, slice_get, slice_set, Some}
use Rattle.exh_codec.specs.declared.block.TheConstants.{BLOCK_LEN}
use Rattle.exh_cells.specs.FileTests.{IsWhole, block_at}
use Rattle.exh_edits.specs.declared.block_edit.BlockEdit.{BlockEdit}
use Rattle.exh_edits.specs.BlockEdits.{with_block, with_edits}
use Rattle.exh_edits.specs.EditLaws.{StandsAt}
use Rattle.exh_edits.specs.EditsKeepOthers.{IsEditOf}

-- ---- two edits

-- the later of two edits of a place replaces the earlier
abbrev pub EditsReplace : Type 0
EditsReplace = (bytes : List ℕ) (place : ℕ) (earlier later : List ℕ) → IsEditOf bytes place earlier → with_block place later (with_block place earlier bytes) ≡ with_block place later bytes

-- edits of two places may be made in either order
abbrev pub EditsCommute : Type 0
EditsCommute = (bytes : List ℕ) (one : ℕ) (block : List ℕ) (other : ℕ) (other_block : List ℕ)
    → IsEditOf bytes one block → IsEditOf bytes other other_block → one ≢ other → with_block one block (with_block other other_block bytes) ≡ with_block other other_block (with_block one block bytes)

-- ---- lists of edits

-- each is an edit of the bytes that those before it leave
abbrev pub AreEditsOf : List ℕ → List BlockEdit → Type 0
AreEditsOf bytes [] = ⊤
AreEditsOf bytes (edit ∷ edits) = IsEditOf bytes edit.place edit.block × AreEditsOf (with_block edit.place edit.block bytes) edits

-- no two are of one place
abbrev pub HaveOwnPlaces : List BlockEdit → Type 0
HaveOwnPlaces edits = (one other : ℕ) (edit other_edit : BlockEdit) → slice_get edits one ≡ Some edit → slice_get edits other ≡ Some other_edit → edit.place ≡ other_edit.place → one ≡ other

-- none is of the place
abbrev pub IsUnedited : ℕ → List BlockEdit → Type 0
IsUnedited place edits = (index : ℕ) (edit : BlockEdit) → slice_get edits index ≡ Some edit → edit.place ≢ place

-- these edits make the bytes into others
pub record AreEditsTo (bytes : List ℕ) (edits : List BlockEdit) (others : List ℕ) : Type 0 where
  pub valid : AreEditsOf bytes edits
  pub whole : with_edits edits bytes ≡ others

-- an edit more, behind the others
abbrev pub EditsArePushed : Type 0
EditsArePushed = (bytes : List ℕ) (edits : List BlockEdit) (others : List ℕ) (edit : BlockEdit)
    → AreEditsTo bytes edits others → IsEditOf others edit.place edit.block → AreEditsTo bytes (edits ++ edit ∷ []) (with_block edit.place edit.block others)

-- another block for an edit's place
abbrev pub EditsArePut : Type 0
EditsArePut = (bytes : List ℕ) (edits : List BlockEdit) (others : List ℕ) (index : ℕ) (edit : BlockEdit) (block : List ℕ)
    → AreEditsTo bytes edits others → HaveOwnPlaces edits → slice_get edits index ≡ Some edit → length block ≡ BLOCK_LEN
    → AreEditsTo bytes (slice_set edits index (record edit { block = block })) (with_block edit.place block others)

-- the block of each edit stands at its place
abbrev pub EditedBlocksAreFound : Type 0
EditedBlocksAreFound = (bytes : List ℕ) (edits : List BlockEdit) (others : List ℕ) (index : ℕ) (edit : BlockEdit)
    → AreEditsTo bytes edits others → HaveOwnPlaces edits → slice_get edits index ≡ Some edit → StandsAt others edit.place edit.block

-- the bytes have at the place what they had
pub record IsKept (place : ℕ) (old new : List ℕ) : Type 0 where
  pub whole : IsWhole place old ↔ IsWhole place new
  pub is : block_at place new ≡ block_at place old

-- elsewhere stands what stood there
abbrev pub UneditedAreKept : Type 0
UneditedAreKept = (bytes : List ℕ) (edits : List BlockEdit) (others : List ℕ) (place : ℕ) → AreEditsTo bytes edits others → IsUnedited place edits → IsKept place bytes others
