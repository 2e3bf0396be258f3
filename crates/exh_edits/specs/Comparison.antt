-- A file's bytes beside those that are to be its new content, and the blocks in which they differ.
use Rattle.std.specs.Prelude.{◌≡◌, ◌≢◌, ◌⊎◌, ℕ, ◌*◌, ◌/◌, ◌^◌, ◌<◌, ◌≤◌, List, [], ◌∷◌, ◌++◌, length, take, drop, slice_get, Option, option_map, Some, IfSome}
use Rattle.exh_codec.specs.declared.block.TheConstants.{BLOCK_LEN}
use Rattle.exh_cells.specs.FileTests.{IsWhole, block_at}
use Rattle.exh_edits.specs.declared.block_edit.BlockEdit.{BlockEdit}
use Rattle.exh_edits.specs.declared.differing_fault.DifferingFault.{DifferingFault}
use Rattle.exh_edits.specs.declared.differing_fault.DifferingFault.TheVariants.{Shorter}
use Rattle.exh_edits.specs.BlockEdits.{with_edits}
use Rattle.exh_edits.specs.EditLaws.{StandsAt}
use Rattle.exh_edits.specs.EditLists.{AreEditsOf, AreEditsTo, HaveOwnPlaces}

-- ---- what is compared

-- the bytes of a file, and those that were written to be its new content
pub record Comparison : Type 0 where
  pub old : List ℕ
  pub new : List ℕ

-- both in one: how long the file is, its bytes, and behind them the new ones
abbrev pub pair_bytes : List ℕ → List ℕ → List ℕ
pair_bytes old new = length old ∷ (old ++ new)

-- that of a comparison, where a model tells the file's bytes
abbrev pub contents_of : Option Comparison → Option (List ℕ)
contents_of = option_map (λ compared. pair_bytes compared.old compared.new)

-- of a file's bytes with some edits the first blocks are new, and behind them comes what was begun
abbrev pub comparison_of : Option (List ℕ) → List BlockEdit → ℕ → List ℕ → Option Comparison
comparison_of known edits place begun = option_map (λ old. record { old = old; new = take (BLOCK_LEN * place) (with_edits edits old) ++ begun }) known

-- ---- one block

-- the bytes have no block at the place, or another one
abbrev pub Differs : List ℕ → ℕ → List ℕ → Type 0
Differs bytes place block = IsWhole place bytes → block_at place bytes ≢ block

abbrev pub IsThere : Option (List ℕ) → ℕ → List ℕ → Type 0
IsThere known place block = IfSome known (λ bytes. StandsAt bytes place block)

abbrev pub IsDifferent : Option (List ℕ) → ℕ → List ℕ → Type 0
IsDifferent known place block = IfSome known (λ bytes. Differs bytes place block)

-- the file has the block at its place, or behind the edits comes one more
abbrev pub IsCompared : Option (List ℕ) → ℕ → List ℕ → List BlockEdit → List BlockEdit → Type 0
IsCompared known place block old new = ((new ≡ old) × IsThere known place block) ⊎ ((new ≡ old ++ record { place = place; block = block } ∷ []) × IsDifferent known place block)

-- ---- all blocks

-- the bytes are whole blocks
abbrev pub IsWholeBlocks : List ℕ → Type 0
IsWholeBlocks bytes = length bytes ≡ BLOCK_LEN * (length bytes / BLOCK_LEN)

-- each edit is of a block that differs
abbrev pub AreOfDiffering : List ℕ → List BlockEdit → Type 0
AreOfDiffering old edits = (index : ℕ) (edit : BlockEdit) → slice_get edits index ≡ Some edit → Differs old edit.place edit.block

-- the edits make the one into the other, and leave each block alone that is the same
pub record AreDifferences (old : List ℕ) (edits : List BlockEdit) (new : List ℕ) : Type 0 where
  pub to : AreEditsTo old edits new
  pub own : HaveOwnPlaces edits
  pub differ : AreOfDiffering old edits

-- if the new bytes are whole blocks, they are fewer than the old ones
abbrev pub EndsEarly : List ℕ → List ℕ → Type 0
EndsEarly old new = (blocks : ℕ) → length new ≡ BLOCK_LEN * blocks → blocks < length old / BLOCK_LEN

-- ---- while they are compared

-- the edits are those of the first so many blocks: the bytes with them go as far, and behind are the file's
pub record AreEditsBefore (old : List ℕ) (edits : List BlockEdit) (place : ℕ) : Type 0 where
  pub valid : AreEditsOf old edits
  pub within : BLOCK_LEN * place ≤ length (with_edits edits old)
  pub behind : drop (BLOCK_LEN * place) (with_edits edits old) ≡ drop (BLOCK_LEN * place) old
  pub before : (index : ℕ) (edit : BlockEdit) → slice_get edits index ≡ Some edit → edit.place < place
  pub own : HaveOwnPlaces edits
  pub differ : AreOfDiffering old edits

-- so many blocks were compared, and of the next one so many bytes were written; a write doesn't fail by too few
pub record IsComparing (known : Option (List ℕ)) (edits : List BlockEdit) (place filled : ℕ) (fault : Option DifferingFault) : Type 0 where
  pub room : filled < BLOCK_LEN
  pub few : place ≤ 2 ^ 32
  pub edits_are : IfSome known (λ old. AreEditsBefore old edits place)
  pub fault_is : fault ≢ Some Shorter
