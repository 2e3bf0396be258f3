-- A page file of version 3 that is being changed: its header, and the edits of its blocks.
use Rattle.std.specs.Prelude.{◌≡◌, ℕ, ◌*◌, List, Option, Some, length}
use Rattle.exh_keyer.specs.Pseudokey.{any_pseudokey}
use Rattle.exh_codec.specs.declared.block.TheConstants.{BLOCK_LEN}
use Rattle.exh_cells.specs.PlacedFile.{IsPlacedFile, PlacedFile}
use Rattle.exh_cells.specs.Places.{end_block_of}
use Rattle.exh_cells.specs.StampedHeader.{IsStampedHeader}
use Rattle.exh_edits.specs.BlockEdits.{with_edits}
use Rattle.exh_change.specs.WalkBlocks.{pages_in}
use Rattle.exh_change.specs.declared.draft.Draft.{Draft}
use Rattle.exh_edits.specs.EditsInTurn.{AreEdits}

-- it ends behind as many pages as its header counts
pub record IsSound (draft : Draft) : Type 0 where
  pub header : IsStampedHeader draft.header
  pub edits : AreEdits draft.edits.first draft.edits.items.items draft.edits.count
  pub count : draft.edits.count ≡ end_block_of (pages_in draft.header)

abbrev pub pseudo_in : Draft → List ℕ → ℕ
pseudo_in draft = any_pseudokey draft.header.settings.keyer

-- over these bytes, of as many blocks as there were, it is this file
pub record IsOf (base : List ℕ) (draft : Draft) (file : PlacedFile) : Type 0 where
  pub len : length base ≡ BLOCK_LEN * draft.edits.first
  pub header : draft.header ≡ file.header
  pub is : IsPlacedFile file (with_edits draft.edits.items.items base)

-- whatever file it is, over known bytes
abbrev pub OfEach : Option (List ℕ) → Draft → (List ℕ → PlacedFile → Type 0) → Type 0
OfEach known draft Holds = (base : List ℕ) (file : PlacedFile) → known ≡ Some base → IsOf base draft file → Holds base file

-- over as many blocks as there were
abbrev pub OverEach : Option (List ℕ) → Draft → (List ℕ → Type 0) → Type 0
OverEach known draft Holds = (base : List ℕ) → known ≡ Some base → length base ≡ BLOCK_LEN * draft.edits.first → Holds base
