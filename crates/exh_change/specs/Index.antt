-- Edits that are found by their places.
use Rattle.std.specs.Prelude.{◌≡◌, ◌⊎◌, ℕ, ◌+◌, List, [], ◌∷◌, ◌++◌, Some, length, max, slice_get, slice_set}
use Rattle.std.specs.BTreeMap.{is_at}
use Rattle.std.specs.Coded.{×_prop, Coded-set, coded_ℕ, le_prop}
use Rattle.std.specs.Map.{lookup}
use Rattle.std.specs.Ordering.{nat_cmp}
use Rattle.exh_codec.specs.declared.block.TheConstants.{BLOCK_LEN}
use Rattle.exh_edits.specs.declared.block_edit.BlockEdit.{BlockEdit}
use Rattle.exh_edits.specs.EditLists.{IsUnedited}
use Rattle.exh_edits.specs.EditsInTurn.{AreInTurn, HasPlace}

-- the index of the edit of each place
abbrev pub AreFound : List BlockEdit → List (ℕ × ℕ) → Type 0
AreFound edits entries = (index : ℕ) (edit : BlockEdit) → slice_get edits index ≡ Some edit → lookup (is_at (nat_cmp edit.place)) entries ≡ Some index

abbrev pub AreOfBlocks : List BlockEdit → Type 0
AreOfBlocks edits = (index : ℕ) (edit : BlockEdit) → slice_get edits index ≡ Some edit → length edit.block ≡ BLOCK_LEN

pub AreInTurn-prop : (first : ℕ) (edits : List BlockEdit) (count : ℕ) → IsProp (AreInTurn first edits count)
AreInTurn-prop first [] count = Coded-set coded_ℕ count first
AreInTurn-prop first (edit ∷ edits) count = ×_prop le_prop (AreInTurn-prop (max first (edit.place + 1)) edits count)

-- the block of the edit of a place
abbrev pub HasBlock : List BlockEdit → ℕ → List ℕ → Type 0
HasBlock edits place block = (index : ℕ) × (edit : BlockEdit) × (slice_get edits index ≡ Some edit) × (edit.place ≡ place) × (edit.block ≡ block)

-- the edit stands in the place of the one of its place, or behind the others
pub record IsAgain (old : List BlockEdit) (edit : BlockEdit) (new : List BlockEdit) : Type 0 where
  pub index : ℕ
  pub there : HasPlace old edit.place index
  pub is : new ≡ slice_set old index edit

pub record IsPushed (old : List BlockEdit) (edit : BlockEdit) (new : List BlockEdit) : Type 0 where
  pub none : IsUnedited edit.place old
  pub is : new ≡ old ++ edit ∷ []

abbrev pub IsPut : List BlockEdit → BlockEdit → List BlockEdit → Type 0
IsPut old edit new = IsAgain old edit new ⊎ IsPushed old edit new
