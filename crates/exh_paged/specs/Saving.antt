-- Wards that are saved over the file that they came of.
use Rattle.std.specs.Prelude.{◌≡◌, ◌⊎◌, Bool, ℕ, List, Option, IfSome, IsTrue}
use Rattle.exh_commit.specs.declared.BlockEdit.{BlockEdit}
use Rattle.exh_commit.specs.BlockEdits.{with_edits}
use Rattle.exh_commit.specs.Comparison.{IsWholeBlocks}
use Rattle.exh_file.specs.Draft.{DraftState, IsDraftSaving, bytes_in}

-- ---- what is saved

-- the edits make known bytes into what the draft writes
abbrev pub AreEditsToDraft : Option (List ℕ) → DraftState → List BlockEdit → Type 0
AreEditsToDraft known draft edits = IfSome known (λ old. IsWholeBlocks old → with_edits edits old ≡ bytes_in draft)

-- the bytes after edits: those that the draft writes, which are a legal page file of its wards; of a disk that may answer
-- wrongly it isn't known which edits were made
pub record IsSavedOver (truthful : Bool) (draft : DraftState) (old new : List ℕ) : Type 0 where
  pub edits : List BlockEdit
  pub is : new ≡ with_edits edits old
  pub drafted : IsTrue truthful → new ≡ bytes_in draft
  pub legal : IsDraftSaving draft (bytes_in draft)

abbrev pub IsOldOrSaved : Bool → DraftState → List ℕ → List ℕ → Type 0
IsOldOrSaved truthful draft old new = (new ≡ old) ⊎ IsSavedOver truthful draft old new
