-- The names beside a path.
use Rattle.std.specs.Prelude.{◌≡◌, ◌++◌, ◌+◌, ◌-◌, ◌<◌, ◌≤◌, ℕ, IsCharBoundary, List, [], ◌∷◌, codes, length, take}
use Rattle.exh_saving.specs.Folder.{IsNameIn}

-- the last place at or before this one at which no character is cut
pub record IsCutAt (text : List ℕ) (place cut : ℕ) : Type 0 where
  pub within : cut ≤ place
  pub between : IsCharBoundary text cut
  pub last : (later : ℕ) → cut < later → later ≤ place → IsCharBoundary text later → ⊥

-- a path with this behind it, of whose end no more is left out than what its file's name has above 255 bytes then
abbrev pub IsBeside : List ℕ → List ℕ → List ℕ → Type 0
IsBeside path suffix name = (own : List ℕ) × (cut : ℕ) × IsNameIn path own × (name ≡ take cut path ++ suffix)
    × IsCutAt path (length path - (length own + length suffix - 255)) cut

-- what stands behind a path in the names beside it, in the order in which these are tried
abbrev pub suffixes : List (List ℕ)
suffixes = codes ".exhash-saving" ∷ codes ".exhash-saving-2" ∷ codes ".exhash-saving-3" ∷ codes ".exhash-saving-4" ∷ []
