-- What a fault of a commit tells of the file, and when it comes.
use Rattle.std.specs.Prelude.{◌≡◌, ◌<◌, ⊤, ℕ, List, ◌∷◌, ◌++◌}
use Rattle.exh_edits.specs.declared.block_edit.BlockEdit.{BlockEdit}
use Rattle.exh_edits.specs.EditsInTurn.{AreInTurn}
use Rattle.exh_commit.specs.declared.commit_fault.CommitFault.{CommitFault}
use Rattle.exh_commit.specs.declared.commit_fault.CommitFault.TheVariants.{Place, NotSaved, MaybeSaved}

-- no edit was committed, and a crash leaves none
abbrev pub IsUnsaved : CommitFault → Type 0
IsUnsaved (Place place) = ⊤
IsUnsaved (NotSaved error) = ⊤
IsUnsaved (MaybeSaved error) = ⊥

-- of edits of a file of so many blocks this is the place of the first that is neither of a block that is there by then nor of the next one
pub record IsFirstAstray (count : ℕ) (edits : List BlockEdit) (place : ℕ) : Type 0 where
  pub before : List BlockEdit
  pub edit : BlockEdit
  pub after : List BlockEdit
  pub are : edits ≡ before ++ edit ∷ after
  pub end : ℕ
  pub turn : AreInTurn count before end
  pub place_is : edit.place ≡ place
  pub behind : end < place

-- the place is that one; of others the disk or memory is the cause
abbrev pub IsCause : ℕ → List BlockEdit → CommitFault → Type 0
IsCause count edits (Place place) = IsFirstAstray count edits place
IsCause count edits (NotSaved error) = ⊤
IsCause count edits (MaybeSaved error) = ⊤

-- the edit's place is behind so many blocks
abbrev pub IsBehind : ℕ → BlockEdit → CommitFault → Type 0
IsBehind count edit (Place place) = (edit.place ≡ place) × (count < place)
IsBehind count edit (NotSaved error) = ⊤
IsBehind count edit (MaybeSaved error) = ⊤
