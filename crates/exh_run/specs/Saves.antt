-- What the save of a store comes to, by what its close answers.
use Rattle.std.specs.Prelude.{◌≡◌, Option, Result, Ok, Err, IfErr}
use Rattle.exhash.specs.declared.StoreError.{StoreError}
use Rattle.exhash.specs.declared.StoreError.TheVariants.{ReadOnly, Unsynchronized}
use Rattle.exhash.specs.Store.{IsOfCommit, IsReadOnly}

-- it is saved where only the folder isn't synchronized
abbrev pub saved_by : Result (Unit {0}) StoreError → Result (Unit {0}) StoreError
saved_by (Err (Unsynchronized error)) = Ok tt
saved_by closed = closed

-- the close of a store with this file may answer so
pub record IsClosed {F : Type 0} (file : Option F) (closed : Result (Unit {0}) StoreError) : Type 0 where
  pub read : IsReadOnly file → closed ≡ Err ReadOnly
  pub refused : IfErr closed (IsOfCommit file)

-- the store was closed, and is saved as the close has it
abbrev pub IsSaved : {F : Type 0} → Option F → Result (Unit {0}) StoreError → Type 0
IsSaved file result = (closed : Result (Unit {0}) StoreError) × (IsClosed file closed × (result ≡ saved_by closed))
