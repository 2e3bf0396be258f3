-- What the sizes of keys and values make of a call.
use Rattle.std.specs.Prelude.{◌≡◌, ◌⊎◌, ⊤, ℕ, ◌≤◌, List, [], ◌∷◌, Result, Err, IfErr, OnOk, length}
use Rattle.exh_page.specs.declared.key.TheConstants.{KEY_LIMIT}
use Rattle.exh_page.specs.declared.value.TheConstants.{VALUE_LIMIT}
use Rattle.exh_map.specs.CallFault.{IsKeyFault, IsValueFault}
use Rattle.exh_map.specs.declared.store_error.StoreError.{StoreError}
use Rattle.exh_map.specs.declared.store_error.StoreError.TheVariants.{Absent, AboveLimit, EmptyKey, Exists, KeyTooLong, NoHeader, OldVersion, ReadOnly, Settings, Unheld, Unsynchronized, ValueTooLong, Vanished}

-- ---- sizes

abbrev pub IsKey : List ℕ → Type 0
IsKey key = (1 ≤ length key) × (length key ≤ KEY_LIMIT)

abbrev pub IsValue : List ℕ → Type 0
IsValue value = length value ≤ VALUE_LIMIT

abbrev pub AreValues : List (List ℕ) → Type 0
AreValues [] = ⊤
AreValues (value ∷ values) = IsValue value × AreValues values

-- the fault of the first that is no value
abbrev pub IsValuesFault : List (List ℕ) → StoreError → Type 0
IsValuesFault [] fault = ⊥
IsValuesFault (value ∷ values) fault = IsValueFault value fault ⊎ (IsValue value × IsValuesFault values fault)

-- that of the key, or of the values behind it
abbrev pub IsSizeFault : List ℕ → List (List ℕ) → StoreError → Type 0
IsSizeFault key values fault = IsKeyFault key fault ⊎ (IsKey key × IsValuesFault values fault)

-- ---- causes

-- the cause is a size, or another one
abbrev pub IsOfSizes : StoreError → Type 0
IsOfSizes EmptyKey = ⊤
IsOfSizes (KeyTooLong len) = ⊤
IsOfSizes (ValueTooLong len) = ⊤
IsOfSizes fault = ⊥

abbrev pub IsOther : StoreError → Type 0
IsOther fault = IsOfSizes fault → ⊥

-- memory, the bytes of a file or the system make it, and not what a call was asked, or what it saw itself at a path
abbrev pub IsOfCause : StoreError → Type 0
IsOfCause EmptyKey = ⊥
IsOfCause (KeyTooLong len) = ⊥
IsOfCause (ValueTooLong len) = ⊥
IsOfCause Settings = ⊥
IsOfCause Exists = ⊥
IsOfCause Absent = ⊥
IsOfCause Vanished = ⊥
IsOfCause NoHeader = ⊥
IsOfCause OldVersion = ⊥
IsOfCause (AboveLimit above) = ⊥
IsOfCause ReadOnly = ⊥
IsOfCause (Unheld error) = ⊥
IsOfCause (Unsynchronized error) = ⊥
IsOfCause fault = ⊤

-- nothing is at a path that is opened; or such a cause
abbrev pub IsOfOpening : StoreError → Type 0
IsOfOpening fault = (fault ≡ Absent) ⊎ IsOfCause fault

-- ---- calls

-- what is answered of a key and values: where one isn't of its size the first such fault, and such a fault nowhere else
pub record IsSized {T : Type 0} (key : List ℕ) (values : List (List ℕ)) (result : Result T StoreError) : Type 0 where
  pub ok : OnOk result (IsKey key × AreValues values)
  pub refused : (fault : StoreError) → IsSizeFault key values fault → result ≡ Err fault
  pub caused : IfErr result (λ fault. IsOfSizes fault → IsSizeFault key values fault)
