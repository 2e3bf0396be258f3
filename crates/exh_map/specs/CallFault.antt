-- Why a call on a store is refused.
use Rattle.std.specs.Prelude.{◌≡◌, ◌⊎◌, ⊤, ℕ, ◌<◌, List, [], ◌∷◌, length}
use Rattle.exh_page.specs.declared.key.TheConstants.{KEY_LIMIT}
use Rattle.exh_page.specs.declared.value.TheConstants.{VALUE_LIMIT}
use Rattle.exh_ward.specs.declared.ward_fault.WardFault.{WardFault}
use Rattle.exh_ward.specs.declared.ward_fault.WardFault.TheVariants.{Page}
use Rattle.exh_map.specs.declared.store_error.StoreError.{StoreError}
use Rattle.exh_map.specs.declared.store_error.StoreError.TheVariants.{EmptyKey, KeyTooLong, Memory, OutOfReach, ValueTooLong}

-- the bytes are no key, and the fault says why
abbrev pub IsKeyFault : List ℕ → StoreError → Type 0
IsKeyFault key fault = ((fault ≡ EmptyKey) × (length key ≡ 0)) ⊎ ((fault ≡ KeyTooLong (length key)) × (KEY_LIMIT < length key))

-- they are no value
abbrev pub IsValueFault : List ℕ → StoreError → Type 0
IsValueFault value fault = (fault ≡ ValueTooLong (length value)) × (VALUE_LIMIT < length value)

-- a ward refused
abbrev pub IsWardFault : StoreError → Type 0
IsWardFault Memory = ⊤
IsWardFault OutOfReach = ⊤
IsWardFault fault = ⊥

abbrev pub fault_of : WardFault → StoreError
fault_of Page = OutOfReach
fault_of fault = Memory

-- of a call on a key, with these values
abbrev pub IsCallFault : List ℕ → List (List ℕ) → StoreError → Type 0
IsCallFault key [] fault = IsKeyFault key fault ⊎ IsWardFault fault
IsCallFault key (value ∷ values) fault = IsValueFault value fault ⊎ IsCallFault key values fault
