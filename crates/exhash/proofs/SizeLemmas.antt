-- What is answered of a key and values by their sizes.
use Rattle.std.proofs.Common.{◌≡◌, ℕ, ◌<◌, List, [], ◌∷◌, Result, Ok, Err, IfErr, length, inl, inr, sym, ap, ◌∙◌, arith}
use Rattle.exh_page.specs.declared.key.TheConstants.{KEY_LIMIT}
use Rattle.exh_map.specs.CallFault.{IsKeyFault, IsValueFault}
use Rattle.exh_map.specs.Sizes.{AreValues, IsKey, IsOther, IsSizeFault, IsSized, IsValue, IsValuesFault}
use Rattle.exh_map.specs.declared.store_error.StoreError.{StoreError}

-- ---- one fault at most

both : {x f g : StoreError} → f ≡ x → g ≡ x → f ≡ g
both one other = one ∙ sym other

empty_or_long : {A : Type 0} (key : List ℕ) → length key ≡ 0 → KEY_LIMIT < length key → A
empty_or_long key none long = absurd (omega (arith, none, long))

one_key_fault : (key : List ℕ) (f g : StoreError) → IsKeyFault key f → IsKeyFault key g → f ≡ g
one_key_fault key f g (inl one) (inl other) = both one.0 other.0
one_key_fault key f g (inl one) (inr other) = empty_or_long key one.1 other.1
one_key_fault key f g (inr one) (inl other) = empty_or_long key other.1 one.1
one_key_fault key f g (inr one) (inr other) = both one.0 other.0

no_key_fault : (key : List ℕ) (f : StoreError) → IsKey key → IsKeyFault key f → ⊥
no_key_fault key f is (inl fault) = omega (arith, is.0, fault.1)
no_key_fault key f is (inr fault) = omega (arith, is.1, fault.1)

no_value_fault : (value : List ℕ) (f : StoreError) → IsValue value → IsValueFault value f → ⊥
no_value_fault value f is fault = omega (arith, is, fault.1)

one_values_fault : (values : List (List ℕ)) (f g : StoreError) → IsValuesFault values f → IsValuesFault values g → f ≡ g
one_values_fault [] f g one other = absurd one
one_values_fault (value ∷ values) f g (inl one) (inl other) = both one.0 other.0
one_values_fault (value ∷ values) f g (inl one) (inr other) = absurd (no_value_fault value f other.0 one)
one_values_fault (value ∷ values) f g (inr one) (inl other) = absurd (no_value_fault value g one.0 other)
one_values_fault (value ∷ values) f g (inr one) (inr other) = one_values_fault values f g one.1 other.1

no_values_fault : (values : List (List ℕ)) (f : StoreError) → AreValues values → IsValuesFault values f → ⊥
no_values_fault [] f are fault = fault
no_values_fault (value ∷ values) f are (inl fault) = no_value_fault value f are.0 fault
no_values_fault (value ∷ values) f are (inr fault) = no_values_fault values f are.1 fault.1

one_fault : (key : List ℕ) (values : List (List ℕ)) (f g : StoreError) → IsSizeFault key values f → IsSizeFault key values g → f ≡ g
one_fault key values f g (inl one) (inl other) = one_key_fault key f g one other
one_fault key values f g (inl one) (inr other) = absurd (no_key_fault key f other.0 one)
one_fault key values f g (inr one) (inl other) = absurd (no_key_fault key g one.0 other)
one_fault key values f g (inr one) (inr other) = one_values_fault values f g one.1 other.1

no_fault : (key : List ℕ) (values : List (List ℕ)) (f : StoreError) → IsKey key → AreValues values → IsSizeFault key values f → ⊥
no_fault key values f is are (inl fault) = no_key_fault key f is fault
no_fault key values f is are (inr fault) = no_values_fault values f are fault.1

-- ---- what is answered

module _ {T : Type 0} (key : List ℕ) (values : List (List ℕ)) where
  -- a fault of a size
  of_fault : (fault : StoreError) → IsSizeFault key values fault → IsSized {T = T} key values (Err fault)
  of_fault fault given = record { ok = tt; refused = λ other is. ap Err (one_fault key values fault other given is); caused = λ of_sizes. given }

  pub of_key : (fault : StoreError) → IsKeyFault key fault → IsSized {T = T} key values (Err fault)
  of_key fault given = of_fault fault (inl given)

  pub of_values : (fault : StoreError) → IsKey key → IsValuesFault values fault → IsSized {T = T} key values (Err fault)
  of_values fault is given = of_fault fault (inr (is, given))

  -- whatever is answered of a key and values, but for such a fault
  pub of_sized : (result : Result T StoreError) → IsKey key → AreValues values → IfErr result IsOther → IsSized key values result
  of_sized (Ok answer) is are other = record { ok = (is, are); refused = λ fault given. absurd (no_fault key values fault is are given); caused = tt }
  of_sized (Err fault) is are other = record { ok = tt; refused = λ given_fault given. absurd (no_fault key values given_fault is are given); caused = λ of_sizes. absurd (other of_sizes) }
