-- What holds of the effects of all calls, so that other proofs need not go through the calls.
use Rattle.std.proofs.Common.{◌≡◌, ℕ, Bool, true, List, Option, Some, None, refl, ap}
use Rattle.std.specs.Option.{is_some}
use Rattle.exh_calls.specs.Effect.{Set, on_none, new_value, effect_of, sets_new}
use Rattle.exh_calls.specs.declared.call.Call.{Call}

same_on_none : (new : Option (List ℕ)) (one other : Bool) → (is_some new ≡ true → one ≡ other) → on_none new one ≡ on_none new other
same_on_none None one other same = refl
same_on_none (Some new) one other same = ap (on_none (Some new)) (same refl)

-- whether new keys are turned away matters only to a call that sets one where nothing stands
pub same_effect : (call : Call) (one other : Bool) (value : Option (List ℕ)) → (sets_new call ≡ true → value ≡ None → one ≡ other) → effect_of call one value ≡ effect_of call other value
same_effect call one other (Some value) same = refl
same_effect call one other None same = same_on_none (new_value call) one other (λ sets. same sets refl)

nothing_set : (new : Option (List ℕ)) (value : List ℕ) → (on_none new true).change ≡ Set value → ⊥
nothing_set None value set = cc
nothing_set (Some new) value set = cc

-- where new keys are turned away nothing is set where nothing stands
pub full_sets_nothing : (call : Call) (value : List ℕ) → (effect_of call true None).change ≡ Set value → ⊥
full_sets_nothing call value set = nothing_set (new_value call) value set
