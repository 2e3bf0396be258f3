-- What a call does to its key: the one table of it. What is answered, what is written and what overflows follow from it.
use Rattle.std.specs.Prelude.{ℕ, Bool, true, false, List, Option, Some, None, bytes_eq, if◌then◌else◌}
use Rattle.std.specs.Option.{is_some}
use Rattle.exh_calls.specs.declared.call.Call.{Call}
use Rattle.exh_calls.specs.declared.call.Call.TheVariants.{Get, Put, Del, Swap}
use Rattle.exh_calls.specs.declared.key_change.KeyChange.{KeyChange}
use Rattle.exh_calls.specs.declared.key_change.KeyChange.TheVariants.{Keep as Kept, Set as Given, Remove as Taken}
use Rattle.exh_calls.specs.declared.reply.Reply.{Reply}
use Rattle.exh_calls.specs.declared.reply.Reply.TheVariants.{Is, None as Absent, New, Was, Full, Swapped, Differs}

-- what becomes of the key: it stays as it is, has this value, or is taken out
pub data Change : Type 0 where
  Keep : Change
  Set : (value : List ℕ) → Change
  Remove : Change

-- the code's change of a key, whose value stands with its call, as one of these
abbrev pub change_of : KeyChange → Change
change_of Kept = Keep
change_of (Given value) = Set value.now
change_of Taken = Remove

pub record Effect : Type 0 where
  pub reply : Reply
  pub change : Change

-- what a call does to a key that has a value
abbrev pub on_value : Call → List ℕ → Effect
on_value (Get key) value = record { reply = Is value; change = Keep }
on_value (Put key new) value = record { reply = Was value; change = Set new }
on_value (Del key) value = record { reply = Was value; change = Remove }
on_value (Swap key old new) value =
    if bytes_eq value old then record { reply = Swapped; change = Set new } else record { reply = Differs value; change = Keep }

-- the value that a call gives a key that has none, if it gives one
abbrev pub new_value : Call → Option (List ℕ)
new_value (Get key) = None
new_value (Put key new) = Some new
new_value (Del key) = None
new_value (Swap key old new) = None

-- ---- what follows for all calls

-- what becomes of a key that has no value, by the value that a call gives it and whether new keys are turned away
abbrev pub on_none : Option (List ℕ) → Bool → Effect
on_none None full = record { reply = Absent; change = Keep }
on_none (Some new) true = record { reply = Full; change = Keep }
on_none (Some new) false = record { reply = New; change = Set new }

-- what a call does to its key, by whether new keys are turned away and the value that the key has
abbrev pub effect_of : Call → Bool → Option (List ℕ) → Effect
effect_of call full (Some value) = on_value call value
effect_of call full None = on_none (new_value call) full

-- whether the call sets a key where nothing stood
abbrev pub sets_new : Call → Bool
sets_new call = is_some (new_value call)
