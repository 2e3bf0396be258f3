-- Calls on the map.
use Rattle.std.specs.Prelude.{ℕ, List}
use Rattle.exh_calls.specs.declared.call.Call.{Call}
use Rattle.exh_calls.specs.declared.call.Call.TheVariants.{Get, Put, Del, Swap}

-- the key that a call is about
abbrev pub key_of : Call → List ℕ
key_of (Get key) = key
key_of (Put key value) = key
key_of (Del key) = key
key_of (Swap key old new) = key
