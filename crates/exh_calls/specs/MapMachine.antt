-- The map machine: what a call is answered over a finite map, and the map that it leaves.
use Rattle.std.specs.Prelude.{◌==◌, ℕ, Bool, List, count_by, nat_le}
use Rattle.std.specs.FinMap as map
use Rattle.exh_page.specs.PrefixLimits.{LIMIT}
use Rattle.exh_page.specs.Leading.{leading}
use Rattle.exh_page.specs.KeyMap.{KeyMap}
use Rattle.exh_calls.specs.declared.call.Call.{Call}
use Rattle.exh_calls.specs.declared.reply.Reply.{Reply}
use Rattle.exh_calls.specs.Call.{key_of}
use Rattle.exh_calls.specs.Effect.{Change, Keep, Set, Remove, Effect, effect_of}

-- how many keys of the map share their LIMIT leading bits with this one
abbrev pub sharing : (List ℕ → ℕ) → KeyMap → List ℕ → ℕ
sharing pseudo m key = count_by (λ other. leading LIMIT (pseudo other) == leading LIMIT (pseudo key)) (map.keys m)

-- whether a new key is turned away, since a page of the greatest length can't hold it
abbrev pub is_full : ℕ → (List ℕ → ℕ) → KeyMap → List ℕ → Bool
is_full cap pseudo m key = nat_le cap (sharing pseudo m key)

-- what a call does to its key
abbrev pub effect_in : ℕ → (List ℕ → ℕ) → KeyMap → Call → Effect
effect_in cap pseudo m call = effect_of call (is_full cap pseudo m (key_of call)) (map.get m (key_of call))

-- the reply to a call
abbrev pub reply_of : ℕ → (List ℕ → ℕ) → KeyMap → Call → Reply
reply_of cap pseudo m call = (effect_in cap pseudo m call).reply

-- the map after a change of a key
abbrev pub changed : Change → List ℕ → KeyMap → KeyMap
changed Keep key m = m
changed (Set value) key m = map.insert m key value
changed Remove key m = map.remove m key

-- the map after a call
abbrev pub map_after : ℕ → (List ℕ → ℕ) → KeyMap → Call → KeyMap
map_after cap pseudo m call = changed (effect_in cap pseudo m call).change (key_of call) m
