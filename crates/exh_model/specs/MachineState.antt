-- A map machine as a value.
use Rattle.std.specs.Prelude.{ℕ, List}
use Rattle.exh_page.specs.KeyMap.{KeyMap}
use Rattle.exh_calls.specs.declared.call.Call.{Call}
use Rattle.exh_calls.specs.declared.reply.Reply.{Reply}
use Rattle.exh_calls.specs.MapMachine.{reply_of, map_after}

pub record MachineState (K : Type 0) : Type 0 where
  pub cap : ℕ
  pub keyer : K
  pub map : KeyMap

-- the map machine's reply to a call
abbrev pub reply_from : {K : Type 0} → (K → List ℕ → ℕ) → MachineState K → Call → Reply
reply_from pseudokey_of machine call = reply_of machine.cap (pseudokey_of machine.keyer) machine.map call

-- the machine after a call
abbrev pub state_after : {K : Type 0} → (K → List ℕ → ℕ) → MachineState K → Call → MachineState K
state_after pseudokey_of machine call = record machine { map = map_after machine.cap (pseudokey_of machine.keyer) machine.map call }
