-- What hops and calls add to both ledgers.
use Rattle.std.specs.Prelude.{ℕ, Result, Ok, Err}
use Rattle.exh_calls.specs.declared.reply.Reply.{Reply}
use Rattle.exh_walk.specs.declared.ask_fault.AskFault.{AskFault}

-- an answered call adds one unit, any other none
abbrev pub units_of : Result Reply AskFault → ℕ
units_of (Ok reply) = 1
units_of (Err fault) = 0
