use Rattle.std.proofs.Common.{◌≡◌, ◌++◌}
use Rattle.exh_calls.specs.History.{IsHistory, map_left}
use Rattle.exh_model.proofs.replay.audit.Given as goal

-- the calls so far are a history, and the machine is at the map that they leave
abbrev pub invariant-loop-entry : goal.invariant-loop-entry
invariant-loop-entry g l = record {
  all : l.journal.entries ≡ l.yielded ++ l.entry-iterator;
  machine : l.machine ≡ record { cap = l.cap; keyer = l.keyer; map = map_left l.cap (g.K.Keyer.pseudokey_of l.keyer) l.base l.yielded };
  history : IsHistory l.cap (g.K.Keyer.pseudokey_of l.keyer) l.base l.yielded;
}
