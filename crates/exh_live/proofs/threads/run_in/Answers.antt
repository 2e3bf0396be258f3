use Rattle.std.proofs.Common.{◌++◌}
use Rattle.exh_live.proofs.FirstRefusals.{none_first}
use Rattle.exh_live.proofs.threads.run_in.Goals as goal

pub returns-clause-all : goal.returns-clause-all
returns-clause-all g c = λ none. c.in_ok-seats.ensures.all (none_first c.in_ok-seats.callers.items (c.in_ok-keepers.keepers.items ++ c.in_ok-couriers.couriers.items) none)
