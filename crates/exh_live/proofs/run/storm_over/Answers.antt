use Rattle.exh_live.specs.Refusals.{HasCounted}
use Rattle.exh_live.proofs.Faults.{never_seats, page_counted}
use Rattle.exh_live.proofs.FirstRefusals.{by_outcomes}
use Rattle.exh_live.proofs.run.storm_over.Goals as goal

pub returns-in-Err-clause-fault : goal.returns-in-Err-clause-fault
returns-in-Err-clause-fault g c = by_outcomes (HasCounted g.P.Pages.failures) (g.G.Gate.may c.args.gate.now) c.args.config.now c.storm_left-left.result.outcomes c.in-Err.fault (rw c.in-Err.is at c.storm_left-left.ensures.fault)

pub returns-in-Err-clause-counted : goal.returns-in-Err-clause-counted
returns-in-Err-clause-counted g c =
    page_counted (HasCounted g.P.Pages.failures) (g.G.Gate.may c.args.gate.now) c.args.config.now c.in-Err.fault
    (by_outcomes (HasCounted g.P.Pages.failures) (g.G.Gate.may c.args.gate.now) c.args.config.now c.storm_left-left.result.outcomes c.in-Err.fault (rw c.in-Err.is at c.storm_left-left.ensures.fault))

pub returns-in-Err-clause-seats : goal.returns-in-Err-clause-seats
returns-in-Err-clause-seats g c =
    never_seats (HasCounted g.P.Pages.failures) (g.G.Gate.may c.args.gate.now) c.args.config.now c.in-Err.fault
    (by_outcomes (HasCounted g.P.Pages.failures) (g.G.Gate.may c.args.gate.now) c.args.config.now c.storm_left-left.result.outcomes c.in-Err.fault (rw c.in-Err.is at c.storm_left-left.ensures.fault))
