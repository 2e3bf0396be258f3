use Rattle.exh_live.specs.Refusals.{HasCounted}
use Rattle.exh_live.proofs.FirstRefusals.{done_by, fault_by}
use Rattle.exh_live.proofs.run.storm_of.Goals as goal

pub returns-clause-done : goal.returns-clause-done
returns-clause-done g c =
    done_by (HasCounted g.P.Pages.failures) (g.G.Gate.may c.args.overseers.gate.now) c.args.config.now c.in_ok-seats.field-0.outcomes c.ended.result.outcomes c.ended.result.left c.ended.ensures.outcomes c.in_ok-seats.ensures.outcomes c.ended.ensures.done

pub returns-clause-fault : goal.returns-clause-fault
returns-clause-fault g c =
    fault_by (HasCounted g.P.Pages.failures) (g.G.Gate.may c.args.overseers.gate.now) c.args.config.now c.in_ok-seats.field-0.outcomes c.ended.result.outcomes c.ended.result.left c.ended.ensures.outcomes c.in_ok-seats.ensures.outcomes c.ended.ensures.fault
