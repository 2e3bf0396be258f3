use Rattle.std.proofs.Common.{◌≡◌, arith}
use Rattle.std.proofs.lemmas.Result.{IfErr-weaker}
use Rattle.exh_live.specs.Refusals.{HasCounted, IsStormFault}
use Rattle.exh_live.specs.declared.fault.StormFault.TheVariants.{Page}
use Rattle.exh_live.proofs.Faults.{storm_so}
use Rattle.exh_live.proofs.run.storm.Goals as goal

-- a store that counts no failure has counted none
never_counted : {P : Type 0} → HasCounted {P = P} (λ store. 0) → ⊥
never_counted counted = omega (arith, counted.counts, counted.counted)

pub returns-clause-fault : goal.returns-clause-fault
returns-clause-fault g c = IfErr-weaker c.storm_over.result _ (IsStormFault ⊥ (g.G.Gate.may c.args.gate.now) c.args.config.now) (storm_so never_counted (g.G.Gate.may c.args.gate.now) c.args.config.now) c.storm_over.ensures.fault

pub returns-clause-reached : goal.returns-clause-reached
returns-clause-reached g c = IfErr-weaker c.storm_over.result _ (λ fault. fault ≡ Page → ⊥) (λ fault counted page. never_counted (counted page)) c.storm_over.ensures.counted
