use Rattle.std.proofs.Common.{◌≡◌, Ok, refl, sym, subst}
use Rattle.std.proofs.lemmas.Result.{IfErr-weaker}
use Rattle.exh_live.specs.Refusals.{IsEndOf, Outcome, first_of_workers}
use Rattle.exh_live.proofs.FirstRefusals.{if_ok}
use Rattle.exh_live.proofs.run.ended.Goals as goal

pub close-left-requires-clause-all : goal.close-left-requires-clause-all
close-left-requires-clause-all g c = c.requires.all (sym c.in-Ok.ensures)

pub returns-in-Ok-clause-done : goal.returns-in-Ok-clause-done
returns-in-Ok-clause-done g c = if_ok (first_of_workers c.args.outcomes ≡ Ok tt) c.close-left.result (sym c.in-Ok.ensures)

pub returns-in-Ok-clause-fault : goal.returns-in-Ok-clause-fault
returns-in-Ok-clause-fault g c =
    IfErr-weaker c.close-left.result _ (IsEndOf c.args.config.now (first_of_workers c.args.outcomes)) (λ fault why. subst (λ (first : Outcome). IsEndOf c.args.config.now first fault) c.in-Ok.ensures why) c.close-left.ensures.fault

pub returns-in-Err-clause-fault : goal.returns-in-Err-clause-fault
returns-in-Err-clause-fault g c = subst (λ (first : Outcome). IsEndOf c.args.config.now first c.in-Err.fault) c.in-Err.ensures refl
