use Rattle.std.proofs.Common.{◌++◌, Ok, Err, ◌∙◌}
use Rattle.exh_live.proofs.FirstRefusals.{first_then}
use Rattle.exh_live.proofs.outcomes.first_of_all.Goals as goal

pub returns-in-Ok-first_refusal : goal.returns-in-Ok-first_refusal
returns-in-Ok-first_refusal c =
    c.first_refusal-in-Ok-first_refusal.ensures ∙ first_then c.args.keepers.now c.args.couriers.now (Ok tt) c.in-Ok-first_refusal.ensures ∙ first_then c.args.callers.now (c.args.keepers.now ++ c.args.couriers.now) (Ok tt) c.in-Ok.ensures

pub returns-in-Err-first_refusal : goal.returns-in-Err-first_refusal
returns-in-Err-first_refusal c =
    first_then c.args.keepers.now c.args.couriers.now (Err c.in-Err-first_refusal.fault) c.in-Err-first_refusal.ensures ∙ first_then c.args.callers.now (c.args.keepers.now ++ c.args.couriers.now) (Ok tt) c.in-Ok.ensures

pub returns-in-Err : goal.returns-in-Err
returns-in-Err c = first_then c.args.callers.now (c.args.keepers.now ++ c.args.couriers.now) (Err c.in-Err.fault) c.in-Err.ensures
