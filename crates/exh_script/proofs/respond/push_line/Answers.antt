use Rattle.std.proofs.Common.{Err, sym, ap, ◌∙◌, subst}
use Rattle.exh_script.specs.Served.{FallsNowhere}
use Rattle.exh_script.proofs.KeptCounts.{line_falls, one_more}
use Rattle.exh_script.proofs.ServedLemmas.{page_of}
use Rattle.exh_script.proofs.respond.push_line.Goals as goal

pub returns-in-Ok-clause-falls : goal.returns-in-Ok-clause-falls
returns-in-Ok-clause-falls g c = subst (FallsNowhere c.args.run.now.world) (sym c.in-Ok.ensures.world) (line_falls c.steps_have_outcomes.ensures c.args.run.now.world c.requires c.args.line.now)

pub returns-in-Err-clause-counted : goal.returns-in-Err-clause-counted
returns-in-Err-clause-counted g c = λ page.
    let reached = page_of c.in-Err.fault (sym c.fault_in.ensures.is ∙ page) in
    one_more g.P.Pages.failures c.args.run.now.world c.push_response.new.run.world (c.in-Err.ensures.counted (ap Err reached)) c.fault_in.ensures.counted
