use Rattle.std.proofs.Common.{sym, ◌∙◌}
use Rattle.exh_array.proofs.Joined.{raised_told}
use Rattle.exh_array.proofs.news.is_told.Goals as goal

pub returns-in-Some : goal.returns-in-Some
returns-in-Some c told = raised_told c.args.table.now c.args.prefix c.in-Some.stood c.args.entry.now (sym c.get.ensures ∙ c.in-Some.is) (c.at_most.ensures.0 told)
