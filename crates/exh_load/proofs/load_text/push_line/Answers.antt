use Rattle.std.proofs.Common.{◌∙◌, sym}
use Rattle.exh_load.specs.Loader.{file_in}
use Rattle.exh_load.proofs.Counted.{one_counted, out_of_reach}
use Rattle.exh_load.proofs.load_text.push_line.Goals as goal

pub returns-in-Err-put-clause-counted : goal.returns-in-Err-put-clause-counted
returns-in-Err-put-clause-counted g c = λ page.
    one_counted g.P.Pages.failures (file_in c.args.loader.now) (file_in c.put.new.self) _ (c.in-Err-put.ensures.counted (out_of_reach c.in-Err-put.fault (sym c.of_ward.ensures ∙ page)))
