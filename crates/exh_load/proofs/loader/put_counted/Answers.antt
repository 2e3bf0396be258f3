use Rattle.exh_load.proofs.Counted.{page_counts}
use Rattle.exh_load.proofs.loader.put_counted.Goals as goal

pub returns-clause-counted : goal.returns-clause-counted
returns-clause-counted g c = page_counts g.P.Pages.failures c.put_anew-put.result c.args.ward.now.failures c.put_anew-put.new.ward.failures c.put_anew-put.ensures.failures c.failures.ensures.store
