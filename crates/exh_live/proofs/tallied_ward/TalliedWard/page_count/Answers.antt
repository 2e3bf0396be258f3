use Rattle.exh_live.proofs.Refusals.{refused_none}
use Rattle.exh_live.proofs.tallied_ward.TalliedWard.page_count.Goals as goal

pub returns-then-number-clause-refused : goal.returns-then-number-clause-refused
returns-then-number-clause-refused g c = refused_none g.P.Pages.failures g.K.Keyer.pseudokey_of c.args.self.now.ward c.journal.ensures.sound c.failures.ensures.store
