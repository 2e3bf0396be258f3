use Rattle.exh_live.proofs.Refusals.{refused_so}
use Rattle.exh_live.proofs.tallied_ward.TalliedWard.split.Goals as goal

pub returns-clause-refused : goal.returns-clause-refused
returns-clause-refused g c =
    let split = c.split-split.ensures in
    refused_so g.P.Pages.failures g.K.Keyer.pseudokey_of c.args.self.now.ward c.split-split.new.self c.split-split.result c.journal.ensures.sound split.err split.failures c.failures.ensures.store
