use Rattle.exh_live.proofs.Refusals.{refused_so}
use Rattle.exh_live.proofs.tallied_ward.TalliedWard.hop_counted.Goals as goal

pub returns-clause-refused : goal.returns-clause-refused
returns-clause-refused g c =
    let hop = c.hop-hop.ensures in
    refused_so g.P.Pages.failures g.K.Keyer.pseudokey_of c.args.self.now.ward c.hop-hop.new.self.ward c.hop-hop.result hop.step.0 hop.err hop.failures c.failures.ensures.store
