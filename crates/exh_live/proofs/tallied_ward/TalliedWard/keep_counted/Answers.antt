use Rattle.exh_live.proofs.Refusals.{refused_so, refused_none}
use Rattle.exh_live.proofs.tallied_ward.TalliedWard.keep_counted.Goals as goal

pub returns-clause-refused : goal.returns-clause-refused
returns-clause-refused g c =
    let keep = c.keep-kept.ensures in
    refused_so g.P.Pages.failures g.K.Keyer.pseudokey_of c.args.self.now.ward c.keep-kept.new.self.ward c.keep-kept.result keep.sound keep.err keep.failures c.failures-2.ensures.store

pub returns-then-number-clause-refused : goal.returns-then-number-clause-refused
returns-then-number-clause-refused g c = refused_none g.P.Pages.failures g.K.Keyer.pseudokey_of c.args.self.now.ward c.journal.ensures.sound c.failures.ensures.store
