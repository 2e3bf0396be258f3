use Rattle.exh_walk.proofs.NamedPagesStay.{named_stay}
use Rattle.exh_walk.proofs.laws.named_pages_stay.Goals as goal

pub returns : goal.returns
returns g c = named_stay g.K.Keyer.pseudokey_of g.met.K.Keyer.pseudokey_fits c.splits_keep_legal.ensures c.merges_keep_legal.ensures c.answers_keep_legal.ensures c.histories_go_on.ensures
