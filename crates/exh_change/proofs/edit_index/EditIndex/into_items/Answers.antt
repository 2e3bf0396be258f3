use Rattle.exh_change.proofs.Found.{own_places}
use Rattle.exh_change.proofs.edit_index.EditIndex.into_items.Goals as goal

pub returns-clause-own : goal.returns-clause-own
returns-clause-own c = own_places c.args.self.items.items c.args.self.places.entries c.args.self.found
