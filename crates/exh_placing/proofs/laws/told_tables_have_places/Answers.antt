use Rattle.exh_placing.proofs.ToldPlaces.{told_placed}
use Rattle.exh_placing.proofs.laws.told_tables_have_places.Goals as goal

pub returns : goal.returns
returns c = told_placed c.slots_are_entries.ensures.entries
