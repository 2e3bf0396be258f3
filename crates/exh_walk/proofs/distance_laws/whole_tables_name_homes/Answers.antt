use Rattle.exh_walk.proofs.WalkDistances.{whole_copies_name_home, whole_names_home}
use Rattle.exh_walk.proofs.distance_laws.whole_tables_name_homes.Goals as goal

pub returns : goal.returns
returns c = record {
  own = whole_names_home c.walks_name_homes.ensures;
  copies = whole_copies_name_home c.walks_name_homes.ensures;
}
