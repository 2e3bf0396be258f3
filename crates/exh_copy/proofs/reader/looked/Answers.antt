use Rattle.exh_copy.proofs.Keeps.{looks}
use Rattle.exh_copy.proofs.reader.looked.Goals as goal

pub enter_as-requires : goal.enter_as-requires
enter_as-requires g c x = looks g.S.Start.table g.S.Start.ward_bits c.args.reader.place.id _ x
