use Rattle.exh_transfer.proofs.StoreMaps as maps
use Rattle.exh_transfer.proofs.laws.exports_give_their_map.Goals as goal

pub returns : goal.returns
returns g c = maps.exports_give_their_map g.S.ImportedStore.gives g.S.ImportedStore.saves g.S.ImportedStore.rests g.L.Rejects.told c.pairs_are_read.ensures c.pairs_are_one_line.ensures
