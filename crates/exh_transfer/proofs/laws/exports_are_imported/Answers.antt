use Rattle.exh_transfer.proofs.Counts as counts
use Rattle.exh_transfer.proofs.Exported as exported
use Rattle.exh_transfer.proofs.laws.exports_are_imported.Goals as goal

pub returns-clause-lines : goal.returns-clause-lines
returns-clause-lines g c = exported.exports_have_lines c.pairs_are_one_line.ensures

pub returns-clause-pairs : goal.returns-clause-pairs
returns-clause-pairs g c = exported.exports_are_imported c.pairs_are_read.ensures c.pairs_are_one_line.ensures

pub returns-clause-whole : goal.returns-clause-whole
returns-clause-whole g c = counts.exports_are_whole g.S.ImportedStore.gives g.S.ImportedStore.saves g.S.ImportedStore.rests g.L.Rejects.told c.pairs_are_read.ensures c.pairs_are_one_line.ensures
