use Rattle.exh_transfer.proofs.MachineMaps.{puts_leave}
use Rattle.exh_transfer.proofs.laws.imports_leave_their_map.Goals as goal

pub returns-clause-any : goal.returns-clause-any
returns-clause-any g c = puts_leave g.S.ImportedStore.gives g.S.ImportedStore.saves g.S.ImportedStore.rests

pub returns-clause-own : goal.returns-clause-own
returns-clause-own g c = record { puts = λ old new key value added given. given; commits = λ old new saved. saved }
