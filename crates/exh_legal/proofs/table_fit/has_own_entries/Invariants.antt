use Rattle.std.proofs.Common.{◌↔◌}
use Rattle.std.specs.FinMap.{entries}
use Rattle.exh_legal.proofs.Fits.{AreOwnEntries}
use Rattle.exh_legal.proofs.table_fit.has_own_entries.Given as goal

-- all entries are called for exactly where those are that are left
abbrev pub invariant-loop-prefix : goal.invariant-loop-prefix
invariant-loop-prefix g l = AreOwnEntries l.ward (g.P.PageList.pages l.pages) l.prefix-iterator ↔ AreOwnEntries l.ward (g.P.PageList.pages l.pages) (entries l.table)
