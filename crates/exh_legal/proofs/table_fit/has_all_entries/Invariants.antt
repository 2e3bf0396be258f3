use Rattle.exh_legal.proofs.Fits.{RecordedBelow}
use Rattle.exh_legal.proofs.table_fit.has_all_entries.Given as goal

abbrev pub invariant-loop-number : goal.invariant-loop-number
invariant-loop-number g l = RecordedBelow l.table (g.P.PageList.pages l.pages) l.number
