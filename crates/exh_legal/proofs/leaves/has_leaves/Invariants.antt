use Rattle.std.proofs.Common.{◌≡◌, length}
use Rattle.exh_prefix.specs.Prefix.{low_of}
use Rattle.exh_legal.specs.BuiltIndex.{end_over}
use Rattle.exh_legal.proofs.leaves.has_leaves.Given as goal

-- what is left of the entries ends where all of them do
abbrev pub invariant-loop-number : goal.invariant-loop-number
invariant-loop-number g l = end_over (g.P.PageList.pages l.pages) (length l.ward) l.end l.number-iterator ≡ end_over (g.P.PageList.pages l.pages) (length l.ward) (low_of l.ward) l.index.entries
