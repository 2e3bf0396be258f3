use Rattle.std.proofs.Common.{ℕ, List, MatchOption, IfOk, subst}
use Rattle.sqlite_wal.specs.Reads.{IsClean}
use Rattle.exh_commit.specs.LogLine.{AreStatesOf, HasNoStates}
use Rattle.exh_commit.proofs.log_line.line_in.Goals as goal

pub returns-clause-line : goal.returns-clause-line
returns-clause-line g c =
    subst (λ (log : List ℕ). IfOk c.long_line_in.result (λ line. IsClean g.D.Disk c.long_line_in.new.log → MatchOption line (HasNoStates log) (λ it. AreStatesOf log it.stamps.items it.befores.items)))
    c.in_ok-len.ensures.seen c.long_line_in.ensures.line
