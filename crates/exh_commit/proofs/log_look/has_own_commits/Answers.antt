use Rattle.std.proofs.Common.{◌↔◌, ℕ, List, IsTrue, IfOk, subst}
use Rattle.sqlite_wal.specs.Reads.{IsClean}
use Rattle.exh_commit.specs.LogLook.{HasOwnCommits}
use Rattle.exh_commit.proofs.log_look.has_own_commits.Goals as goal

pub returns-in-Ok-clause-own : goal.returns-in-Ok-clause-own
returns-in-Ok-clause-own g c =
    subst (λ (log : List ℕ). IfOk c.has_header.result (λ own. IsClean g.D.Disk c.has_header.new.log → (IsTrue own ↔ HasOwnCommits log))) c.in-Ok.ensures.same.seen c.has_header.ensures.own
