use Rattle.std.proofs.Common.{◌↔◌, ℕ, List, IsTrue, IfOk, subst}
use Rattle.sqlite_wal.specs.Reads.{IsClean}
use Rattle.exh_commit.specs.LogLook.{IsOwnLog}
use Rattle.exh_commit.proofs.log_look.is_own.Goals as goal

pub returns-clause-own : goal.returns-clause-own
returns-clause-own g c =
    subst (λ (log : List ℕ). IfOk c.is_own_of.result (λ own. IsClean g.D.Disk c.is_own_of.new.log → (IsTrue own ↔ IsOwnLog log))) c.in_ok-len.ensures.seen c.is_own_of.ensures.own
