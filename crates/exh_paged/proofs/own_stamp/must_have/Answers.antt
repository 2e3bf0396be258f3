use Rattle.std.proofs.Common.{◌≡◌, ℕ, List, ap, sym, subst}
use Rattle.std.proofs.lemmas.Bool.{and_parts}
use Rattle.sqlite_wal.specs.Reads.{IsClean}
use Rattle.exh_commit.specs.LogLine.{IsLineOf}
use Rattle.exh_paged.proofs.own_stamp.must_have.Goals as goal

-- ---- the file's own header is damaged

pub returns-in_default-clause-own : goal.returns-in_default-clause-own
returns-in_default-clause-own g c clean stamp has =
    let end = c.stamp_alone.new.files in
    let parts = and_parts (g.D.Disk.is_clean end.log) (g.D.Disk.is_clean end.db) clean in
    absurd ((rw c.in_default.is at (c.in_ok-stamp.ensures.own parts.1)) stamp has)

-- ---- the log has the states that lead from it

pub returns-in-Ok-true-clause-own : goal.returns-in-Ok-true-clause-own
returns-in-Ok-true-clause-own g c clean stamp has =
    let end = c.is_line_of.new.self in
    let parts = and_parts (g.D.Disk.is_clean end.log) (g.D.Disk.is_clean end.db) clean in
    let db_clean = subst (IsClean g.D.Disk) c.is_line_of.ensures.db parts.1 in
    let own = rw c.in-Some.is at (c.in_ok-stamp.ensures.own db_clean) in
    let same : stamp ≡ c.in-Some.stamp = own.only stamp has in
    let line = (c.in-Ok-true.ensures.line parts.0).0 c.in-Ok-true.field-0-test in
    subst (λ (log : List ℕ). IsLineOf log stamp) (ap g.D.Disk.seen c.in_ok-stamp.ensures.same_log) (subst (IsLineOf (g.D.Disk.seen c.stamp_alone.new.files.log)) (sym same) line)
