use Rattle.std.proofs.Common.{ℕ, subst}
use Rattle.sqlite_wal.specs.declared.error.Error.TheVariants.{Corrupt}
use Rattle.sqlite_wal.specs.Opening.{RefusesLog}
use Rattle.exh_commit.proofs.LineLemmas.{none_replays}
use Rattle.exh_commit.proofs.log_line.long_line_in.Goals as goal

pub returns-in-Err-Corrupt-clause-line : goal.returns-in-Err-Corrupt-clause-line
returns-in-Err-Corrupt-clause-line g c clean frames long replays =
    let log = g.D.Disk.seen c.args.log.now in
    none_replays log (subst (λ (size : ℕ). RefusesLog size log Corrupt) c.in-Some.ensures.value (rw c.in-Err-Corrupt.field-0-is at (c.in-Err-Corrupt.ensures.cause.0 clean))) frames replays
