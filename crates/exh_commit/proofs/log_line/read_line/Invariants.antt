use Rattle.std.proofs.Common.{◌≡◌, length}
use Rattle.sqlite_wal.specs.Reads.{IsClean, OnlyReads}
use Rattle.exh_commit.specs.LogLine.{before_in, fields_of, stamp_in}
use Rattle.exh_commit.proofs.log_line.read_line.Given as goal

abbrev pub invariant-loop-frame : goal.invariant-loop-frame
invariant-loop-frame g l = record {
  stamps : IsClean g.D.Disk l.log → l.line.stamps.items ≡ fields_of stamp_in (g.D.Disk.seen l.fn.log) l.frame;
  befores : IsClean g.D.Disk l.log → l.line.befores.items ≡ fields_of before_in (g.D.Disk.seen l.fn.log) l.frame;
  count : length l.line.befores.items ≡ length l.line.stamps.items;
  reads : OnlyReads g.D.Disk l.fn.log l.log;
}
