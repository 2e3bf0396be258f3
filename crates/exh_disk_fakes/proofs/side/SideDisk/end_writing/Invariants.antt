use Rattle.std.proofs.Common.{◌≡◌}
use Rattle.exh_disk_fakes.specs.Past.{known}
use Rattle.exh_disk_fakes.proofs.side.SideDisk.end_writing.Given as goal

abbrev pub invariant-pieces : goal.invariant-pieces
invariant-pieces g l = known g.B.Between.comes l.self.disk.now.past ≡ known g.B.Between.comes l.initial.self.disk.now.past
