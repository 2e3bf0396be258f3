use Rattle.std.proofs.Common.{map, take}
use Rattle.exh_page.specs.Records.{IsRising}
use Rattle.exh_codec.specs.Cells.{record_borrowed}
use Rattle.exh_codec.proofs.pages.are_rising.Given as goal

abbrev pub invariant-loop-i : goal.invariant-loop-i
invariant-loop-i l = IsRising (map record_borrowed (take l.i l.records))
