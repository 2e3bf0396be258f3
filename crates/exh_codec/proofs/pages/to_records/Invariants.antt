use Rattle.std.proofs.Common.{◌≡◌, map, take}
use Rattle.exh_codec.specs.Cells.{record_borrowed}
use Rattle.exh_codec.proofs.pages.to_records.Given as goal

abbrev pub invariant-loop-item : goal.invariant-loop-item
invariant-loop-item l = l.owned ≡ map record_borrowed (take l.item-index l.records)
