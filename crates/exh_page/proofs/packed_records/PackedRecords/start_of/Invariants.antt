use Rattle.std.proofs.Common.{◌≡◌, length, take}
use Rattle.std.specs.List.{flat_map}
use Rattle.exh_page.specs.PackedRecords.{record_text}
use Rattle.exh_page.proofs.packed_records.PackedRecords.start_of.Given as goal

-- so far the bytes of the first records were counted
abbrev pub invariant-loop-stored : goal.invariant-loop-stored
invariant-loop-stored l = l.start ≡ length (flat_map record_text (take l.stored-index l.self))
