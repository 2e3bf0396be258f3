use Rattle.std.proofs.Common.{◌≡◌, ◌<◌, length, take}
use Rattle.std.specs.List.{All, flat_map}
use Rattle.exh_page.specs.PackedRecords.{record_text}
use Rattle.exh_page.specs.Search.{bound_of}
use Rattle.exh_page.proofs.packed_records.PackedRecords.first_from.Given as goal

-- the records so far are below the bound, and the bytes so far are theirs
abbrev pub invariant-loop-i : goal.invariant-loop-i
invariant-loop-i l = record {
  start_of : l.start ≡ length (flat_map record_text (take l.i l.self));
  before : All (λ r. r.pseudokey < bound_of l.prefix l.past) (take l.i l.self);
}
