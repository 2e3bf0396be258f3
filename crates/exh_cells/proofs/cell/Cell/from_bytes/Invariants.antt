use Rattle.std.proofs.Common.{◌≡◌, ◌*◌, length, take}
use Rattle.std.specs.List.{AllByRecursion, flat_map}
use Rattle.exh_notice.specs.NoticeImages.{items}
use Rattle.exh_cells.specs.WalkImage.{IsReadSlot, slot_bytes}
use Rattle.exh_cells.proofs.cell.Cell.from_bytes.Given as goal

abbrev pub invariant-loop-len : goal.invariant-loop-len
invariant-loop-len l = record {
  count : length l.slots ≡ 20;
  read : AllByRecursion IsReadSlot (take l.len l.slots);
  bytes_are : flat_map slot_bytes (take l.len l.slots) ≡ items 4 (8 * l.len) l.bytes;
}
