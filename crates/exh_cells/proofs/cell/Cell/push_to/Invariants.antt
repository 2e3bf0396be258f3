use Rattle.std.proofs.Common.{◌≡◌, ◌++◌, take}
use Rattle.std.specs.List.{AllByRecursion, flat_map}
use Rattle.byteorder.specs.Endian.{big_bytes}
use Rattle.exh_cells.specs.WalkImage.{IsReadSlot, slot_bytes}
use Rattle.exh_cells.proofs.cell.Cell.push_to.Given as goal

abbrev pub invariant-loop-len : goal.invariant-loop-len
invariant-loop-len l = record {
  bytes_are : l.bytes.items ≡ (l.fn.bytes.items ++ big_bytes 4 l.self.number) ++ flat_map slot_bytes (take l.len l.self.slots);
  read : AllByRecursion IsReadSlot (take l.len l.self.slots);
}
