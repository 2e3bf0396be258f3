use Rattle.std.proofs.Common.{◌≡◌, ℕ, ◌+◌, ◌*◌, ◌≤◌, ◌++◌, List, ap, ◌∙◌, subst, take, get_or, length, append_assoc, arith}
use Rattle.std.specs.List.{AllByRecursion, flat_map}
use Rattle.std.proofs.lemmas.List.{length-append, length-take-le, take_all}
use Rattle.byteorder.specs.Endian.{big_bytes}
use Rattle.byteorder.specs.Numbers.{length-bytes_high_first}
use Rattle.exh_cells.specs.declared.cell.Slot.{Slot}
use Rattle.exh_cells.specs.WalkImage.{IsReadSlot, slot_bytes}
use Rattle.exh_cells.proofs.CellBytes.{all_more, length-slots, slot_pushed}
use Rattle.exh_cells.proofs.cell.Cell.push_to.Goals as goal

-- how many bytes there are so far
so_far : (front : List ℕ) (number : ℕ) (slots : List Slot) (index : ℕ) (bytes : List ℕ) → index ≤ length slots → bytes ≡ (front ++ big_bytes 4 number) ++ flat_map slot_bytes (take index slots)
    → length bytes ≡ length front + 4 + 8 * index
so_far front number slots index bytes within is =
    omega (
      arith,
      ap length is,
      length-append (front ++ big_bytes 4 number) (flat_map slot_bytes (take index slots)),
      length-append front (big_bytes 4 number),
      length-bytes_high_first 4 number,
      length-slots (take index slots),
      length-take-le index slots within,
    )

pub push_slot-requires : goal.push_slot-requires
push_slot-requires c =
    omega (arith, so_far c.args.bytes.now.items c.args.self.now.number c.args.self.now.slots c.loop-len.len c.loop-len.bytes.items (omega arith) c.loop-len.invariant.bytes_are)

pub loop-len-preserved : goal.loop-len-preserved
loop-len-preserved c = record {
  bytes_are = c.push_slot.ensures.bytes
      ∙ ap (λ (bytes : List ℕ). bytes ++ slot_bytes (get_or c.args.self.now.slots c.loop-len.len _)) c.loop-len.invariant.bytes_are
      ∙ slot_pushed (c.args.bytes.now.items ++ big_bytes 4 c.args.self.now.number) c.args.self.now.slots c.loop-len.len _ (omega arith);
  read = all_more IsReadSlot c.args.self.now.slots c.loop-len.len _ (omega arith) c.loop-len.invariant.read c.push_slot.ensures.read;
}

pub returns : goal.returns
returns c =
    let whole : take c.loop-len.len c.args.self.now.slots ≡ c.args.self.now.slots = take_all c.loop-len.len c.args.self.now.slots (omega arith) in
    record {
      bytes = c.loop-len.invariant.bytes_are ∙ ap (λ (slots : List Slot). (c.args.bytes.now.items ++ big_bytes 4 c.args.self.now.number) ++ flat_map slot_bytes slots) whole
          ∙ append_assoc c.args.bytes.now.items (big_bytes 4 c.args.self.now.number) (flat_map slot_bytes c.args.self.now.slots);
      read = record { number = c.push_number.ensures.fits; count = omega arith; slots = subst (AllByRecursion IsReadSlot) whole c.loop-len.invariant.read };
    }
