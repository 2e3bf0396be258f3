use Rattle.std.proofs.Common.{◌+◌, remove, arith}
use Rattle.exh_page.specs.PackedRecords.{ArePacked}
use Rattle.exh_page.proofs.Packed.{unpacked, repacked}
use Rattle.exh_page.proofs.PackedReads.{start_inside, packed_as}
use Rattle.exh_page.proofs.PackedEdits.{ended_at, packed_removed}
use Rattle.exh_page.proofs.packed_records.PackedRecords.remove.Goals as goal

pub overflow_add-end : goal.overflow_add-end
overflow_add-end c =
    let packed : ArePacked c.args.self.now c.self.inside.stored.items c.self.inside.texts.items = packed_as c.self.invariant c.self.view_is in
    let ended = ended_at packed c.args.spot.index c.args.spot.start c.text_len.result c.remove.result c.requires.there c.requires.spot c.text_len.ensures c.remove.ensures.value in
    omega (arith, ended, start_inside packed (c.args.spot.index + 1), c.self.inside.texts.ok, c.self.inside.texts.small)

pub cut_text-requires-clause-within : goal.cut_text-requires-clause-within
cut_text-requires-clause-within c =
    let packed : ArePacked c.args.self.now c.self.inside.stored.items c.self.inside.texts.items = packed_as c.self.invariant c.self.view_is in
    let ended = ended_at packed c.args.spot.index c.args.spot.start c.text_len.result c.remove.result c.requires.there c.requires.spot c.text_len.ensures c.remove.ensures.value in
    omega (arith, ended, start_inside packed (c.args.spot.index + 1))

packed_after : (c : goal.After-cut_text) → ArePacked (remove c.args.self.now c.args.spot.index) c.remove.new.self.items c.cut_text.new.texts.items
packed_after c =
    let packed : ArePacked c.args.self.now c.self.inside.stored.items c.self.inside.texts.items = packed_as c.self.invariant c.self.view_is in
    let ended = ended_at packed c.args.spot.index c.args.spot.start c.text_len.result c.remove.result c.requires.there c.requires.spot c.text_len.ensures c.remove.ensures.value in
    packed_removed packed c.args.spot.index c.args.spot.start (c.args.spot.start + c.text_len.result) c.remove.new.self.items c.cut_text.new.texts.items
    c.requires.spot ended c.remove.ensures.items c.cut_text.ensures

pub invariant_of-self : goal.invariant_of-self
invariant_of-self c = repacked (packed_after c)

pub returns : goal.returns
returns c = unpacked (packed_after c)
