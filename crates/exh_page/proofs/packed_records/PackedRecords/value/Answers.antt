use Rattle.std.proofs.Common.{◌∙◌}
use Rattle.exh_page.proofs.PackedReads.{kept_read, packed_as, part_from, part_inside, this_read, value_part, value_part_fits}
use Rattle.exh_page.proofs.packed_records.PackedRecords.value.Goals as goal

pub slice_bounds-of-start : goal.slice_bounds-of-start
slice_bounds-of-start c =
    let packed = packed_as c.self.invariant c.self.view_is in
    let there = kept_read packed c.args.spot.index c.index.result.now c.requires.there c.index.ensures in
    part_from packed c.args.spot.index c.index.result.now c.text_from-text.result.now there c.text_from-text.ensures c.from.result c.from.ensures c.text_len.result c.text_len.ensures

pub slice_bounds-of-count : goal.slice_bounds-of-count
slice_bounds-of-count c =
    let packed = packed_as c.self.invariant c.self.view_is in
    let there = kept_read packed c.args.spot.index c.index.result.now c.requires.there c.index.ensures in
    part_from packed c.args.spot.index c.index.result.now c.text_from-text.result.now there c.text_from-text.ensures c.from.result c.from.ensures c.text_len.result c.text_len.ensures

pub slice_bounds-of-end : goal.slice_bounds-of-end
slice_bounds-of-end c =
    let packed = packed_as c.self.invariant c.self.view_is in
    let there = kept_read packed c.args.spot.index c.index.result.now c.requires.there c.index.ensures in
    part_inside packed c.args.spot.index c.index.result.now c.text_from-text.result.now there c.text_from-text.ensures c.from.result c.from.ensures c.text_len.result c.text_len.ensures

pub of-requires : goal.of-requires
of-requires c =
    let packed = packed_as c.self.invariant c.self.view_is in
    let there = kept_read packed c.args.spot.index c.index.result.now c.requires.there c.index.ensures in
    value_part_fits packed c.args.spot.index c.index.result.now c.text_from-text.result.now there c.text_from-text.ensures c.from.result c.from.ensures c.text_len.result c.text_len.ensures

pub returns : goal.returns
returns c =
    let packed = packed_as c.self.invariant c.self.view_is in
    let there = kept_read packed c.args.spot.index c.index.result.now c.requires.there c.index.ensures in
    rw (this_read packed c.args.spot.index c.index.result.now c.text_from-text.result.now there c.text_from-text.ensures)
    (c.of.ensures
    ∙ value_part packed c.args.spot.index c.index.result.now c.text_from-text.result.now there c.text_from-text.ensures c.from.result c.from.ensures c.text_len.result c.text_len.ensures)
