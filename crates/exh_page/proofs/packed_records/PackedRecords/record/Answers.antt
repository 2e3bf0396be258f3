use Rattle.std.proofs.Common.{◌∙◌, sym, arith}
use Rattle.exh_page.proofs.PackedReads.{key_fits, key_part, key_some, kept_read, length-key_part, packed_as, part_from, part_inside, this_read, value_part, value_part_fits}
use Rattle.exh_page.proofs.packed_records.PackedRecords.record.Goals as goal

pub slice_bounds-value-start : goal.slice_bounds-value-start
slice_bounds-value-start c =
    let packed = packed_as c.self.invariant c.self.view_is in
    let kept = c.index.result.now in
    let there = kept_read packed c.args.spot.index kept c.requires.there c.index.ensures in
    part_from packed c.args.spot.index kept c.text_from-text.result.now there c.text_from-text.ensures c.from.result c.from.ensures c.text_len.result c.text_len.ensures

pub slice_bounds-value-count : goal.slice_bounds-value-count
slice_bounds-value-count c =
    let packed = packed_as c.self.invariant c.self.view_is in
    let kept = c.index.result.now in
    let there = kept_read packed c.args.spot.index kept c.requires.there c.index.ensures in
    part_from packed c.args.spot.index kept c.text_from-text.result.now there c.text_from-text.ensures c.from.result c.from.ensures c.text_len.result c.text_len.ensures

pub slice_bounds-value-end : goal.slice_bounds-value-end
slice_bounds-value-end c =
    let packed = packed_as c.self.invariant c.self.view_is in
    let kept = c.index.result.now in
    let there = kept_read packed c.args.spot.index kept c.requires.there c.index.ensures in
    let text = c.text_from-text.result.now in
    part_inside packed c.args.spot.index kept text there c.text_from-text.ensures c.from.result c.from.ensures c.text_len.result c.text_len.ensures

pub slice_bounds-of-end : goal.slice_bounds-of-end
slice_bounds-of-end c =
    let packed = packed_as c.self.invariant c.self.view_is in
    let kept = c.index.result.now in
    let there = kept_read packed c.args.spot.index kept c.requires.there c.index.ensures in
    let text = c.text_from-text.result.now in
    sym (length-key_part packed c.args.spot.index kept text there c.text_from-text.ensures c.from-2.result c.from-2.ensures)

pub of-requires-clause-some : goal.of-requires-clause-some
of-requires-clause-some c =
    let packed = packed_as c.self.invariant c.self.view_is in
    let kept = c.index.result.now in
    let there = kept_read packed c.args.spot.index kept c.requires.there c.index.ensures in
    let text = c.text_from-text.result.now in
    let long = length-key_part packed c.args.spot.index kept text there c.text_from-text.ensures c.from-2.result c.from-2.ensures in
    let some = key_some packed c.args.spot.index kept text there c.text_from-text.ensures in
    omega (arith, long, some, c.from-2.ensures)

pub of-requires-clause-limit : goal.of-requires-clause-limit
of-requires-clause-limit c =
    let packed = packed_as c.self.invariant c.self.view_is in
    let kept = c.index.result.now in
    let there = kept_read packed c.args.spot.index kept c.requires.there c.index.ensures in
    let text = c.text_from-text.result.now in
    let long = length-key_part packed c.args.spot.index kept text there c.text_from-text.ensures c.from-2.result c.from-2.ensures in
    let fits = key_fits packed c.args.spot.index kept text there c.text_from-text.ensures in
    omega (arith, long, fits, c.from-2.ensures)

pub of-requires-2 : goal.of-requires-2
of-requires-2 c =
    let packed = packed_as c.self.invariant c.self.view_is in
    let kept = c.index.result.now in
    let there = kept_read packed c.args.spot.index kept c.requires.there c.index.ensures in
    let text = c.text_from-text.result.now in
    value_part_fits packed c.args.spot.index kept text there c.text_from-text.ensures c.from.result c.from.ensures c.text_len.result c.text_len.ensures

pub returns : goal.returns
returns c =
    let packed = packed_as c.self.invariant c.self.view_is in
    let kept = c.index.result.now in
    let there = kept_read packed c.args.spot.index kept c.requires.there c.index.ensures in
    let text = c.text_from-text.result.now in
    let key = c.of.ensures ∙ key_part packed c.args.spot.index kept text there c.text_from-text.ensures c.from-2.result c.from-2.ensures in
    let value = c.of-2.ensures ∙ value_part packed c.args.spot.index kept text there c.text_from-text.ensures c.from.result c.from.ensures c.text_len.result c.text_len.ensures in
    rw (key, value) (this_read packed c.args.spot.index kept text there c.text_from-text.ensures)
