use Rattle.std.proofs.Common.{length, ap, arith}
use Rattle.exh_page.proofs.PackedReads.{bytes_from, start_inside, packed_as}
use Rattle.exh_page.proofs.packed_records.PackedRecords.text_from.Goals as goal

pub slice_bounds-result-count : goal.slice_bounds-result-count
slice_bounds-result-count c =
    omega (arith, c.requires, start_inside (packed_as c.self.invariant c.self.view_is) c.args.spot.index, ap length c.deref.ensures.value)

pub slice_bounds-result-start : goal.slice_bounds-result-start
slice_bounds-result-start c = slice_bounds-result-count c

pub returns : goal.returns
returns c = bytes_from (packed_as c.self.invariant c.self.view_is) c.deref.result.now c.args.spot.index c.args.spot.start c.deref.ensures.value c.requires
