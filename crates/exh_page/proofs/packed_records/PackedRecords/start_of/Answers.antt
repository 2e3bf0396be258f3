use Rattle.std.proofs.Common.{◌+◌, length, ap, arith}
use Rattle.exh_page.proofs.PackedReads.{start_step, start_inside, packed_as}
use Rattle.exh_page.proofs.packed_records.PackedRecords.start_of.Goals as goal

pub overflow_add-start : goal.overflow_add-start
overflow_add-start c =
    let packed = packed_as c.self.invariant c.self.view_is in
    let next = start_step packed c.deref.result.now c.args.at c.loop-stored.stored-index _ c.loop-stored.start c.text_len-start.result
    c.deref.ensures.value c.requires c.loop-stored-test.true c.loop-stored.invariant c.text_len-start.ensures in
    omega (arith, next, start_inside packed (c.loop-stored.stored-index + 1), ap length c.as_slice.ensures.value, c.as_slice.type_inv.0)

pub loop-stored-preserved : goal.loop-stored-preserved
loop-stored-preserved c =
    start_step (packed_as c.self.invariant c.self.view_is) c.deref.result.now c.args.at c.loop-stored.stored-index _ c.loop-stored.start c.text_len-start.result
    c.deref.ensures.value c.requires c.loop-stored-test.true c.loop-stored.invariant c.text_len-start.ensures

pub prove-unreachable-requires : goal.prove-unreachable-requires
prove-unreachable-requires c =
    omega (arith, c.loop-stored.invariant, start_inside (packed_as c.self.invariant c.self.view_is) c.loop-stored.stored-index, ap length c.as_slice.ensures.value)
