use Rattle.std.proofs.Common.{◌+◌, length, sym, ap, subst, arith}
use Rattle.exh_page.specs.Search.{IsGap}
use Rattle.exh_page.proofs.PackedReads.{as_many, before_packed, bytes_from, found_packed, gap_packed, key_inside, packed_as, start_added, start_inside}
use Rattle.exh_page.proofs.Searched.{gap_at_end}
use Rattle.exh_page.proofs.packed_records.PackedRecords.search.Goals as goal

pub slice_bounds-cmp_place-count : goal.slice_bounds-cmp_place-count
slice_bounds-cmp_place-count c =
    omega (arith, c.loop-i.invariant.start_of, start_inside (packed_as c.self.invariant c.self.view_is) c.loop-i.i, ap length c.deref.ensures.value)

pub slice_bounds-cmp_place-start : goal.slice_bounds-cmp_place-start
slice_bounds-cmp_place-start c = slice_bounds-cmp_place-count c

pub cmp_place-requires : goal.cmp_place-requires
cmp_place-requires c =
    let packed = packed_as c.self.invariant c.self.view_is in
    let text = bytes_from packed c.deref.result.now c.loop-i.i c.loop-i.start c.deref.ensures.value c.loop-i.invariant.start_of in
    key_inside packed c.deref-stored-items.result.now c.loop-i.i _ _ c.deref-stored-items.ensures.value c.loop-i-test.true text

pub returns-in-Equal : goal.returns-in-Equal
returns-in-Equal c =
    let packed = packed_as c.self.invariant c.self.view_is in
    let text = bytes_from packed c.deref.result.now c.loop-i.i c.loop-i.start c.deref.ensures.value c.loop-i.invariant.start_of in
    (c.loop-i.invariant.start_of, found_packed packed _ _ c.loop-i.i _ _ c.deref-stored-items.ensures.value c.loop-i-test.true text c.loop-i.invariant.before c.requires c.in-Equal.ensures)

pub returns-in-Greater : goal.returns-in-Greater
returns-in-Greater c =
    let packed = packed_as c.self.invariant c.self.view_is in
    let text = bytes_from packed c.deref.result.now c.loop-i.i c.loop-i.start c.deref.ensures.value c.loop-i.invariant.start_of in
    (c.loop-i.invariant.start_of, gap_packed packed _ _ c.loop-i.i _ _ c.deref-stored-items.ensures.value c.loop-i-test.true text c.loop-i.invariant.before c.requires c.in-Greater.ensures)

pub overflow_add-start : goal.overflow_add-start
overflow_add-start c =
    let packed = packed_as c.self.invariant c.self.view_is in
    let next = start_added packed c.deref-stored-items.result.now c.loop-i.i _ c.loop-i.start c.text_len-start.result c.deref-stored-items.ensures.value c.loop-i-test.true c.loop-i.invariant.start_of c.text_len-start.ensures in
    omega (arith, next, start_inside packed (c.loop-i.i + 1), ap length c.deref.ensures.value, c.deref.type_inv.0)

pub loop-i-preserved : goal.loop-i-preserved
loop-i-preserved c =
    let packed = packed_as c.self.invariant c.self.view_is in
    let text = bytes_from packed c.deref.result.now c.loop-i.i c.loop-i.start c.deref.ensures.value c.loop-i.invariant.start_of in
    record {
      start_of = start_added packed c.deref-stored-items.result.now c.loop-i.i _ c.loop-i.start c.text_len-start.result c.deref-stored-items.ensures.value c.loop-i-test.true c.loop-i.invariant.start_of c.text_len-start.ensures;
      before = before_packed packed _ _ c.loop-i.i _ _ c.deref-stored-items.ensures.value c.loop-i-test.true text c.loop-i.invariant.before c.in-Less.ensures;
    }

pub returns : goal.returns
returns c =
    let packed = packed_as c.self.invariant c.self.view_is in
    let many = as_many packed in
    let same = ap length c.deref-stored-items.ensures.value in
    (c.end.ensures.spot, subst (IsGap _ c.args.self.now) (sym c.end.ensures.index) (gap_at_end _ c.args.self.now c.loop-i.i (omega arith) c.loop-i.invariant.before))
