use Rattle.std.proofs.Common.{◌≡◌, ℕ, ◌<◌, ◌≤◌, length, None, Some, sym, ap, ◌∙◌, subst, arith}
use Rattle.std.specs.Map.Iter.{deref_pair}
use Rattle.std.proofs.lemmas.Bool.{eqb-true, eq-eqb, false≢true}
use Rattle.std.proofs.lemmas.Cmp.{nat_cmp_total}
use Rattle.std.proofs.lemmas.Map.Iter.{btree_map_turn}
use Rattle.std.proofs.lemmas.Option.{slice_get_within}
use Rattle.exh_prefix.specs.Prefix.{low_of}
use Rattle.exh_prefix.specs.declared.prefix.TheConstants.{LIMIT}
use Rattle.exh_page.specs.PageHead.{HasHead}
use Rattle.exh_legal.specs.BuiltIndex.{end_of, end_over}
use Rattle.exh_legal.proofs.Heads.{live_at}
use Rattle.exh_legal.proofs.LeafTests.{ended_leaves, leaves_end, stopped_short, stopped_apart}
use Rattle.exh_legal.proofs.leaves.has_leaves.Goals as goal
use Rattle.exh_legal.proofs.leaves.has_leaves.Goals.{then-len-least-via-then-len-least, then-len-least-via-else-len-least+then-from-end}

within_limit : {bits count : ℕ} → bits ≤ LIMIT → bits ≡ count → count ≤ LIMIT
within_limit most is = omega (arith, most, is)

less_as : {one other here there : ℕ} → one < other → one ≡ here → other ≡ there → here < there
less_as less is_here is_there = omega (arith, less, is_here, is_there)

pub head-requires : goal.head-requires
head-requires g c =
    let turn = btree_map_turn deref_pair c.loop-number.yielded c.into_iter-number-iterator.result c.loop-number.number-iterator c.next.new.self c.next.result (c.in-Some.field-0-0, c.in-Some.number) c.loop-number.yielded_by c.in-Some.is c.next.ensures.steps nat_cmp_total c.args.index.now (c.into_iter-number-iterator.ensures.into_iter_gives ∙ c.iter-number-items.ensures.rest) c.iter-number-items.ensures.ordered in
    let page = (c.requires.index c.in-Some.field-0-0.now c.in-Some.number.now).0 turn.1 in
    slice_get_within (g.P.PageList.pages c.args.pages.now) c.in-Some.number.now page.0 page.1

pub returns-then-len-least : goal.returns-then-len-least
returns-then-len-least g c =
    let short : length c.args.ward ≤ LIMIT = within_limit c.len-least.ensures.limit c.len-least.ensures.length in
    let pages = g.P.PageList.pages c.args.pages.now in
    let rest = c.in-Some.ensures.steps in
    let at = live_at pages c.in-Some.number.now c.in-Live.prefix c.in-Live.right c.in-Live.count (subst (HasHead pages c.in-Some.number.now) c.in-Live.is c.head.ensures) in
    let none : end_over pages (length c.args.ward) c.loop-number.end c.loop-number.number-iterator ≡ None =
    ap (end_over pages (length c.args.ward) c.loop-number.end) rest ∙ elim c.then-len-least.branch [
      | then-len-least-via-then-len-least w ↦ stopped_short pages (length c.args.ward) c.loop-number.end (c.in-Some.field-0-0.now, c.in-Some.number.now) c.next.new.self c.in-Live.prefix c.in-Live.right at.0 at.1 (less_as w.if-len-least.true c.len.ensures.length c.len-least.ensures.length)
      | then-len-least-via-else-len-least+then-from-end w ↦ stopped_apart pages (length c.args.ward) c.loop-number.end (c.in-Some.field-0-0.now, c.in-Some.number.now) c.next.new.self c.in-Live.prefix c.in-Live.right at.0 at.1 (λ same. w.if-from-end.true (w.from.ensures ∙ w.low-else-len-least.ensures ∙ same))
    ] in (
      λ is. absurd (false≢true is),
      λ leaves.
          let whole = leaves_end short c.requires.lows c.requires.bounded c.args.index.now.entries c.requires.index c.iter-number-items.ensures.ordered leaves in
          let clash : None ≡ Some (end_of c.args.ward) = sym none ∙ c.loop-number.invariant ∙ whole in
          cc,
    )

pub returns : goal.returns
returns g c =
    let short : length c.args.ward ≤ LIMIT = within_limit c.len-least.ensures.limit c.len-least.ensures.length in
    let pages = g.P.PageList.pages c.args.pages.now in
    let ended : Some c.loop-number.end ≡ end_over pages (length c.args.ward) (low_of c.args.ward) c.args.index.now.entries = ap (end_over pages (length c.args.ward) c.loop-number.end) (sym (c.in-None.ensures.steps).0) ∙ c.loop-number.invariant in (
      λ is. ended_leaves short c.requires.lows c.requires.bounded c.args.index.now.entries c.requires.index (sym ended ∙ ap (λ n. Some n) (eqb-true c.loop-number.end c.prefix_end.result is ∙ c.prefix_end.ensures)),
      λ leaves.
          let both : Some c.loop-number.end ≡ Some (end_of c.args.ward) = ended ∙ leaves_end short c.requires.lows c.requires.bounded c.args.index.now.entries c.requires.index c.iter-number-items.ensures.ordered leaves in
          let same : c.loop-number.end ≡ end_of c.args.ward = cc in
          eq-eqb c.loop-number.end c.prefix_end.result (same ∙ sym c.prefix_end.ensures),
    )
