use Rattle.std.proofs.Common.{◌≡◌, cond, length, Some, sym, ap, ◌∙◌, subst, arith}
use Rattle.std.specs.BTreeMap.{is_at}
use Rattle.std.specs.Ordering.{nat_cmp}
use Rattle.std.proofs.lemmas.Bool.{false≢true}
use Rattle.exh_prefix.specs.Prefix.{Begins}
use Rattle.exh_page.specs.Page.{low_bound}
use Rattle.exh_legal.specs.BuiltIndex.{page_number_at}
use Rattle.exh_legal.specs.LegalParts.{IsBounded}
use Rattle.exh_legal.proofs.Each.{each_all, each_more}
use Rattle.exh_legal.proofs.Index.{IsBegunIndex, all_indexed, more_index, no_index, shared_low_found, none_found}
use Rattle.exh_legal.proofs.built_index.build_index.Goals as goal
use Rattle.exh_legal.proofs.built_index.build_index.Goals.{then-not-begins-via-then-not-begins, then-not-begins-via-else-not-begins+then-contains_key}

pub returns-then-not-begins : goal.returns-then-not-begins
returns-then-not-begins g c lows = elim c.then-not-begins.branch [
  | then-not-begins-via-then-not-begins w ↦
      absurd (false≢true (sym w.if-not-begins.true ∙ c.begins.ensures.1 (subst (Begins c.args.ward) (sym (c.low_bound_of-low.ensures.low c.head.ensures.0 c.head.ensures.2)) (lows.within c.loop-number.number c.head.ensures.0 c.head.ensures.1))))
  | then-not-begins-via-else-not-begins+then-contains_key w ↦
      shared_low_found c.args.ward _ c.loop-number.number c.loop-number.index.entries c.head.ensures.0 c.loop-number.invariant.0 c.head.ensures.1 c.low_bound_of-low.result (c.low_bound_of-low.ensures.low c.head.ensures.0 c.head.ensures.2) (sym w.contains_key.ensures ∙ w.if-contains_key.true) lows
]

pub loop-number-init : goal.loop-number-init
loop-number-init g c = (no_index c.args.ward (g.P.PageList.pages c.args.pages.now) c.new-index.result.entries c.new-index.ensures.empty, λ number page less there. absurd (omega (arith, less)))

pub loop-number-preserved : goal.loop-number-preserved
loop-number-preserved g c =
    let same : low_bound c.head.ensures.0 ≡ c.low_bound_of-low.result = sym (c.low_bound_of-low.ensures.low c.head.ensures.0 c.head.ensures.2) in (
      more_index c.args.ward _ c.loop-number.number c.loop-number.index.entries c.insert.new.self.entries c.head.ensures.0 c.loop-number.invariant.0 c.head.ensures.1 (subst (Begins c.args.ward) (c.low_bound_of-low.ensures.low c.head.ensures.0 c.head.ensures.2) ((c.begins.ensures).0 c.if-not-begins.false))
          (none_found c.loop-number.index.entries c.low_bound_of-low.result (low_bound c.head.ensures.0) (sym same) (sym c.contains_key.ensures ∙ c.if-contains_key.false)) (λ query. c.in_ok-insert.ensures.updates.0 query ∙ ap (λ key. cond (is_at (nat_cmp key) query) (Some c.loop-number.number) (page_number_at c.loop-number.index.entries query)) (c.low_bound_of-low.ensures.low c.head.ensures.0 c.head.ensures.2)),
      each_more IsBounded (g.P.PageList.pages c.args.pages.now) c.loop-number.number c.loop-number.invariant.1 c.head.ensures.0 c.head.ensures.1 (c.low_bound_of-low.ensures.bounded c.head.ensures.0 c.head.ensures.2),
    )

pub returns : goal.returns
returns g c =
    let all : c.loop-number.number ≡ length (g.P.PageList.pages c.args.pages.now) = omega (arith, c.loop-number-test.false, c.loop-number.auto.number-end, c.page_count-number-end.ensures) in
    let both = all_indexed c.args.ward (g.P.PageList.pages c.args.pages.now) c.loop-number.index.entries (subst (λ n. IsBegunIndex c.args.ward (g.P.PageList.pages c.args.pages.now) n c.loop-number.index.entries) all c.loop-number.invariant.0) ((c.begins_ward.ensures).0 c.if-not-begins_ward.false) in
    (both.0, both.1, each_all IsBounded (g.P.PageList.pages c.args.pages.now) c.loop-number.number (omega (arith, all)) c.loop-number.invariant.1)
