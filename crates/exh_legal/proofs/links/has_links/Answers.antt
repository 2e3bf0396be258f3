use Rattle.std.proofs.Common.{◌≤◌, length, refl, sym, ◌∙◌, arith}
use Rattle.std.proofs.lemmas.Bool.{false≢true}
use Rattle.exh_prefix.specs.declared.prefix.TheConstants.{LIMIT}
use Rattle.exh_legal.specs.BuiltIndex.{IsLinkedBy}
use Rattle.exh_legal.proofs.Each.{each_all, each_more}
use Rattle.exh_legal.proofs.Next.{index_small, links_from, links_to}
use Rattle.exh_legal.proofs.links.has_links.Goals as goal

pub is_linked-requires : goal.is_linked-requires
is_linked-requires g c = index_small (g.P.PageList.pages c.args.pages.now) c.args.index.now.entries c.requires.bounded c.requires.index

pub returns-then-not-is_linked : goal.returns-then-not-is_linked
returns-then-not-is_linked g c =
    let short : length c.args.ward ≤ LIMIT = omega (arith, c.len-bits.ensures.limit, c.len-bits.ensures.length) in (
      λ is. absurd (false≢true is),
      λ links. absurd (false≢true (sym c.if-not-is_linked.true ∙ (c.is_linked.ensures c.head.ensures.0 c.head.ensures.2).1 (links_to short c.requires.lows c.requires.leaves c.requires.bounded c.args.index.now.entries c.requires.index links c.loop-number.number c.head.ensures.0 c.head.ensures.1))),
    )

pub loop-number-preserved : goal.loop-number-preserved
loop-number-preserved g c = each_more (IsLinkedBy c.args.index.now.entries) (g.P.PageList.pages c.args.pages.now) c.loop-number.number c.loop-number.invariant c.head.ensures.0 c.head.ensures.1 ((c.is_linked.ensures c.head.ensures.0 c.head.ensures.2).0 c.if-not-is_linked.false)

pub returns : goal.returns
returns g c =
    let short : length c.args.ward ≤ LIMIT = omega (arith, c.len-bits.ensures.limit, c.len-bits.ensures.length) in (
      λ _. links_from short c.requires.lows c.requires.leaves c.requires.bounded c.args.index.now.entries c.requires.index (each_all (IsLinkedBy c.args.index.now.entries) (g.P.PageList.pages c.args.pages.now) c.loop-number.number (omega (arith, c.loop-number-test.false, c.page_count-number-end.ensures)) c.loop-number.invariant),
      λ _. refl,
    )
