use Rattle.std.proofs.Common.{◌≤◌, length, refl, sym, ◌∙◌, arith}
use Rattle.std.proofs.lemmas.Bool.{false≢true}
use Rattle.exh_page.specs.Page.{records_of}
use Rattle.exh_legal.proofs.Each.{each_all, each_more}
use Rattle.exh_legal.proofs.cap.keeps_cap.Goals as goal

pub returns-then-not-holds_at_most : goal.returns-then-not-holds_at_most
returns-then-not-holds_at_most g c = (
  λ is. absurd (false≢true is),
  λ kept. absurd (false≢true (sym c.if-not-holds_at_most.true ∙ (c.holds_at_most.ensures c.head.ensures.0 c.head.ensures.2).1 (kept c.loop-number.number c.head.ensures.0 c.head.ensures.1))),
)

pub loop-number-preserved : goal.loop-number-preserved
loop-number-preserved g c = each_more (λ page. length (records_of page) ≤ c.args.cap) (g.P.PageList.pages c.args.pages.now) c.loop-number.number c.loop-number.invariant c.head.ensures.0 c.head.ensures.1 ((c.holds_at_most.ensures c.head.ensures.0 c.head.ensures.2).0 c.if-not-holds_at_most.false)

pub returns : goal.returns
returns g c = (
  λ _. each_all (λ page. length (records_of page) ≤ c.args.cap) (g.P.PageList.pages c.args.pages.now) c.loop-number.number (omega (arith, c.loop-number-test.false, c.page_count-number-end.ensures)) c.loop-number.invariant,
  λ _. refl,
)
