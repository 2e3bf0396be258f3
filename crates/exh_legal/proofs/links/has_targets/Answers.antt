use Rattle.std.proofs.Common.{refl, sym, ◌∙◌, arith}
use Rattle.std.proofs.lemmas.Bool.{false≢true}
use Rattle.exh_legal.specs.BuiltIndex.{IsAimedBy}
use Rattle.exh_legal.proofs.Each.{each_all, each_more}
use Rattle.exh_legal.proofs.Next.{targets_from, targets_to}
use Rattle.exh_legal.proofs.links.has_targets.Goals as goal

pub returns-then-not-is_aimed : goal.returns-then-not-is_aimed
returns-then-not-is_aimed g c = (
  λ is. absurd (false≢true is),
  λ targets. absurd (false≢true (sym c.if-not-is_aimed.true ∙ (c.is_aimed.ensures c.head.ensures.0 c.head.ensures.2).1 (targets_to (g.P.PageList.pages c.args.pages.now) c.args.index.now.entries c.requires targets c.loop-number.number c.head.ensures.0 c.head.ensures.1))),
)

pub loop-number-preserved : goal.loop-number-preserved
loop-number-preserved g c = each_more (IsAimedBy c.args.index.now.entries) (g.P.PageList.pages c.args.pages.now) c.loop-number.number c.loop-number.invariant c.head.ensures.0 c.head.ensures.1 ((c.is_aimed.ensures c.head.ensures.0 c.head.ensures.2).0 c.if-not-is_aimed.false)

pub returns : goal.returns
returns g c = (
  λ _. targets_from (g.P.PageList.pages c.args.pages.now) c.args.index.now.entries c.requires (each_all (IsAimedBy c.args.index.now.entries) (g.P.PageList.pages c.args.pages.now) c.loop-number.number (omega (arith, c.loop-number-test.false, c.page_count-number-end.ensures)) c.loop-number.invariant),
  λ _. refl,
)
