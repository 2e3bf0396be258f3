use Rattle.exh_legal.specs.BuiltIndex.{IsAimedBy}
use Rattle.exh_legal.proofs.Each.{EachBelow}
use Rattle.exh_legal.proofs.links.has_targets.Given as goal

abbrev pub invariant-loop-number : goal.invariant-loop-number
invariant-loop-number g l = EachBelow (IsAimedBy l.index.entries) (g.P.PageList.pages l.pages) l.number
