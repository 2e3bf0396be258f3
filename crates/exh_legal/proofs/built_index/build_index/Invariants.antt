use Rattle.exh_legal.specs.LegalParts.{IsBounded}
use Rattle.exh_legal.proofs.Each.{EachBelow}
use Rattle.exh_legal.proofs.Index.{IsBegunIndex}
use Rattle.exh_legal.proofs.built_index.build_index.Given as goal

abbrev pub invariant-loop-number : goal.invariant-loop-number
invariant-loop-number g l = IsBegunIndex l.ward (g.P.PageList.pages l.pages) l.number l.index.entries × EachBelow IsBounded (g.P.PageList.pages l.pages) l.number
