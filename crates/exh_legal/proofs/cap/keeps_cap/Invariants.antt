use Rattle.std.proofs.Common.{◌≤◌, length}
use Rattle.exh_page.specs.Page.{records_of}
use Rattle.exh_legal.proofs.Each.{EachBelow}
use Rattle.exh_legal.proofs.cap.keeps_cap.Given as goal

abbrev pub invariant-loop-number : goal.invariant-loop-number
invariant-loop-number g l = EachBelow (λ page. length (records_of page) ≤ l.cap) (g.P.PageList.pages l.pages) l.number
