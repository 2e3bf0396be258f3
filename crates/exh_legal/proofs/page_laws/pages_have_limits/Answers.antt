use Rattle.std.proofs.Common.{arith}
use Rattle.exh_legal.proofs.page_laws.pages_have_limits.Goals as goal

pub returns : goal.returns
returns c pseudo prefix right records are = record {
  sixteen = λ is link. (are, omega arith, link);
  seventeen = λ is formed. omega (arith, formed.1);
  greatest = λ is formed. formed.2 is;
}
