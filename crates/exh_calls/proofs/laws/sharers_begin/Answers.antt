use Rattle.std.proofs.Common.{arith}
use Rattle.exh_page.specs.PrefixLimits.{LIMIT}
use Rattle.exh_page.specs.LeadingLemmas.{begins_by-sharing, shared_begins}
use Rattle.exh_calls.proofs.laws.sharers_begin.Goals as goal

pub returns : goal.returns
returns c prefix one other short small fits = record {
  begun = shared_begins prefix LIMIT one other short (omega arith);
  alone = λ long begins begins_too. (begins_by-sharing prefix LIMIT one other long (omega arith) begins).0 begins_too;
}
