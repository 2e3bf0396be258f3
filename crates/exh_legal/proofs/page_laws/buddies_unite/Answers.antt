use Rattle.std.proofs.Common.{arith}
use Rattle.exh_page.specs.ShareLemmas.{AreRecordsOf-buddies}
use Rattle.exh_legal.proofs.page_laws.buddies_unite.Goals as goal

pub returns : goal.returns
returns c pseudo prefix left right fits short fore aft = AreRecordsOf-buddies pseudo prefix left right (omega arith) fits fore aft
