use Rattle.exh_notice.specs.Entry.{entry_of}
use Rattle.exh_table.specs.SetLemmas.{one_more}
use Rattle.exh_table.proofs.laws.one_notice_more_is_taken.Goals as goal

pub returns : goal.returns
returns c told table notice is = one_more told table notice.prefix (entry_of notice) is
