use Rattle.exh_notice.specs.Entry.{entry_of}
use Rattle.exh_table.specs.SetLemmas.{put_back}
use Rattle.exh_table.proofs.laws.put_back_undoes.Goals as goal

pub returns : goal.returns
returns c table notice = put_back table notice.prefix (entry_of notice)
