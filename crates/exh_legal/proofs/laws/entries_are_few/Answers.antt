use Rattle.exh_legal.proofs.EntryCount.{entry_count}
use Rattle.exh_legal.proofs.laws.entries_are_few.Goals as goal

pub returns : goal.returns
returns c ward table pages short linked fits = entry_count pages short linked fits
