use Rattle.exh_in_place.proofs.RefusalLemmas.{whole_for}
use Rattle.exh_in_place.proofs.laws.legal_files_are_whole.Goals as goal

pub returns : goal.returns
returns c = whole_for c.blocks_stand.ensures.headers c.stamped_headers_pass.ensures.pass
