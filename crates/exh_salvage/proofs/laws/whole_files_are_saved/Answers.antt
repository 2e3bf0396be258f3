use Rattle.exh_salvage.proofs.WholeFiles.{whole_file}
use Rattle.exh_salvage.proofs.laws.whole_files_are_saved.Goals as goal

pub returns : goal.returns
returns c failed bytes pages salvage stand is none = whole_file c.images_are_sealed.ensures c.blocks_are_read.ensures failed bytes pages stand salvage is none
