use Rattle.exh_transfer.proofs.PlacedBlocks.{placed_file}
use Rattle.exh_transfer.proofs.PlainBlocks.{plain_file}
use Rattle.exh_transfer.proofs.SavedMaps.{maps_saved}
use Rattle.exh_transfer.proofs.salvage_laws.legal_files_are_saved.Goals as goal

pub returns-clause-placed : goal.returns-clause-placed
returns-clause-placed c = placed_file c.images_are_blocks.ensures c.pages_are_saved.ensures c.whole_files_are_saved.ensures

pub returns-clause-plain : goal.returns-clause-plain
returns-clause-plain c = plain_file c.images_are_blocks.ensures c.pages_are_saved.ensures c.whole_files_are_saved.ensures

pub returns-clause-maps : goal.returns-clause-maps
returns-clause-maps c =
    let placed = placed_file c.images_are_blocks.ensures c.pages_are_saved.ensures c.whole_files_are_saved.ensures in
    let plain = plain_file c.images_are_blocks.ensures c.pages_are_saved.ensures c.whole_files_are_saved.ensures in
    maps_saved c.legal_bytes_are_files.ensures placed plain
