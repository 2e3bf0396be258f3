use Rattle.exh_frames.proofs.images.ImagesReadPages.push.Goals as goal

pub add_block-requires-clause-image : goal.add_block-requires-clause-image
add_block-requires-clause-image g c = record { valid = record { in_range = c.requires.block.in_range; formed = c.requires.taken }; whole = c.requires.block.whole }
