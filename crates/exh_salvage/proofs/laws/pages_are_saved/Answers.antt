use Rattle.exh_salvage.proofs.SavedPages.{live_page, no_page, same_pairs}
use Rattle.exh_salvage.proofs.laws.pages_are_saved.Goals as goal

pub returns : goal.returns
returns c = record { live = live_page; pairs = same_pairs c.images_are_sealed.ensures c.blocks_are_read.ensures; others = no_page }
