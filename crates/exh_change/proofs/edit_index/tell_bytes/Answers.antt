use Rattle.exh_change.proofs.Elements.{all_bytes}
use Rattle.exh_change.proofs.edit_index.tell_bytes.Goals as goal

pub returns : goal.returns
returns c = (c.told-block, all_bytes c.args.block.now c.fits-block)
