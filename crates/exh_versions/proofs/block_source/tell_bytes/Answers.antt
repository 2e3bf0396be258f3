use Rattle.exh_versions.proofs.Elements.{all_bytes}
use Rattle.exh_versions.proofs.block_source.tell_bytes.Goals as goal

pub returns : goal.returns
returns c = (c.told-block, all_bytes c.args.block.now c.fits-block)
