use Rattle.std.proofs.Common.{arith}
use Rattle.exh_edits.proofs.Counts.{few_pages}
use Rattle.exh_edits.proofs.homing.come_home.Goals as goal

pub page_block-requires : goal.page_block-requires
page_block-requires g c = omega (arith, c.in_ok-place.ensures.ok.there, few_pages c.args.header.now c.requires.header)
