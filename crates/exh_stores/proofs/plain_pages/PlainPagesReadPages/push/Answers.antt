use Rattle.std.proofs.Common.{◌∙◌}
use Rattle.exh_codec.specs.BlockLemmas.{digest_of_sealed}
use Rattle.exh_codec.specs.PageImage.{content_of}
use Rattle.exh_stores.proofs.plain_pages.PlainPagesReadPages.push.Goals as goal

pub with_digest-requires : goal.with_digest-requires
with_digest-requires g c = c.digest_in-digest.ensures ∙ digest_of_sealed c.args.block.now (content_of c.args.page) c.told-block c.requires.block.whole
