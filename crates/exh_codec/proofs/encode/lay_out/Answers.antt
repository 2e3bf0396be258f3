use Rattle.exh_codec.proofs.UsedBytes.{widest}
use Rattle.std.proofs.Common.{◌∙◌, ap, take, drop, arith}
use Rattle.exh_codec.specs.PageImage.{content_of, used_of}
use Rattle.exh_codec.specs.BlockLemmas.{front_padded, back_padded}
use Rattle.exh_codec.proofs.UsedBytes.{length-used_of}
use Rattle.exh_codec.proofs.encode.lay_out.Goals as goal

pub returns-clause-content : goal.returns-clause-content
unfolding content_of
returns-clause-content c =
    let short = length-used_of widest c.args.page.now c.put_page.ensures.in_range c.requires in
    ap (take 4064) c.put_page.ensures.used ∙ front_padded (used_of c.args.page.now) 4064 4096 (omega arith) (omega arith)

pub returns-clause-digest : goal.returns-clause-digest
returns-clause-digest c =
    let short = length-used_of widest c.args.page.now c.put_page.ensures.in_range c.requires in
    ap (drop 4064) c.put_page.ensures.used ∙ back_padded (used_of c.args.page.now) 4064 4096 (omega arith) (omega arith)
