use Rattle.std.proofs.Common.{drop, ◌∙◌, arith}
use Rattle.std.proofs.lemmas.List.{take_all, length-drop}
use Rattle.exh_codec.proofs.block.digest_in.Goals as goal

pub returns : goal.returns
returns c =
    let block = c.args.block.now in
    c.copy_from_slice.ensures.after ∙ take_all 32 (drop 4064 block) (omega (arith, c.told-block, length-drop 4064 block))
