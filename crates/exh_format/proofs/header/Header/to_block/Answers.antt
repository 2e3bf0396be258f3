use Rattle.std.proofs.Common.{◌≡◌, ◌++◌, length, take, drop, replicate, ap, sym, ◌∙◌, arith}
use Rattle.exh_codec.specs.Block.{sealed}
use Rattle.exh_codec.specs.BlockLemmas.{front_padded}
use Rattle.exh_codec.specs.PageImage.{padded}
use Rattle.exh_format.specs.FileVersion.{written_format}
use Rattle.exh_format.specs.HeaderImage.{header_bytes}
use Rattle.exh_format.proofs.HeaderBytes.{length-header_bytes}
use Rattle.exh_format.proofs.header.Header.to_block.Goals as goal

pub returns : goal.returns
returns c =
    let used = header_bytes written_format c.args.self.now in
    let len : length used ≡ 84 = length-header_bytes written_format c.args.self.now c.requires.counts in
    let put : c.put.new.block ≡ used ++ drop (length used) (replicate 4096 0) = c.put.ensures ∙ ap (λ n. used ++ drop n (replicate 4096 0)) (sym len) in
    let content : take 4064 c.put.new.block ≡ padded 4064 used = ap (take 4064) put ∙ front_padded used 4064 4096 (omega (arith, len)) (omega arith) in
    record { valid = c.requires; whole = c.seal.ensures.block ∙ ap sealed content }
