use Rattle.std.proofs.Common.{◌≡◌, ◌≤◌, ◌++◌, length, take, drop, replicate, ap, ◌∙◌, arith}
use Rattle.exh_codec.specs.Block.{sealed}
use Rattle.exh_codec.specs.BlockLemmas.{front_padded}
use Rattle.exh_format.specs.WaitingImages.{bytes_of}
use Rattle.exh_format.proofs.waiting_images.WaitingImages.to_block.Goals as goal

pub returns : goal.returns
returns c =
    let used = bytes_of c.args.self.now in
    let front : c.copy_from_slice.new.self ≡ used = c.copy_from_slice.ensures.after ∙ c.as_slice.ensures.value in
    let len : c.len.result ≡ length used = c.len.ensures.value in
    let fits : length used ≤ 4064 = omega (arith, c.len.ensures.fits, len) in
    let put : c.copy_from_slice.new.self ++ drop c.len.result (replicate 4096 0) ≡ used ++ drop (length used) (replicate 4096 0) = (λ i. front i ++ drop (len i) (replicate 4096 0)) in
    c.seal.ensures.block ∙ ap sealed (ap (take 4064) put ∙ front_padded used 4064 4096 fits (omega arith))
