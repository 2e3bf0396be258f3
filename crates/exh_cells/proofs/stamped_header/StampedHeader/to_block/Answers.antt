use Rattle.std.proofs.Common.{◌≡◌, ◌≤◌, ◌++◌, List, ℕ, length, take, drop, replicate, append_assoc, ap, ◌∙◌, arith}
use Rattle.std.specs.List.{flat_map}
use Rattle.byteorder.specs.Endian.{big_bytes}
use Rattle.exh_codec.specs.Block.{sealed}
use Rattle.exh_codec.specs.BlockLemmas.{front_padded}
use Rattle.exh_format.specs.HeaderImage.{front_bytes}
use Rattle.exh_cells.specs.StampedHeader.{placed_format, plain_header, stamped_bytes}
use Rattle.exh_cells.proofs.stamped_header.StampedHeader.to_block.Goals as goal

pub returns : goal.returns
returns c =
    let header = c.args.self.now in
    let used = stamped_bytes header in
    let front = front_bytes placed_format (plain_header header) in
    let counts = flat_map (big_bytes 4) header.page_counts in
    let bytes : c.push_stamp-2.new.bytes.items ≡ used =
    c.push_stamp-2.ensures.bytes ∙ ap (λ (bytes : List ℕ). bytes ++ big_bytes 8 header.before) (c.push_stamp.ensures.bytes
    ∙ ap (λ (bytes : List ℕ). bytes ++ big_bytes 8 header.stamp) (c.push_counts.ensures.bytes ∙ ap (λ (bytes : List ℕ). bytes ++ counts) (c.push_bytes.ensures ∙ (λ i. c.new-bytes.ensures i ++ c.front.ensures i))))
    ∙ append_assoc (front ++ counts) (big_bytes 8 header.stamp) (big_bytes 8 header.before) in
    let put : c.copy_from_slice.new.self ≡ used = c.copy_from_slice.ensures.after ∙ c.as_slice.ensures.value ∙ bytes in
    let len : c.len.result ≡ length used = c.len.ensures.value ∙ ap length bytes in
    let fits : length used ≤ 4064 = omega (arith, len, c.len.ensures.fits) in
    let over : c.copy_from_slice.new.self ++ drop c.len.result (replicate 4096 0) ≡ used ++ drop (length used) (replicate 4096 0) = (λ i. put i ++ drop (len i) (replicate 4096 0)) in
    record { valid = c.requires; whole = c.seal.ensures.block ∙ ap sealed (ap (take 4064) over ∙ front_padded used 4064 4096 fits (omega arith)) }
