use Rattle.std.proofs.Common.{◌≡◌, ◌≤◌, ◌++◌, ap, ◌∙◌, length, take, drop, replicate, arith}
use Rattle.std.specs.List.{flat_map}
use Rattle.exh_codec.specs.Block.{sealed}
use Rattle.exh_codec.specs.BlockLemmas.{front_padded}
use Rattle.exh_cells.specs.WalkImage.{cell_bytes}
use Rattle.exh_cells.proofs.CellBytes.{length-cells}
use Rattle.exh_cells.proofs.WalkBytes.{cells_from}
use Rattle.exh_cells.proofs.walk_image.encode_cells.Goals as goal

pub returns : goal.returns
returns c =
    let used = flat_map cell_bytes c.args.cells.now in
    let bytes : c.push_cells.new.bytes.items ≡ used = c.push_cells.ensures.bytes in
    let front : c.copy_from_slice.new.self ≡ used = c.copy_from_slice.ensures.after ∙ c.as_slice.ensures.value ∙ bytes in
    let len : c.len.result ≡ length used = c.len.ensures.value ∙ ap length bytes in
    let fits : length used ≤ 4064 = omega (arith, length-cells c.args.cells.now c.push_cells.ensures.read, c.requires) in
    let put : c.copy_from_slice.new.self ++ drop c.len.result (replicate 4096 0) ≡ used ++ drop (length used) (replicate 4096 0) = (λ i. front i ++ drop (len i) (replicate 4096 0)) in
    let whole = c.seal.ensures.block ∙ ap sealed (ap (take 4064) put ∙ front_padded used 4064 4096 fits (omega arith)) in
    record {
      bytes = whole;
      image = λ tidy. record { few = c.requires; valid = cells_from c.args.cells.now c.push_cells.ensures.read tidy; whole = whole };
    }
