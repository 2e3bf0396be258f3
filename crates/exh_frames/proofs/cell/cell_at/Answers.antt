use Rattle.std.proofs.Common.{◌≡◌, ℕ, ◌+◌, ◌-◌, length, take, drop, ap, ◌∙◌, arith}
use Rattle.exh_codec.specs.CellLemmas.{length-pair_image}
use Rattle.exh_frames.proofs.Cells.{cell_bytes}
use Rattle.exh_frames.proofs.cell.cell_at.Goals as goal

pub overflow_add-key_start : goal.overflow_add-key_start
overflow_add-key_start c = let at = cell_bytes c.args.block.now c.args.start c.requires.0 c.requires.1 c.requires.2 in omega (arith, at.fits, c.told-block)

pub bounds-block-start : goal.bounds-block-start
bounds-block-start c = let at = cell_bytes c.args.block.now c.args.start c.requires.0 c.requires.1 c.requires.2 in omega (arith, at.fits, c.told-block)

pub overflow_add-key_end : goal.overflow_add-key_end
overflow_add-key_end c = let at = cell_bytes c.args.block.now c.args.start c.requires.0 c.requires.1 c.requires.2 in omega (arith, at.fits, at.key_len, c.from.ensures, c.told-block)

pub overflow_add-start : goal.overflow_add-start
overflow_add-start c = let at = cell_bytes c.args.block.now c.args.start c.requires.0 c.requires.1 c.requires.2 in omega (arith, at.fits, c.told-block)

pub bounds-block-start-2 : goal.bounds-block-start-2
bounds-block-start-2 c = let at = cell_bytes c.args.block.now c.args.start c.requires.0 c.requires.1 c.requires.2 in omega (arith, at.fits, c.told-block)

pub overflow_add-end : goal.overflow_add-end
overflow_add-end c =
    let at = cell_bytes c.args.block.now c.args.start c.requires.0 c.requires.1 c.requires.2 in
    omega (arith, at.fits, at.key_len, at.value_len, c.from.ensures, c.from-2.ensures, c.told-block)

pub slice_bounds-result-end : goal.slice_bounds-result-end
slice_bounds-result-end c =
    let at = cell_bytes c.args.block.now c.args.start c.requires.0 c.requires.1 c.requires.2 in
    omega (arith, at.fits, at.key_len, c.from.ensures, c.told-block)

pub slice_bounds-result-end-2 : goal.slice_bounds-result-end-2
slice_bounds-result-end-2 c =
    let at = cell_bytes c.args.block.now c.args.start c.requires.0 c.requires.1 c.requires.2 in
    omega (arith, at.fits, at.key_len, at.value_len, c.from.ensures, c.from-2.ensures, c.told-block)

pub returns : goal.returns
returns c pair rest is =
    let at = cell_bytes c.args.block.now c.args.start pair rest is in
    let key_size : c.args.start + 2 + c.from.result - (c.args.start + 2) ≡ length pair.0 = omega (arith, at.key_len, c.from.ensures) in
    let key_end : c.args.start + 2 + c.from.result ≡ c.args.start + 2 + length pair.0 = omega (arith, at.key_len, c.from.ensures) in
    let value_size : c.args.start + 2 + c.from.result + c.from-2.result - (c.args.start + 2 + c.from.result) ≡ length pair.1 = omega (arith, at.value_len, c.from-2.ensures) in
    record {
      key = ap (λ (n : ℕ). take n (drop (c.args.start + 2) c.args.block.now)) key_size ∙ at.key;
      value = ap (λ (n : ℕ). take n (drop (c.args.start + 2 + c.from.result) c.args.block.now)) value_size ∙ ap (λ (n : ℕ). take (length pair.1) (drop n c.args.block.now)) key_end ∙ at.value;
      end = omega (arith, at.key_len, at.value_len, c.from.ensures, c.from-2.ensures, length-pair_image pair);
    }
