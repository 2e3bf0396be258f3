use Rattle.std.proofs.Common.{◌≡◌, List, ℕ, ◌+◌, ◌-◌, ◌++◌, drop, length, ap, ◌∙◌, sym, arith}
use Rattle.exh_codec.specs.Cells.{Pair, pair_image}
use Rattle.exh_codec.specs.CellLemmas.{length-pair_image, put_pair}
use Rattle.exh_frames.proofs.edit.write_cell.Goals as goal

pub returns-clause-bytes : goal.returns-clause-bytes
returns-clause-bytes c =
    let key = c.as_bytes-key.result.now in
    let value = c.as_bytes-value.result.now in
    let end = 2 + length key + length value in
    let put = put_pair c.args.out.now key value (2 + length key - 2) (end - (2 + length key)) (omega arith) (omega arith) (omega arith) in
    let same : (key, value) ≡ (c.args.key.now, c.args.value.now) =
    ap (λ (k : List ℕ). (k, value)) c.as_bytes-key.ensures.bytes ∙ ap (λ (v : List ℕ). (c.args.key.now, v)) c.as_bytes-value.ensures.bytes in
    let size : end ≡ length (pair_image (c.args.key.now, c.args.value.now)) = sym (length-pair_image (key, value)) ∙ ap (λ (pair : Pair). length (pair_image pair)) same in
    rw (c.copy_from_slice.ensures.after, c.copy_from_slice-2.ensures.after)
    (put ∙ ap (λ (pair : Pair). pair_image pair ++ drop end c.args.out.now) same ∙ ap (λ (n : ℕ). pair_image (c.args.key.now, c.args.value.now) ++ drop n c.args.out.now) size)
