use Rattle.std.proofs.Common.{◌≡◌, List, ℕ, ◌+◌, ◌-◌, ◌++◌, drop, length, ap, ◌∙◌, arith}
use Rattle.exh_page.specs.KeyMap.{pair_of}
use Rattle.exh_codec.specs.Cells.{Pair, pair_image}
use Rattle.exh_codec.specs.CellLemmas.{put_pair, length-pair_image}
use Rattle.exh_codec.proofs.encode.put_record.Goals as goal

pub returns-clause-len : goal.returns-clause-len
returns-clause-len c = let len = length-pair_image (pair_of c.args.item.now) in let key = c.as_bytes-key.ensures.bytes in let value = c.as_bytes-value.ensures.bytes in
    omega (arith, len, ap (length {A = ℕ}) key, ap (length {A = ℕ}) value)

pub returns-clause-bytes : goal.returns-clause-bytes
returns-clause-bytes c =
    let key = c.as_bytes-key.result.now in
    let value = c.as_bytes-value.result.now in
    let end = 2 + length key + length value in
    let put = put_pair c.args.out.now key value (2 + length key - 2) (end - (2 + length key)) (omega arith) (omega arith) (omega arith) in
    let same : (key, value) ≡ pair_of c.args.item.now =
    ap (λ (k : List ℕ). (k, value)) c.as_bytes-key.ensures.bytes ∙ ap (λ (v : List ℕ). (c.args.item.now.key, v)) c.as_bytes-value.ensures.bytes in
    rw (c.copy_from_slice.ensures.after, c.copy_from_slice-2.ensures.after) (put ∙ ap (λ (pair : Pair). pair_image pair ++ drop end c.args.out.now) same)
