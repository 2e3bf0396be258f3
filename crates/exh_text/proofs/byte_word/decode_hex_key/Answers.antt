use Rattle.std.proofs.Common.{◌/◌, length, refl, arith}
use Rattle.std.proofs.lemmas.Grind.{common_steps}
use Rattle.exh_text.proofs.Hexadecimal.{decode_sized-hex_bytes, length-decoded, prefix_whole, prefix_within}
use Rattle.exh_text.proofs.byte_word.decode_hex_key.Goals as goal

pub returns-then-len-gt-KEY_LIMIT : goal.returns-then-len-gt-KEY_LIMIT
returns-then-len-gt-KEY_LIMIT c =
    let read = decode_sized-hex_bytes c.args.digits.now (length c.args.digits.now / 2) c.requires refl in
    λ within. omega (arith, within.1, read.1)

pub returns : goal.returns
returns c =
    let read = decode_sized-hex_bytes c.args.digits.now (length c.args.digits.now / 2) c.requires refl in
    grind (arith, common_steps, read.1)

pub decode_into-requires-clause-spelled : goal.decode_into-requires-clause-spelled
decode_into-requires-clause-spelled c = c.requires

pub slice_bounds-bytes-end : goal.slice_bounds-bytes-end
slice_bounds-bytes-end c = c.if-len-gt-KEY_LIMIT.false

pub slice_bounds-from_bytes-end : goal.slice_bounds-from_bytes-end
slice_bounds-from_bytes-end c = prefix_whole _ _ _ (length-decoded c.args.digits.now _ c.requires c.decode_into.ensures)

pub slice_bounds-bytes-end-2 : goal.slice_bounds-bytes-end-2
slice_bounds-bytes-end-2 c = prefix_within _ _ _ (length-decoded c.args.digits.now _ c.requires c.decode_into.ensures)
