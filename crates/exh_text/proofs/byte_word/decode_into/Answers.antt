use Rattle.std.proofs.Common.{ap, is_ok}
use Rattle.exh_text.proofs.Hexadecimal.{decoded_into}
use Rattle.exh_text.proofs.byte_word.decode_into.Goals as goal

pub unwrap-requires : goal.unwrap-requires
unwrap-requires c = ap is_ok (decoded_into c.args.digits.now c.args.out.now _ _ c.requires.spelled c.decode_to_slice.ensures.value c.requires.room).0

pub returns : goal.returns
returns c = (decoded_into c.args.digits.now c.args.out.now _ _ c.requires.spelled c.decode_to_slice.ensures.value c.requires.room).1
