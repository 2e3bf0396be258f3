use Rattle.std.proofs.Common.{ap, length, arith}
use Rattle.exh_codec.specs.CellLemmas.{length-pair_image}
use Rattle.exh_frames.proofs.cell.cell_len.Goals as goal

pub returns-clause-len : goal.returns-clause-len
returns-clause-len c = omega (arith, length-pair_image (c.args.key.now, c.args.value.now), ap length c.as_bytes.ensures.bytes, ap length c.as_bytes-2.ensures.bytes)
