use Rattle.std.proofs.Common.{arith}
use Rattle.exh_prefix.specs.Version.{four_bytes}
use Rattle.exh_notice.specs.ImageLemmas.{four_fit, prefix_field-shr}
use Rattle.exh_notice.proofs.entry_image.prefix_field.Goals as goal

pub returns : goal.returns
returns c = rw c.low.ensures (prefix_field-shr four_bytes four_fit c.args.prefix (omega arith))
