use Rattle.std.proofs.Common.{rules}
use Rattle.exh_prefix.specs.Bits.{bits_of}
use Rattle.exh_compact.proofs.page_shape.PageShape.of.Goals as goal

pub returns-in-Forward : goal.returns-in-Forward
unfolding bits_of
returns-in-Forward c = search rules
