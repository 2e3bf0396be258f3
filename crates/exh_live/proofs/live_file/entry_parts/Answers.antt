use Rattle.std.proofs.Common.{arith}
use Rattle.exh_live.proofs.Order.{parts_within}
use Rattle.exh_live.proofs.live_file.entry_parts.Goals as goal

pub pow-requires : goal.pow-requires
pow-requires c = omega (arith, parts_within c.from.result (omega (arith, c.requires, c.from.ensures)))
