use Rattle.std.proofs.Common.{sym, ap, ◌∙◌, arith}
use Rattle.std.specs.Int.Bits.{bit_and}
use Rattle.exh_prefix.specs.PrefixLemmas.{lowest_cleared-and}
use Rattle.exh_prefix.proofs.prefix.Prefix.clear_lowest.Goals as goal

pub returns : goal.returns
returns c = ap (bit_and c.args.low) c.saturating_sub.ensures ∙ sym (lowest_cleared-and c.args.low (omega arith))
