use Rattle.exh_prefix.proofs.Made.{bit_read}
use Rattle.exh_prefix.proofs.prefix.Prefix.bit.Goals as goal

pub returns : goal.returns
returns c = bit_read c.args.self _ _ c.args.place c.self.view_is c.self.invariant c.requires
