use Rattle.std.proofs.Common.{arith}
use Rattle.exh_prefix.proofs.Made.{right_test}
use Rattle.exh_prefix.proofs.prefix.Prefix.is_right_child.Goals as goal

pub returns-then-self-ne0 : goal.returns-then-self-ne0
returns-then-self-ne0 c = right_test c.args.self _ _ c.self.view_is c.self.invariant (omega arith)
