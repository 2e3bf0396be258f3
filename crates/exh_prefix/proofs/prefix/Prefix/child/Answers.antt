use Rattle.std.proofs.Common.{arith}
use Rattle.std.proofs.Math.Facts.{Fits-of_lt}
use Rattle.exh_prefix.specs.PrefixLemmas.{stored_length}
use Rattle.exh_prefix.proofs.Made.{child_made}
use Rattle.exh_prefix.proofs.prefix.Prefix.child.Goals as goal

pub overflow_add-result : goal.overflow_add-result
overflow_add-result c = Fits-of_lt (child_made c.args.self c.args.bit _ _ _ c.self.view_is c.self.invariant (omega (arith, c.self.invariant.0.0)) c.from.ensures).invariant.1

pub invariant_of-result : goal.invariant_of-result
invariant_of-result c = (child_made c.args.self c.args.bit _ _ _ c.self.view_is c.self.invariant (omega (arith, c.self.invariant.0.0)) c.from.ensures).invariant

pub returns : goal.returns
returns c =
    let len = stored_length _ _ _ c.self.view_is c.self.invariant in
    (omega (arith, c.self.invariant.0.0), (child_made c.args.self c.args.bit _ _ _ c.self.view_is c.self.invariant (omega (arith, c.self.invariant.0.0)) c.from.ensures).view_is)
