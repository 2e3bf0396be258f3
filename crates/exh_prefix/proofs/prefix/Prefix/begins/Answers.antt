use Rattle.std.proofs.Common.{◌≤◌, arith}
use Rattle.std.proofs.lemmas.Bool.{leb-true}
use Rattle.exh_prefix.specs.PrefixLemmas.{stored_low, stored_length, begins_low}
use Rattle.exh_prefix.proofs.Made.{begins_test}
use Rattle.exh_prefix.proofs.prefix.Prefix.begins.Goals as goal

pub returns-then-self-pseudokey : goal.returns-then-self-pseudokey
returns-then-self-pseudokey c = begins_test c.args.self _ _ c.args.pseudokey c.self.view_is c.self.invariant (omega arith) (omega arith)

pub returns-else-self-pseudokey : goal.returns-else-self-pseudokey
returns-else-self-pseudokey c =
    let low = stored_low _ _ _ c.self.view_is c.self.invariant in
    let len = stored_length _ _ _ c.self.view_is c.self.invariant in (
      λ passes. let above : c.self.inside.bits ≤ c.args.pseudokey = leb-true _ _ passes in absurd (omega arith),
      λ begins. let range = begins_low c.args.self c.args.pseudokey (omega (arith, c.self.invariant.0.0)) (omega arith) begins in absurd (omega (arith, range.0)),
    )
