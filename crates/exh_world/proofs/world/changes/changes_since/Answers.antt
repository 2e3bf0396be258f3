use Rattle.std.proofs.Common.{◌-◌, length, ap, ◌∙◌, arith}
use Rattle.exh_world.proofs.CopySteps.{all_above}
use Rattle.exh_world.proofs.world.changes.changes_since.Goals as goal

pub overflow_sub-result : goal.overflow_sub-result
overflow_sub-result g c =
    let all = ap length (c.notices_after-issued.ensures.notices ∙ all_above g.K.Keyer.pseudokey_of c.args.ward.now c.notices_after-issued.ensures.sound) in
    omega (arith, all, c.requires)

pub returns-clause-count : goal.returns-clause-count
returns-clause-count g c =
    let all = ap length (c.notices_after-issued.ensures.notices ∙ all_above g.K.Keyer.pseudokey_of c.args.ward.now c.notices_after-issued.ensures.sound) in
    ap (λ n. n - c.args.noticed) all
