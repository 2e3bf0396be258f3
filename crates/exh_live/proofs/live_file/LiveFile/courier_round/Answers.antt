use Rattle.std.proofs.Common.{rules, length, ap, ◌∙◌}
use Rattle.exh_live.proofs.Rounds.{as_many_cursors, none_copied}
use Rattle.exh_live.proofs.live_file.LiveFile.courier_round.Goals as goal

pub returns-in_err-notices-clause-err : goal.returns-in_err-notices-clause-err
returns-in_err-notices-clause-err g c = none_copied g.K.Keyer.pseudokey_of c.args.copy.now c.args.cursors.now _ c.from_residual.result (search rules)

pub returns-clause-cursors : goal.returns-clause-cursors
returns-clause-cursors g c = as_many_cursors 0 _ _ _ c.in_ok-notices.ensures.carried ∙ ap length (c.as_slice.ensures.value ∙ c.cursors.view_is)
