use Rattle.std.proofs.Common.{sym, subst}
use Rattle.exh_keyer.specs.Pseudokey.{any_pseudokey}
use Rattle.exh_page.specs.Page.{IsWellFormed}
use Rattle.exh_change.proofs.Formed.{left_formed, right_formed}
use Rattle.exh_change.proofs.halves.halves_of.Goals as goal

pub returns-clause-left_formed : goal.returns-clause-left_formed
returns-clause-left_formed c =
    subst (IsWellFormed (any_pseudokey c.args.keyer)) (sym c.in_ok-left.ensures) (left_formed c.shares_are_records.ensures (any_pseudokey c.args.keyer) c.args.page.now c.args.number c.requires.number c.requires.formed c.requires.short)

pub returns-clause-right_formed : goal.returns-clause-right_formed
returns-clause-right_formed c =
    subst (IsWellFormed (any_pseudokey c.args.keyer)) (sym c.in_ok-right.ensures) (right_formed c.shares_are_records.ensures (any_pseudokey c.args.keyer) c.args.page.now c.requires.formed c.requires.short)
