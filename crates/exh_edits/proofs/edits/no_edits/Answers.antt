use Rattle.std.proofs.Common.{List, refl, sym, subst}
use Rattle.exh_direct.specs.OnceLemmas.{none_twice}
use Rattle.exh_edits.specs.declared.block_edit.BlockEdit.{BlockEdit}
use Rattle.exh_edits.specs.EditsInTurn.{AreEdits}
use Rattle.exh_edits.proofs.edits.no_edits.Goals as goal

pub returns-clause-edits : goal.returns-clause-edits
returns-clause-edits c = subst (λ (edits : List BlockEdit). AreEdits c.args.count edits c.args.count) (sym c.new.ensures.items) (record { turn = refl; once = none_twice; blocks = tt })
