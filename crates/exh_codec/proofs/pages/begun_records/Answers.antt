use Rattle.std.proofs.Common.{sym, ◌∙◌, subst}
use Rattle.std.proofs.lemmas.Bool.{false≢true}
use Rattle.exh_page.specs.Prefix.{Begins}
use Rattle.exh_codec.specs.Cells.{Pair}
use Rattle.exh_codec.proofs.Rising.{pair_at}
use Rattle.exh_codec.proofs.pages.begun_records.Goals as goal

pub returns-then-not-begins-clause-none : goal.returns-then-not-begins-clause-none
returns-then-not-begins-clause-none g c all =
    let P : Pair → Type 0 = λ pair. Begins c.args.prefix (g.K.Keyer.pseudokey_of c.args.keyer.now pair.0) in
    let begun = pair_at P c.args.cells.now c.loop-cell.cell-index _ c.loop-cell-test.true all in
    let yes = c.begins.ensures.1 (subst (Begins c.args.prefix) (sym c.pseudo-pseudokey.ensures) begun) in
    absurd (false≢true (sym c.if-not-begins.true ∙ yes))
