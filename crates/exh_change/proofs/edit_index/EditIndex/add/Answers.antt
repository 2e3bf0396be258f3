use Rattle.std.proofs.Common.{rules, ◌≡◌, ◌+◌, ◌++◌, ◌∷◌, [], max, List, sym, subst}
use Rattle.exh_edits.specs.declared.block_edit.BlockEdit.{BlockEdit}
use Rattle.exh_edits.specs.EditsInTurn.{AreInTurn}
use Rattle.exh_change.specs.Index.{AreOfBlocks}
use Rattle.exh_change.proofs.Turns.{blocks_push, turn_push}
use Rattle.exh_change.proofs.edit_index.EditIndex.add.Goals as goal

pub invariant_of-self-2-clause-turn : goal.invariant_of-self-2-clause-turn
invariant_of-self-2-clause-turn c =
    let it = c.args.self.now in
    let edit = c.args.edit.now in
    let count : c.max-self.result ≡ max it.count (edit.place + 1) = search rules in
    subst (λ (items : List BlockEdit). AreInTurn it.first items c.max-self.result) (sym c.in_ok-push_found.ensures.ok)
    (subst (AreInTurn it.first (it.items.items ++ edit ∷ [])) (sym count) (turn_push it.items.items it.first it.count edit it.turn c.requires.within))

pub invariant_of-self-2-clause-blocks : goal.invariant_of-self-2-clause-blocks
invariant_of-self-2-clause-blocks c =
    let it = c.args.self.now in
    subst AreOfBlocks (sym c.in_ok-push_found.ensures.ok) (blocks_push it.items.items c.args.edit.now it.blocks c.requires.block.0)

pub invariant_of-self-2-clause-found : goal.invariant_of-self-2-clause-found
invariant_of-self-2-clause-found c = c.push_found.ensures.found
