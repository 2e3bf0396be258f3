use Rattle.std.proofs.Common.{◌≡◌, ◌/◌, ℕ, List, Option, length, sym, ◌∙◌, subst}
use Rattle.exh_direct.specs.KnownBlocks.{IsCount}
use Rattle.exh_edits.specs.declared.block_edit.BlockEdit.{BlockEdit}
use Rattle.exh_edits.specs.EditsInTurn.{AreInTurn}
use Rattle.exh_change.specs.Overlay.{shown}
use Rattle.exh_change.proofs.Machine.{reached_by}
use Rattle.exh_change.proofs.Shown.{shown_count}
use Rattle.exh_change.proofs.Steps.{other_fault}
use Rattle.exh_change.proofs.changing_all.answer.Goals as goal

pub returns-in_err-put_all : goal.returns-in_err-put_all
returns-in_err-put_all g c = record {
  legal = λ file tables bytes knows small legal.
      let mid = c.change.new.blocks in
      let edits = mid.edits in
      let counted : IsCount (shown g.K.Under.known edits.items.items) edits.count = shown_count c.edited_blocks_stand.ensures.length g.K.Under.known edits.items.items edits.first edits.count mid.counted edits.turn edits.blocks in
      let count : edits.count ≡ length bytes / 4096 = subst (λ (known : Option (List ℕ)). IsCount known edits.count) (c.in_ok-changed.ensures.same_bytes ∙ knows) counted in
      let made = c.in_ok-changed.ensures.edits bytes knows in
      let turn = subst (λ (n : ℕ). AreInTurn n c.in_ok-changed.changed.edits.items made.0) (sym count) made.1.turn in
      let passed = subst (λ (all : List BlockEdit). AreInTurn edits.count all made.0) (sym c.deref.ensures.value) turn in
      other_fault c.from_residual-in_err-put_all.result c.in_err-put_all.field-0.0 _ c.from_residual-in_err-put_all.ensures.1 (c.in_err-put_all.ensures.err made.0 passed);
}

pub returns : goal.returns
returns g c = record {
  legal = λ file tables bytes knows small legal.
      let changed = c.in_ok-changed.changed in
      let mid = shown g.K.Under.known c.change.new.blocks.edits.items.items in
      let new = shown g.K.Under.known c.put_all.new.self.edits.items.items in
      let is = c.in_ok-changed.ensures.legal file tables bytes knows small legal in (
        reached_by file bytes c.args.call.now c.args.stamp changed c.deref.result.now mid new is c.deref.ensures.value (c.in_ok-changed.ensures.same_bytes ∙ knows) c.in_ok-put_all.ensures.made c.in_ok-put_all.ensures.blocks small,
        is.reply,
      );
}
