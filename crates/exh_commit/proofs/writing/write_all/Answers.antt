use Rattle.std.proofs.Common.{◌≡◌, ℕ, ◌+◌, List, [], ◌∷◌, ◌++◌, get_or, take, take_all, sym, ◌∙◌, ap, subst, arith}
use Rattle.std.proofs.lemmas.List.{take_more}
use Rattle.sqlite_wal.proofs.StateLemmas.{Keeps-trans}
use Rattle.sqlite_pager.specs.Pager.{page_count, state}
use Rattle.exh_edits.specs.declared.block_edit.BlockEdit.{BlockEdit}
use Rattle.exh_edits.specs.BlockEdits.{with_block, with_edits}
use Rattle.exh_edits.specs.EditsInTurn.{AreInTurn}
use Rattle.exh_commit.specs.CommitFault.{IsCause}
use Rattle.exh_commit.specs.PagedFile.{bytes_seen}
use Rattle.exh_commit.proofs.EditLemmas.{edits_push, err_as, strays, turn_push}
use Rattle.exh_commit.proofs.writing.write_all.Goals as goal

pub write_block-requires : goal.write_block-requires
write_block-requires g c = c.loop-edit.invariant.keeps.stays.size ∙ c.requires

pub returns-in_err-write_block-clause-keeps : goal.returns-in_err-write_block-clause-keeps
returns-in_err-write_block-clause-keeps g c =
    Keeps-trans (state c.args.pager.now) (state c.loop-edit.pager) (state c.write_block.new.pager) c.loop-edit.invariant.keeps c.write_block.ensures.keeps

pub returns-in_err-write_block-clause-cause : goal.returns-in_err-write_block-clause-cause
returns-in_err-write_block-clause-cause g c =
    let l = c.loop-edit in
    let none : BlockEdit = record { place = 0; block = [] } in
    err_as c.from_residual.result c.in_err-write_block.field-0.0 (IsCause (page_count c.args.pager.now) c.args.edits.now) c.from_residual.ensures.1
    (strays c.args.edits.now l.edit-index (page_count c.args.pager.now) (page_count l.pager) none c.in_err-write_block.field-0.0 (omega arith) l.invariant.turn c.in_err-write_block.ensures.cause)

pub loop-edit-preserved : goal.loop-edit-preserved
loop-edit-preserved g c =
    let l = c.loop-edit in
    let edits = c.args.edits.now in
    let none : BlockEdit = record { place = 0; block = [] } in
    let edit : BlockEdit = get_or edits l.edit-index none in
    let keeps = c.write_block.ensures.keeps in
    let here : take (l.edit-index + 1) edits ≡ take l.edit-index edits ++ edit ∷ [] = take_more edits l.edit-index none (omega arith) in
    record {
      keeps = Keeps-trans (state c.args.pager.now) (state l.pager) (state c.write_block.new.pager) l.invariant.keeps keeps;
      turn = subst (λ (all : List BlockEdit). AreInTurn (page_count c.args.pager.now) all (page_count c.write_block.new.pager)) (sym here)
          (subst (λ (n : ℕ). AreInTurn (page_count c.args.pager.now) (take l.edit-index edits ++ edit ∷ []) n) (sym c.in_ok-write_block.ensures.count)
          (turn_push (take l.edit-index edits) (page_count c.args.pager.now) (page_count l.pager) edit l.invariant.turn c.in_ok-write_block.ensures.within));
      ok = λ is_open.
          c.in_ok-write_block.ensures.ok is_open
          ∙ ap (with_block edit.place edit.block) (l.invariant.ok (keeps.stays.was_open is_open))
          ∙ sym (edits_push (take l.edit-index edits) edit (bytes_seen c.args.pager.now))
          ∙ ap (λ (all : List BlockEdit). with_edits all (bytes_seen c.args.pager.now)) (sym here);
    }

pub returns-clause-ok : goal.returns-clause-ok
returns-clause-ok g c is_open =
    let l = c.loop-edit in
    l.invariant.ok is_open ∙ ap (λ all. with_edits all (bytes_seen c.args.pager.now)) (take_all l.edit-index c.args.edits.now (omega (arith, c.loop-edit-test.false)))

pub returns-clause-turn : goal.returns-clause-turn
returns-clause-turn g c =
    let l = c.loop-edit in (
      page_count l.pager,
      subst (λ (all : List BlockEdit). AreInTurn (page_count c.args.pager.now) all (page_count l.pager)) (take_all l.edit-index c.args.edits.now (omega (arith, c.loop-edit-test.false))) l.invariant.turn,
    )
