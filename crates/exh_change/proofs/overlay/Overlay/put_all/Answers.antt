use Rattle.std.proofs.Common.{◌≡◌, ℕ, ◌+◌, List, [], ◌∷◌, ◌++◌, get_or, take, take_all, drop, sym, ◌∙◌, ap, subst, arith}
use Rattle.std.proofs.lemmas.List.{take_more}
use Rattle.std.specs.List.{AllByRecursion}
use Rattle.std.specs.Option.{option_map}
use Rattle.exh_prefix.specs.PrefixListLemmas.{AllByRecursion-push}
use Rattle.exh_edits.specs.declared.block_edit.BlockEdit.{BlockEdit}
use Rattle.exh_edits.specs.BlockEdits.{with_block, with_edits}
use Rattle.exh_edits.specs.EditsInTurn.{AreInTurn}
use Rattle.exh_format.specs.Reading.{IsBlock}
use Rattle.exh_change.specs.Overlay.{shown}
use Rattle.exh_direct.specs.DirectLaws.{IsOtherFault}
use Rattle.exh_change.proofs.Made.{drop_next, err_as}
use Rattle.exh_change.proofs.Shown.{shown_none, shown_push}
use Rattle.exh_change.proofs.overlay.Overlay.put_all.Goals as goal

pub loop-edit-init : goal.loop-edit-init
loop-edit-init g c = record { made = shown_none (shown g.K.Under.known c.args.self.now.edits.items.items); turn = λ count turn. turn; blocks = tt }

pub loop-edit-preserved : goal.loop-edit-preserved
loop-edit-preserved g c =
    let l = c.loop-edit in
    let edits = c.args.edits.now in
    let none : BlockEdit = record { place = 0; block = [] } in
    let edit : BlockEdit = get_or edits l.edit-index none in
    let old = shown g.K.Under.known c.args.self.now.edits.items.items in
    let here : take (l.edit-index + 1) edits ≡ take l.edit-index edits ++ edit ∷ [] = take_more edits l.edit-index none (omega arith) in
    record {
      made =
          c.in_ok-put.ensures.made
          ∙ ap (option_map (with_block edit.place edit.block)) l.invariant.made
          ∙ shown_push old (take l.edit-index edits) edit
          ∙ ap (λ (all : List BlockEdit). option_map (with_edits all) old) (sym here);
      turn = λ count turn.
          let rest = subst (λ (rest : List BlockEdit). AreInTurn l.self.edits.count rest count) (drop_next edits l.edit-index none (omega arith)) (l.invariant.turn count turn) in
          subst (λ (n : ℕ). AreInTurn n (drop (l.edit-index + 1) edits) count) (sym c.in_ok-put.ensures.count) rest.1;
      blocks = subst (AllByRecursion (λ (edit : BlockEdit). IsBlock edit.block)) (sym here) (AllByRecursion-push (λ (edit : BlockEdit). IsBlock edit.block) (take l.edit-index edits) edit l.invariant.blocks c.in_ok-put.ensures.block);
    }

pub returns-in_err-put-clause-err : goal.returns-in_err-put-clause-err
returns-in_err-put-clause-err g c =
    let l = c.loop-edit in
    let edits = c.args.edits.now in
    let none : BlockEdit = record { place = 0; block = [] } in
    let rest = λ (count : ℕ) (turn : AreInTurn c.args.self.now.edits.count edits count). subst (λ (rest : List BlockEdit). AreInTurn l.self.edits.count rest count) (drop_next edits l.edit-index none (omega arith)) (l.invariant.turn count turn) in
    err_as c.from_residual.result c.in_err-put.field-0.0 (λ fault. (count : ℕ) → AreInTurn c.args.self.now.edits.count edits count → IsOtherFault fault) c.from_residual.ensures.1
    (λ count turn. c.in_err-put.ensures.err (rest count turn).0)

pub returns-clause-made : goal.returns-clause-made
returns-clause-made g c =
    let l = c.loop-edit in
    l.invariant.made ∙ ap (λ (all : List BlockEdit). option_map (with_edits all) (shown g.K.Under.known c.args.self.now.edits.items.items)) (take_all l.edit-index c.args.edits.now (omega (arith, c.loop-edit-test.false)))

pub returns-clause-blocks : goal.returns-clause-blocks
returns-clause-blocks g c =
    let l = c.loop-edit in
    subst (AllByRecursion (λ (edit : BlockEdit). IsBlock edit.block)) (take_all l.edit-index c.args.edits.now (omega (arith, c.loop-edit-test.false))) l.invariant.blocks
