use Rattle.std.proofs.Common.{ℕ, List, Result, Ok, Err, ◌≡◌, ◌+◌, ◌≤◌, ◌++◌, ◌∷◌, [], max, nat_eq, false, length, sym, subst, ap, ◌∙◌, arith}
use Rattle.std.specs.Prelude.{OnErr, OnOk}
use Rattle.std.specs.List.{list_any}
use Rattle.exh_edits.specs.declared.block_edit.BlockEdit.{BlockEdit}
use Rattle.exh_edits.specs.BlockEdits.{with_edits}
use Rattle.exh_edits.specs.EditsInTurn.{AreEdits, AreMoreAt, HasPlace, IsMade, places_of}
use Rattle.exh_edits.proofs.EditsInTurn.{edits_push, in_file, is_made_again, made_push, more_again, more_pushed, same_edits}
use Rattle.exh_edits.proofs.edits.put_block.Goals as goal

-- an edit more was put behind the others, or the edits stay
after_push : {E : Type 0} (result : Result Unit E) (old new : List BlockEdit) (first first_after count after : ℕ) (edit : BlockEdit) → AreEdits first old count → edit.place ≤ count → list_any (nat_eq edit.place) (places_of old) ≡ false → length edit.block ≡ 4096 → first_after ≡ first
    → OnOk result (new ≡ old ++ edit ∷ []) → OnErr result (new ≡ old) → OnOk result (after ≡ max count (edit.place + 1)) → OnErr result (after ≡ count) → AreEdits first_after new after
after_push (Ok unit) old new first first_after count after edit are within other len same ok err count_ok count_err =
    subst (λ (first : ℕ). AreEdits first new after) (sym same) (subst (λ (new : List BlockEdit). AreEdits first new after) (sym ok) (subst (AreEdits first (old ++ edit ∷ [])) (sym count_ok) (edits_push old first count edit are within other len)))
after_push (Err error) old new first first_after count after edit are within other len same ok err count_ok count_err =
    subst (λ (first : ℕ). AreEdits first new after) (sym same) (subst (λ (new : List BlockEdit). AreEdits first new after) (sym err) (subst (AreEdits first old) (sym count_err) are))

made_after : {E : Type 0} (result : Result Unit E) (old new : List BlockEdit) (first place : ℕ) (block : List ℕ) → OnOk result (new ≡ old ++ record { place = place; block = block } ∷ []) → OnOk result (IsMade first old new place block)
made_after (Ok unit) old new first place block ok = λ bytes len. ap (λ (new : List BlockEdit). with_edits new bytes) ok ∙ made_push old (record { place = place; block = block }) bytes
made_after (Err error) old new first place block ok = tt

pub returns-in-Some-clause-edits : goal.returns-in-Some-clause-edits
returns-in-Some-clause-edits c =
    let edits = c.args.edits.now in
    same_edits edits.items.items edits.first edits.count c.args.place c.in-Some.index c.args.block.now c.requires.edits (subst (λ (items : List BlockEdit). HasPlace items c.args.place c.in-Some.index) c.deref.ensures.value c.in-Some.ensures.some) c.told-block

pub returns-in-Some-clause-count : goal.returns-in-Some-clause-count
returns-in-Some-clause-count c =
    let edits = c.args.edits.now in
    omega (arith, in_file edits.items.items edits.first edits.count c.args.place c.in-Some.index c.requires.edits (subst (λ (items : List BlockEdit). HasPlace items c.args.place c.in-Some.index) c.deref.ensures.value c.in-Some.ensures.some))

pub returns-in-Some-clause-made : goal.returns-in-Some-clause-made
returns-in-Some-clause-made c =
    let edits = c.args.edits.now in
    is_made_again edits.items.items edits.first edits.count c.requires.edits c.args.place c.in-Some.index c.args.block.now (subst (λ (items : List BlockEdit). HasPlace items c.args.place c.in-Some.index) c.deref.ensures.value c.in-Some.ensures.some) c.told-block

pub returns-in-None-clause-edits : goal.returns-in-None-clause-edits
returns-in-None-clause-edits c =
    let edits = c.args.edits.now in
    let new = c.add.new.edits in
    let none = subst (λ (items : List BlockEdit). list_any (nat_eq c.args.place) (places_of items) ≡ false) c.deref.ensures.value c.in-None.ensures.none in
    after_push c.add.result edits.items.items new.items.items edits.first new.first edits.count new.count (record { place = c.args.place; block = c.args.block.now }) c.requires.edits c.requires.within none c.told-block
    c.add.ensures.first c.add.ensures.ok c.add.ensures.err c.add.ensures.count c.add.ensures.err_count

pub returns-in-None-clause-made : goal.returns-in-None-clause-made
returns-in-None-clause-made c = made_after c.add.result c.args.edits.now.items.items c.add.new.edits.items.items c.args.edits.now.first c.args.place c.args.block.now c.add.ensures.ok

more_after : {E : Type 0} (result : Result Unit E) (old new : List BlockEdit) (edit : BlockEdit) → OnOk result (new ≡ old ++ edit ∷ []) → OnOk result (AreMoreAt (edit.place ∷ []) old new)
more_after (Ok unit) old new edit ok = subst (AreMoreAt (edit.place ∷ []) old) (sym ok) (more_pushed old edit)
more_after (Err error) old new edit ok = tt

pub returns-in-Some-clause-more : goal.returns-in-Some-clause-more
returns-in-Some-clause-more c =
    more_again c.args.edits.now.items.items c.args.place c.in-Some.index c.args.block.now (subst (λ (items : List BlockEdit). HasPlace items c.args.place c.in-Some.index) c.deref.ensures.value c.in-Some.ensures.some)

pub returns-in-None-clause-more : goal.returns-in-None-clause-more
returns-in-None-clause-more c = more_after c.add.result c.args.edits.now.items.items c.add.new.edits.items.items (record { place = c.args.place; block = c.args.block.now }) c.add.ensures.ok
