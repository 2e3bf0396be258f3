-- Answers that are put together.
use Rattle.std.proofs.Common.{◌≡◌, ℕ, suc, zero, ◌+◌, ◌<◌, List, [], ◌∷◌, drop, get_or, length, Result, Ok, Err, IfErr, OnOk, refl, ◌∙◌, sym, ap, subst, arith}
use Rattle.std.specs.Prelude.{IsErrAnd}
use Rattle.exh_direct.specs.declared.direct_fault.DirectFault.{DirectFault}
use Rattle.exh_edits.specs.declared.block_edit.BlockEdit.{BlockEdit}

pub on_ok_more : {T E : Type 0} (result : Result T E) (P Q : Type 0) → (P → Q) → OnOk result P → OnOk result Q
on_ok_more (Ok x) P Q more holds = more holds
on_ok_more (Err error) P Q more holds = tt

pub on_ok_three : {T E : Type 0} (result : Result T E) (A B C Q : Type 0) → (A → B → C → Q) → OnOk result A → OnOk result B → OnOk result C → OnOk result Q
on_ok_three (Ok x) A B C Q more a b c = more a b c
on_ok_three (Err error) A B C Q more a b c = tt

pub err_as : {T : Type 0} (result : Result T DirectFault) (fault : DirectFault) (P : DirectFault → Type 0) → IsErrAnd result (λ e. e ≡ fault) → P fault → IfErr result P
err_as (Ok value) fault P is holds = tt
err_as (Err e) fault P is holds = subst P (sym is) holds

pub drop_next : (edits : List BlockEdit) (index : ℕ) (none : BlockEdit) → index < length edits → drop index edits ≡ get_or edits index none ∷ drop (index + 1) edits
drop_next [] index none less = absurd (omega (arith, less))
drop_next (edit ∷ edits) zero none less = refl
drop_next (edit ∷ edits) (suc index) none less =
    let next : suc index + 1 ≡ suc (index + 1) = omega arith in
    drop_next edits index none (omega (arith, less)) ∙ ap (λ (n : ℕ). get_or edits index none ∷ drop n (edit ∷ edits)) (sym next)
