use Rattle.std.proofs.Common.{◌≡◌, ℕ, List, [], ◌++◌, replicate, refl, sym, ap, subst, ◌∙◌}
use Rattle.std.specs.Prelude.{All}
use Rattle.std.proofs.lemmas.List.Elements.{All-replicate, All-same}
use Rattle.std.proofs.lemmas.Result.{IfOk-from_err}
use Rattle.exh_copy.specs.declared.addition.Addition.{Addition}
use Rattle.exh_copy.specs.Additions.{Additions, Held}
use Rattle.exh_copy.specs.Rule.{IsAfter}
use Rattle.exh_copy.proofs.copy.new_copy.Goals as goal

abbrev has : ℕ → List Addition → List Addition → Additions
has name published pending = record { name = name; published = published; pending = pending }

has_none : (name : ℕ) (published pending : List Addition) → published ≡ [] → pending ≡ [] → has name published pending ≡ has name [] []
has_none name published pending none nothing = cc

after_none : {X : Type 0} (old more now : List X) → now ≡ old ++ more → old ≡ [] → now ≡ more
after_none old more now is none = is ∙ ap (λ front. front ++ more) none

pub invariant_of-writer : goal.invariant_of-writer
invariant_of-writer g c =
    let writer = c.in_ok-new.field-0 in
    let made = c.in_ok-new.ensures in
    let first = c.in_ok-first.ensures in
    let now : IsAfter g.S.Start.table g.S.Start.ward_bits c.in_ok-first.first [] = record {
      table_is = first.table_is ∙ c.requires.table;
      ward_bits_are = first.ward_bits_are ∙ c.requires.ward_bits;
      counted = first.counted;
    } in
    subst (IsAfter g.S.Start.table g.S.Start.ward_bits writer.desk.shown.value) (sym made.2) (subst (λ shown. IsAfter g.S.Start.table g.S.Start.ward_bits shown []) (sym made.0) now)

pub returns-in_err-reserve-clause-writer : goal.returns-in_err-reserve-clause-writer
returns-in_err-reserve-clause-writer g c = IfOk-from_err c.from_residual.result _ c.from_residual.ensures.0

pub returns-in_err-reserve-clause-readers : goal.returns-in_err-reserve-clause-readers
returns-in_err-reserve-clause-readers g c = IfOk-from_err c.from_residual.result _ c.from_residual.ensures.0

pub returns-in_err-reserve-clause-own : goal.returns-in_err-reserve-clause-own
returns-in_err-reserve-clause-own g c = IfOk-from_err c.from_residual.result _ c.from_residual.ensures.0

pub returns-in_err-first-clause-writer : goal.returns-in_err-first-clause-writer
returns-in_err-first-clause-writer g c = IfOk-from_err c.from_residual-in_err-first.result _ c.from_residual-in_err-first.ensures.0

pub returns-in_err-first-clause-readers : goal.returns-in_err-first-clause-readers
returns-in_err-first-clause-readers g c = IfOk-from_err c.from_residual-in_err-first.result _ c.from_residual-in_err-first.ensures.0

pub returns-in_err-first-clause-own : goal.returns-in_err-first-clause-own
returns-in_err-first-clause-own g c = IfOk-from_err c.from_residual-in_err-first.result _ c.from_residual-in_err-first.ensures.0

pub returns-in_err-second-clause-writer : goal.returns-in_err-second-clause-writer
returns-in_err-second-clause-writer g c = IfOk-from_err c.from_residual-in_err-second.result _ c.from_residual-in_err-second.ensures.0

pub returns-in_err-second-clause-readers : goal.returns-in_err-second-clause-readers
returns-in_err-second-clause-readers g c = IfOk-from_err c.from_residual-in_err-second.result _ c.from_residual-in_err-second.ensures.0

pub returns-in_err-second-clause-own : goal.returns-in_err-second-clause-own
returns-in_err-second-clause-own g c = IfOk-from_err c.from_residual-in_err-second.result _ c.from_residual-in_err-second.ensures.0

pub returns-in_err-new-clause-writer : goal.returns-in_err-new-clause-writer
returns-in_err-new-clause-writer g c = IfOk-from_err c.from_residual-in_err-new.result _ c.from_residual-in_err-new.ensures.0

pub returns-in_err-new-clause-readers : goal.returns-in_err-new-clause-readers
returns-in_err-new-clause-readers g c = IfOk-from_err c.from_residual-in_err-new.result _ c.from_residual-in_err-new.ensures.0

pub returns-in_err-new-clause-own : goal.returns-in_err-new-clause-own
returns-in_err-new-clause-own g c = IfOk-from_err c.from_residual-in_err-new.result _ c.from_residual-in_err-new.ensures.0

pub returns-in-Err-clause-writer : goal.returns-in-Err-clause-writer
returns-in-Err-clause-writer g c = tt

pub returns-in-Err-clause-readers : goal.returns-in-Err-clause-readers
returns-in-Err-clause-readers g c = tt

pub returns-in-Err-clause-own : goal.returns-in-Err-clause-own
returns-in-Err-clause-own g c = tt

pub returns-in-Ok-clause-writer : goal.returns-in-Ok-clause-writer
returns-in-Ok-clause-writer g c = has_none _ _ _ c.in_ok-new.ensures.2 c.in_ok-new.ensures.1

pub returns-in-Ok-clause-readers : goal.returns-in-Ok-clause-readers
returns-in-Ok-clause-readers g c = after_none _ _ _ c.in-Ok.ensures (c.in_ok-reserve.ensures.items ∙ c.new-made.ensures.items)

pub returns-in-Ok-clause-own : goal.returns-in-Ok-clause-own
returns-in-Ok-clause-own g c =
    All-same (λ (reader : Held). reader.name ≡ c.new-2.result.name) _ _ (after_none _ _ _ c.in-Ok.ensures (c.in_ok-reserve.ensures.items ∙ c.new-made.ensures.items))
    (All-replicate (λ (reader : Held). reader.name ≡ c.new-2.result.name) c.args.readers _ refl)
