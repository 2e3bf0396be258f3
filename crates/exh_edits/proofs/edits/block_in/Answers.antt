use Rattle.std.proofs.Common.{List, length, refl, subst, nat_eq, false, ◌≡◌}
use Rattle.std.proofs.lemmas.Option.{slice_get_read, slice_get_within}
use Rattle.std.specs.List.{list_any}
use Rattle.exh_edits.specs.declared.block_edit.BlockEdit.{BlockEdit}
use Rattle.exh_edits.specs.EditsInTurn.{HasPlace, StandsOver, places_of}
use Rattle.exh_edits.proofs.EditsInTurn.{stands_over, stood_before}
use Rattle.exh_edits.proofs.edits.block_in.Goals as goal

pub returns-in-Some-clause-some : goal.returns-in-Some-clause-some
returns-in-Some-clause-some c =
    let edits = c.args.edits.now in
    let index = c.in-Some.index in
    let has = subst (λ (items : List BlockEdit). HasPlace items c.args.place index) c.deref.ensures.value c.in-Some.ensures.some in
    let there = slice_get_read edits.items.items (length edits.items.items) index c.index.result.now refl (slice_get_within edits.items.items index has.0 has.1) c.index.ensures in
    let same : has.0 ≡ c.index.result.now = cc in
    subst (λ (edit : BlockEdit). StandsOver edits.first edits.items.items c.args.place edit.block) same
    (stands_over edits.items.items edits.first edits.count c.requires c.args.place has.0 index has.1 has.2)

pub returns-in-None-clause-none : goal.returns-in-None-clause-none
returns-in-None-clause-none c =
    let edits = c.args.edits.now in
    stood_before edits.items.items edits.first edits.count c.requires c.args.place
    (subst (λ (items : List BlockEdit). list_any (nat_eq c.args.place) (places_of items) ≡ false) c.deref.ensures.value c.in-None.ensures.none)
