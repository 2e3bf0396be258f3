use Rattle.std.proofs.Common.{true, [], ◌∷◌, ◌++◌, option_map, Some, sym, ap, ◌∙◌, arith, refl}
use Rattle.std.proofs.lemmas.Bool.{eqb-true}
use Rattle.exh_prefix.specs.Prefix.{low_of}
use Rattle.exh_array.specs.declared.pointer.Pointer.{Pointer}
use Rattle.exh_array.specs.Pointers.{NamesPageOf, pointer_at}
use Rattle.exh_array.proofs.Places.{stops_at, goes_over}
use Rattle.exh_array.proofs.pointers.Pointers.goes_on_over.Goals as goal

pub returns-in-None-clause-split : goal.returns-in-None-clause-split
returns-in-None-clause-split c stops table has comes =
    let stands = ap (pointer_at c.args.self.now) (sym c.low.ensures) ∙ c.pointer-first.ensures.at in
    let same = eqb-true _ _ stops ∙ c.len.ensures.length in
    stops_at table c.args.self.now c.args.at.now.prefix has c.requires (omega (arith, c.in-Some.ensures)) c.args.at.now refl comes (omega (arith, c.in-Some.ensures)) c.pointer-first.result stands same ∙ sym c.in-None.is

pub returns-then-first-len-clause-split : goal.returns-then-first-len-clause-split
returns-then-first-len-clause-split c names table has comes =
    let stands = ap (pointer_at c.args.self.now) (sym c.low.ensures) ∙ c.pointer-first.ensures.at in
    let half = sym (c.low-then-first-len.ensures ∙ ap low_of c.in-Some.ensures.1) in
    let here : NamesPageOf c.args.self.now (low_of (c.args.at.now.prefix ++ true ∷ [])) c.in-Some-split.right =
    ap (λ k. option_map (λ (pointer : Pointer). pointer.page) (pointer_at c.args.self.now k)) half ∙ c.page.ensures.pointer ∙ ap Some (eqb-true _ _ names) in
    goes_over table c.args.self.now c.args.at.now.prefix has c.requires (omega (arith, c.in-Some.ensures)) c.args.at.now refl comes (omega (arith, c.in-Some.ensures)) c.pointer-first.result c.in-Some-split.right stands (omega (arith, c.if-first-len.true, c.len-in-Some-split.ensures.length)) here
    ∙ sym c.in-Some-split.is
