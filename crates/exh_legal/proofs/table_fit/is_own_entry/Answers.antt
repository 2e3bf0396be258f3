use Rattle.std.proofs.Common.{◌≡◌, List, Option, None, Some, sym, ap, ◌∙◌}
use Rattle.std.proofs.lemmas.Bool.{false≢true}
use Rattle.std.specs.Prelude.{SomeIff}
use Rattle.std.proofs.lemmas.Option.{slice_get_within}
use Rattle.exh_prefix.specs.Prefix.{low_of}
use Rattle.exh_legal.specs.BuiltIndex.{page_number_at}
use Rattle.exh_legal.proofs.Fits.{child_short_of, index_number, same_child, there_told, told_there}
use Rattle.exh_legal.proofs.table_fit.is_own_entry.Goals as goal

no_child : {X : Type 0} (found : Option (List X)) (Holds : Type 0) (value : List X) → SomeIff found Holds value → found ≡ None → Holds → ⊥
no_child None Holds value iff is holds = iff holds
no_child (Some own) Holds value iff is holds = cc

pub returns-then-not-is_ward_entry : goal.returns-then-not-is_ward_entry
returns-then-not-is_ward_entry g c = (
  λ is. absurd (false≢true is),
  λ own. absurd (false≢true (sym c.if-not-is_ward_entry.true ∙ c.is_ward_entry.ensures.1 own.own)),
)

pub returns-in_default : goal.returns-in_default
returns-in_default g c = (λ is. absurd (false≢true is), λ own. absurd (no_child c.child.result _ _ c.child.ensures c.in_default.is own.short))

pub returns-in_default-copied : goal.returns-in_default-copied
returns-in_default-copied g c =
    let pages = g.P.PageList.pages c.args.pages.now in
    let at = c.low.ensures ∙ ap low_of (same_child c.child.result _ _ c.in-Some.child c.child.ensures c.in-Some.is) in (
      λ is. absurd (false≢true is),
      λ own.
          let some = ap (page_number_at c.args.index.now.entries) at ∙ index_number pages c.args.index.now.entries c.requires c.args.ward c.args.prefix c.args.entry own in
          absurd (c.in_default-copied.not-Some own.told.0 (c.copied.ensures ∙ c.get.ensures.value ∙ some)),
    )

pub head-requires : goal.head-requires
head-requires g c =
    let found = sym c.get.ensures.value ∙ sym c.copied.ensures ∙ c.in-Some-copied.is in
    let page = (c.requires c.low.result c.in-Some-copied.number).0 found in
    slice_get_within (g.P.PageList.pages c.args.pages.now) c.in-Some-copied.number page.0 page.1

pub returns : goal.returns
returns g c =
    let pages = g.P.PageList.pages c.args.pages.now in
    let at = c.low.ensures ∙ ap low_of (same_child c.child.result _ _ c.in-Some.child c.child.ensures c.in-Some.is) in
    let found = ap (page_number_at c.args.index.now.entries) (sym at) ∙ sym c.get.ensures.value ∙ sym c.copied.ensures ∙ c.in-Some-copied.is in
    let short = child_short_of c.child.result _ _ c.in-Some.child c.child.ensures c.in-Some.is in (
      λ told. told_there pages c.args.index.now.entries c.requires c.args.ward c.args.prefix c.args.entry (c.is_ward_entry.ensures.0 c.if-not-is_ward_entry.false) short c.in-Some-copied.number c.head.ensures.0 found c.head.ensures.1 ((c.is_told_by.ensures c.head.ensures.0 c.head.ensures.2).0 told),
      λ own. (c.is_told_by.ensures c.head.ensures.0 c.head.ensures.2).1 (there_told pages c.args.index.now.entries c.requires c.args.ward c.args.prefix c.args.entry own c.in-Some-copied.number c.head.ensures.0 found c.head.ensures.1),
    )
