use Rattle.std.proofs.Common.{◌≡◌, ◌∙◌, sym, subst, None, Some, Option}
use Rattle.std.proofs.lemmas.Bool.{false≢true}
use Rattle.exh_notice.specs.Greater.{IsUpTo}
use Rattle.exh_notice.specs.declared.entry.Entry.{Entry}
use Rattle.exh_notice.specs.Entry.{entry_cmp}
use Rattle.exh_table.specs.TableOrder.{IsOptionUpTo}
use Rattle.exh_table.proofs.Compared.{AllUpTo, all_up_to, up_so_far, not_up, all_up}
use Rattle.exh_table.proofs.join.TableJoin.at_most.Goals as goal

pub loop-prefix-init : goal.loop-prefix-init
loop-prefix-init c =
    let gives = c.into_iter-prefix-iterator.ensures.into_iter_gives in
    let both = all_up_to c.args.self.now c.args.other.now c.self.inside.entries.entries c.self.view_is gives.6 in (
      λ all. both.0 (subst (AllUpTo c.args.other.now) gives.0 all),
      λ up. subst (AllUpTo c.args.other.now) (sym gives.0) (both.1 up),
    )

-- whether the entry is at most what stands, as the test tells
up_if : (stands : Option Entry) (entry old : Entry) → stands ≡ Some old → IsUpTo entry_cmp entry old → IsOptionUpTo (Some entry) stands
up_if stands entry old is up = subst (IsOptionUpTo (Some entry)) (sym is) up

not_up_to_less : (stands : Option Entry) (entry old : Entry) → stands ≡ Some old → (IsUpTo entry_cmp entry old → ⊥) → IsOptionUpTo (Some entry) stands → ⊥
not_up_to_less stands entry old is above up = above (subst (IsOptionUpTo (Some entry)) is up)

not_up_to_none : (stands : Option Entry) (entry : Entry) → stands ≡ None → IsOptionUpTo (Some entry) stands → ⊥
not_up_to_none stands entry is up = subst (IsOptionUpTo (Some entry)) is up

pub loop-prefix-preserved : goal.loop-prefix-preserved
loop-prefix-preserved c =
    up_so_far c.args.other.now _ c.loop-prefix.prefix-iterator c.next.new.self c.in-Some.prefix.now c.in-Some.entry.now c.in-Some.ensures.steps c.loop-prefix.invariant
    (up_if _ c.in-Some.entry.now c.in-Some-get.stands (sym c.get.ensures ∙ c.in-Some-get.is) (c.at_most.ensures.0 c.if-at_most.true))

pub returns-in_default : goal.returns-in_default
returns-in_default c =
    not_up c.args.other.now _ c.loop-prefix.prefix-iterator c.next.new.self c.in-Some.prefix.now c.in-Some.entry.now c.in-Some.ensures.steps c.loop-prefix.invariant
    (not_up_to_less _ c.in-Some.entry.now c.in-Some-get.stands (sym c.get.ensures ∙ c.in-Some-get.is) (λ up. false≢true (sym c.if-at_most.false ∙ c.at_most.ensures.1 up)))

pub returns-in_default-2 : goal.returns-in_default-2
returns-in_default-2 c =
    not_up c.args.other.now _ c.loop-prefix.prefix-iterator c.next.new.self c.in-Some.prefix.now c.in-Some.entry.now c.in-Some.ensures.steps c.loop-prefix.invariant
    (not_up_to_none _ c.in-Some.entry.now (sym c.get.ensures ∙ c.in_default.is))

pub returns : goal.returns
returns c = all_up c.args.other.now _ c.loop-prefix.prefix-iterator c.in-None.ensures.steps.0 c.loop-prefix.invariant
