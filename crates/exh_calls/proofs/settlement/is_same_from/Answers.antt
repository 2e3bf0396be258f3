use Rattle.std.proofs.Common.{◌++◌, refl, replicate, sym, ap, subst, ◌∙◌}
use Rattle.std.proofs.lemmas.Bool.{false≢true}
use Rattle.std.proofs.lemmas.List.{append-nil, get_or-replicate}
use Rattle.exh_calls.proofs.Beside.{Matched, matched_more, matched_none, not_same, over_is_same, same_is_over}
use Rattle.exh_calls.proofs.Each.{turned}
use Rattle.exh_calls.proofs.settlement.is_same_from.Goals as goal

pub loop-entry-init : goal.loop-entry-init
loop-entry-init g c = record {
  all = sym c.iter-entry-items.ensures ∙ sym c.into_iter-entry-iterator.ensures.into_iter_gives;
  matched = matched_none (g.J.Journals.ward_of c.args.journals.now) (g.J.Journals.journals_of c.args.journals.now) c.args.diary.now.client c.args.first (replicate 16 0) (λ slot less. get_or-replicate 16 slot 0 0 less);
}

pub loop-entry-preserved : goal.loop-entry-preserved
loop-entry-preserved g c =
    let on = c.is_next.ensures.goes_on c.if-not-is_next.false in
    record {
      all = turned c.args.diary.now.entries c.loop-entry.yielded c.loop-entry.entry-iterator c.next.new.self c.in-Some.entry c.loop-entry.invariant.all c.in-Some.ensures.steps;
      matched = matched_more (g.J.Journals.ward_of c.args.journals.now) (g.J.Journals.journals_of c.args.journals.now) c.args.diary.now.client c.args.first c.loop-entry.yielded c.in-Some.entry c.loop-entry.places _ c.loop-entry.invariant.matched (rw c.client-client.ensures.client at on);
    }

pub returns-then-not-is_next : goal.returns-then-not-is_next
returns-then-not-is_next g c =
    let whole = c.loop-entry.invariant.all ∙ ap (λ rest. c.loop-entry.yielded ++ rest) c.in-Some.ensures.steps in
    let differs = c.is_next.ensures.differs c.if-not-is_next.true in (
      λ is. absurd (false≢true is),
      λ same. absurd (not_same (g.J.Journals.ward_of c.args.journals.now) (g.J.Journals.journals_of c.args.journals.now) c.args.diary.now.client c.args.first c.args.diary.now c.loop-entry.yielded c.next.new.self c.in-Some.entry c.loop-entry.places refl whole c.loop-entry.invariant.matched (rw c.client-client.ensures.client at differs) same),
    )

pub returns : goal.returns
returns g c =
    let ward_of = g.J.Journals.ward_of c.args.journals.now in
    let journals = g.J.Journals.journals_of c.args.journals.now in
    let client = c.args.diary.now.client in
    let whole = c.loop-entry.invariant.all ∙ ap (λ rest. c.loop-entry.yielded ++ rest) c.in-None.ensures.steps.0 ∙ append-nil c.loop-entry.yielded in
    let all = subst (λ entries. Matched ward_of journals client c.args.first entries c.loop-entry.places) (sym whole) c.loop-entry.invariant.matched in
    let over = rw c.client-client.ensures.client at c.are_over.ensures in (
      λ is. over_is_same ward_of journals client c.args.first c.args.diary.now c.loop-entry.places refl all (over.0 is),
      λ same. over.1 (same_is_over ward_of journals client c.args.first c.args.diary.now c.loop-entry.places refl all same),
    )
