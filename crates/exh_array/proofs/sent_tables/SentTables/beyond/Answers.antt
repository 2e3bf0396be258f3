use Rattle.std.proofs.Common.{◌≡◌, ◌<◌, length, slice_get, Some, refl, sym, ap, ◌∙◌, subst}
use Rattle.std.proofs.lemmas.Option.{get_or_from_slice_get, slice_get_read}
use Rattle.exh_table.specs.TableOrder.{table_join}
use Rattle.exh_array.specs.Sent.{GoBack, IsBefore, base_in, unpacked}
use Rattle.exh_array.proofs.Joined.{joined_already, joined_none, up_to_joined}
use Rattle.exh_array.proofs.Unpacked.{before_more, lower, next_there, step_back}
use Rattle.exh_array.proofs.sent_tables.SentTables.beyond.Goals as goal

pub loop-next-init : goal.loop-next-init
loop-next-init c = record {
  within = c.requires;
  told = λ start table begun known there.
      ap (λ news. table_join (table_join c.args.own.now news) (base_in start (unpacked start c.args.self.now) (Some c.args.place))) c.new-news.ensures
      ∙ ap (λ own. table_join own (base_in start (unpacked start c.args.self.now) (Some c.args.place))) (joined_none c.args.own.now)
      ∙ ap (table_join c.args.own.now) (get_or_from_slice_get (unpacked start c.args.self.now) c.args.place table start there);
}

-- the table at the place where the loop is
here : (c : goal.After-next-in-Some-1) → (c.in-Some.at < length c.args.self.now) × (slice_get c.args.self.now c.in-Some.at ≡ Some c.index-sent.result.now)
here c =
    let within : c.in-Some.at < length c.args.self.now = subst (IsBefore (length c.args.self.now)) c.in-Some.is c.loop-next.invariant.within in (
      within,
      subst (λ list. slice_get list c.in-Some.at ≡ Some c.index-sent.result.now) c.self.view_is
          (slice_get_read _ _ c.in-Some.at c.index-sent.result.now refl (subst (λ list. c.in-Some.at < length list) (sym c.self.view_is) within) c.index-sent.ensures),
    )

pub loop-next-preserved : goal.loop-next-preserved
loop-next-preserved c =
    let sent = c.args.self.now in
    let back = subst GoBack c.self.view_is c.self.invariant in
    let at = here c in record {
      within = before_more c.in-Some.at (length sent) c.index-sent.result.now.since (back c.in-Some.at c.index-sent.result.now at.1) at.0;
      told = λ start table begun known there.
          step_back start sent back c.in-Some.at c.index-sent.result.now at.1 c.args.own.now c.loop-next.news c.add_news.new.news (table_join c.args.own.now table) c.in_ok-add_news.ensures
          (ap (λ next. table_join (table_join c.args.own.now c.loop-next.news) (base_in start (unpacked start sent) next)) (sym c.in-Some.is) ∙ c.loop-next.invariant.told start table begun known there);
    }

pub loop-next-smaller : goal.loop-next-smaller
loop-next-smaller c =
    let back = subst GoBack c.self.view_is c.self.invariant in
    lower c.in-Some.at c.index-sent.result.now.since c.loop-next.next c.in-Some.is (back c.in-Some.at c.index-sent.result.now (here c).1)

pub returns-then-contains : goal.returns-then-contains
returns-then-contains c start table begun known there =
    let sent = unpacked start c.args.self.now in
    let own = table_join c.args.own.now c.loop-next.news in
    let up = known c.in-Some.at (sym c.contains.ensures ∙ c.if-contains.true) in
    let base : base_in start sent (Some c.in-Some.at) ≡ up.0 = get_or_from_slice_get sent c.in-Some.at up.0 start up.1 in
    sym (ap (λ next. table_join own (base_in start sent next)) c.in-Some.is ∙ ap (table_join own) base ∙ joined_already own up.0 (up_to_joined up.0 c.args.own.now c.loop-next.news up.2))
    ∙ c.loop-next.invariant.told start table begun known there

pub returns : goal.returns
returns c start table begun known there =
    let own = table_join c.args.own.now c.loop-next.news in
    sym (ap (λ next. table_join own (base_in start (unpacked start c.args.self.now) next)) (next_there c.loop-next.next c.in_default.not-Some) ∙ joined_already own start (up_to_joined start c.args.own.now c.loop-next.news begun))
    ∙ c.loop-next.invariant.told start table begun known there
