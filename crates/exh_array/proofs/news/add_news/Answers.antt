use Rattle.std.proofs.Common.{sym, ap, ◌∙◌}
use Rattle.exh_table.specs.Table.{TableMap}
use Rattle.exh_table.specs.TableOrder.{table_join}
use Rattle.exh_table.specs.RaisedLemmas.{raised_all, raised_entries-join}
use Rattle.exh_array.proofs.Joined.{joined_raised, joined_told}
use Rattle.exh_array.proofs.news.add_news.Goals as goal

pub loop-prefix-init : goal.loop-prefix-init
loop-prefix-init c =
    ap (raised_all (table_join c.args.own.now c.args.news.now)) (c.into_iter-prefix-iterator.ensures.into_iter_gives ∙ c.entries-prefix-items.ensures)
    ∙ raised_entries-join (table_join c.args.own.now c.args.news.now) c.args.other.now

-- an entry that is added
pub loop-prefix-preserved-in_ok-put_greater : goal.loop-prefix-preserved-in_ok-put_greater
loop-prefix-preserved-in_ok-put_greater c =
    ap (λ (table : TableMap). raised_all table c.next.new.self)
    (ap (table_join c.args.own.now) c.in_ok-put_greater.ensures.ok ∙ joined_raised c.args.own.now c.loop-prefix.news c.in-Some.prefix.now c.in-Some.entry.now)
    ∙ ap (raised_all (table_join c.args.own.now c.loop-prefix.news)) (sym c.in-Some.ensures.steps)
    ∙ c.loop-prefix.invariant

-- and one that was told before
pub loop-prefix-preserved : goal.loop-prefix-preserved
loop-prefix-preserved c =
    ap (λ (table : TableMap). raised_all table c.next.new.self) (sym (joined_told c.args.own.now c.loop-prefix.news c.in-Some.prefix.now c.in-Some.entry.now (c.is_told.ensures c.if-not-is_told.false)))
    ∙ ap (raised_all (table_join c.args.own.now c.loop-prefix.news)) (sym c.in-Some.ensures.steps)
    ∙ c.loop-prefix.invariant

pub returns : goal.returns
returns c =
    ap (raised_all (table_join c.args.own.now c.loop-prefix.news)) (sym c.in-None.ensures.steps.0) ∙ c.loop-prefix.invariant
