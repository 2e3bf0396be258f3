use Rattle.std.proofs.Common.{sym, ap, ◌∙◌}
use Rattle.exh_table.specs.TableLemmas.{table_laws}
use Rattle.exh_table.specs.TableOrder.{table_join}
use Rattle.exh_array.proofs.Joined.{joined_already}
use Rattle.exh_array.proofs.sent_table.SentTable.new.Goals as goal

pub returns-then-told-saturating_add-clause-own : goal.returns-then-told-saturating_add-clause-own
returns-then-told-saturating_add-clause-own c start tables begun own =
    sym (ap (table_join start) c.in_ok-entries.ensures ∙ table_laws.commutative start c.args.own.now ∙ joined_already c.args.own.now start begun)
