use Rattle.std.proofs.Common.{◌≡◌}
use Rattle.exh_table.specs.TableOrder.{table_join}
use Rattle.exh_table.specs.RaisedLemmas.{raised_all}
use Rattle.exh_array.proofs.news.add_news.Given as goal

-- what is left to be told makes the join
abbrev pub invariant-loop-prefix : goal.invariant-loop-prefix
invariant-loop-prefix l = raised_all (table_join l.own l.news) l.prefix-iterator ≡ table_join (table_join l.own l.fn.news) l.other
