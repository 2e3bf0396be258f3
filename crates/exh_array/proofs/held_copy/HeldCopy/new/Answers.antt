use Rattle.std.proofs.Common.{◌≡◌, ℕ, [], List, sym, ap, ◌∙◌, nat_cmp}
use Rattle.std.specs.BTreeSet.{BTreeSet}
use Rattle.std.specs.List.{list_any}
use Rattle.std.specs.BTreeMap.{is_at}
use Rattle.std.proofs.lemmas.Bool.{true≢false}
use Rattle.exh_table.specs.Table.{TableMap}
use Rattle.exh_table.specs.TableLemmas.{table_laws}
use Rattle.exh_table.specs.TableOrder.{table_join}
use Rattle.exh_array.specs.KnownCopy.{AreKnown}
use Rattle.exh_array.proofs.Joined.{joined_none}
use Rattle.exh_array.proofs.held_copy.HeldCopy.new.Goals as goal

-- no place is noted
none_known : (sent : List TableMap) (own : TableMap) (known : BTreeSet ℕ) → known.keys ≡ [] → AreKnown sent known own
none_known sent own known none at found = absurd (true≢false (sym found ∙ ap (list_any (is_at (nat_cmp at))) none))

pub returns-clause-held : goal.returns-clause-held
returns-clause-held c sent = record {
  begun = table_laws.order.reflexive c.args.start.table;
  before = tt;
  table = sym (ap (table_join c.args.start.table) c.new.ensures ∙ joined_none c.args.start.table);
  known = none_known sent c.args.start.table c.new-2.result c.new-2.ensures.empty;
}
