use Rattle.std.proofs.Common.{◌≡◌, Bool, not, IsTrue, [], Option, MatchOption, Some, None, sym, ap, ◌∙◌}
use Rattle.std.specs.FinMap.{empty, entries, get-empty, get-entries}
use Rattle.std.specs.FinMap.Entries.{find}
use Rattle.std.specs.Option.{is_some}
use Rattle.std.proofs.lemmas.Bool.{true≢false}
use Rattle.exh_prefix.specs.Prefix.{prefix_cmp}
use Rattle.exh_table.specs.Table.{TableMap}
use Rattle.exh_table.specs.TableLemmas.{same_table}
use Rattle.exh_array.proofs.news.is_empty.Goals as goal

-- what holds where nothing was found
where_none : {A P : Type 0} (Q : A → Type 0) (found : Option A) (none : Bool) → is_some found ≡ not none → IsTrue none → MatchOption found P Q → P
where_none Q None none is said holds = holds
where_none Q (Some x) none is said holds = absurd (true≢false (is ∙ ap not said))

no_entries : (table : TableMap) → entries table ≡ [] → table ≡ empty
no_entries table none = same_table table empty (λ prefix. get-entries table prefix ∙ ap (find prefix_cmp prefix) none ∙ sym (get-empty prefix_cmp prefix))

pub returns : goal.returns
returns c is =
    let none = where_none _ c.next.result c.is_none.result c.is_none.ensures is c.next.ensures.steps in
    no_entries c.args.table.now (sym c.entries.ensures ∙ none.0)
