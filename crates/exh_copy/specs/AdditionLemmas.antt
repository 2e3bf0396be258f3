-- Tables only grow by additions, and are those of all that was added.
use Rattle.std.proofs.Common.{◌≡◌, Bool, List, [], ◌∷◌, ◌++◌, flat_map, sym, ap, ◌∙◌, subst}
use Rattle.std.proofs.lemmas.List.{append-nil, append_assoc}
use Rattle.std.specs.FinMap.{empty, entries, get, get-empty}
use Rattle.core.proofs.iter.runs.Lists.{fold-append}
use Rattle.exh_prefix.specs.Prefix.{prefix_cmp}
use Rattle.exh_notice.specs.declared.entry.Entry.{Entry}
use Rattle.exh_notice.specs.Entry.{entry_of}
use Rattle.exh_table.specs.Table.{TableMap, IsTableOf, told_by}
use Rattle.exh_table.specs.TableOrder.{IsTableUpTo, table_join}
use Rattle.exh_table.specs.TableLemmas.{joined, get-table_join, same_table, table_laws}
use Rattle.exh_table.specs.RaisedLemmas.{raised_up}
use Rattle.exh_table.specs.SetLemmas.{joined_none, union_is_join, one_more, own_entries}
use Rattle.exh_copy.specs.declared.addition.Addition.{Addition}
use Rattle.exh_copy.specs.declared.addition.Addition.TheVariants.{Take, Combine}
use Rattle.exh_copy.specs.Additions.{added, table_after, told_in, BeginsWith}

-- ---- the order

added_up : (table : TableMap) (addition : Addition) → IsTableUpTo table (added table addition)
added_up table (Take notice) = raised_up table notice.prefix (entry_of notice)
added_up table (Combine other) = table_laws.bound.above_first table other

pub table_after_up : (table : TableMap) (additions : List Addition) → IsTableUpTo table (table_after table additions)
table_after_up table [] = table_laws.order.reflexive table
table_after_up table (addition ∷ additions) = table_laws.order.transitive table (added table addition) (table_after table (addition ∷ additions)) (added_up table addition) (table_after_up (added table addition) additions)

-- a longer list gives a table that is at least as great
pub longer_up : (start : TableMap) (longer shorter : List Addition) → BeginsWith longer shorter → IsTableUpTo (table_after start shorter) (table_after start longer)
longer_up start longer shorter begins =
    subst (IsTableUpTo (table_after start shorter)) (sym (ap (table_after start) begins.1 ∙ fold-append added start shorter begins.0)) (table_after_up (table_after start shorter) begins.0)

-- ---- the set of all that was added

fold_of : (told : List (List Bool × Entry)) (table : TableMap) (additions : List Addition) → IsTableOf told table → IsTableOf (told ++ flat_map told_in additions) (table_after table additions)
fold_of told table [] is = subst (λ t. IsTableOf t table) (sym (append-nil told)) is
fold_of told table (Take notice ∷ additions) is =
    subst (λ t. IsTableOf t (table_after table (Take notice ∷ additions))) (append_assoc told (told_by notice ∷ []) (flat_map told_in additions))
    (fold_of (told ++ told_by notice ∷ []) (added table (Take notice)) additions (one_more told table notice.prefix (entry_of notice) is))
fold_of told table (Combine other ∷ additions) is =
    subst (λ t. IsTableOf t (table_after table (Combine other ∷ additions))) (append_assoc told (entries other) (flat_map told_in additions))
    (fold_of (told ++ entries other) (added table (Combine other)) additions (union_is_join told (entries other) table other is (own_entries other)))

pub table_after_of : (start : TableMap) (additions : List Addition) → IsTableOf (entries start ++ flat_map told_in additions) (table_after start additions)
table_after_of start additions = fold_of (entries start) start additions (own_entries start)

-- ---- the table that a copy begins with

pub join_empty : (table : TableMap) → table_join empty table ≡ table
join_empty table = same_table (table_join empty table) table (λ prefix. get-table_join empty table prefix ∙ ap (λ none. joined none (get table prefix)) (get-empty prefix_cmp prefix) ∙ joined_none (get table prefix))
