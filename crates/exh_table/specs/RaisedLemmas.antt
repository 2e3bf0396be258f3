-- Entries taken one after another.
use Rattle.std.proofs.Common.{◌≡◌, ◌≢◌, Bool, true, false, cond, List, [], ◌∷◌, Some, refl, sym, ap, ◌∙◌, subst, T}
use Rattle.std.specs.FinMap.{entries, entries_sorted, get, get-insert, get-entries}
use Rattle.std.specs.FinMap.Entries.{find, is_sorted}
use Rattle.std.proofs.lemmas.Cmp.{tied_itself}
use Rattle.std.specs.Ordering.{eq_by_cmp, is_eq}
use Rattle.exh_prefix.specs.Prefix.{prefix_cmp}
use Rattle.exh_prefix.specs.PrefixLemmas.{prefix_cmp-total}
use Rattle.exh_prefix.specs.PrefixListLemmas.{first_part, second_part}
use Rattle.exh_notice.specs.declared.entry.Entry.{Entry}
use Rattle.exh_table.specs.Table.{TableMap, raised, greater_of}
use Rattle.exh_table.specs.TableOrder.{IsOptionUpTo, IsTableUpTo, table_join}
use Rattle.exh_table.specs.TableLemmas.{joined, joined_first, get-table_join, same_table, same_from_tie, table_laws}
use Rattle.exh_table.specs.SetLemmas.{none_below}

-- the table that took entries at prefixes, one after another
abbrev pub raised_all : TableMap → List (List Bool × Entry) → TableMap
raised_all table [] = table
raised_all table (e ∷ es) = raised_all (raised table e.0 e.1) es

pub get-raised : (table : TableMap) (key : List Bool) (entry : Entry) (prefix : List Bool) → get (raised table key entry) prefix ≡ cond (eq_by_cmp prefix_cmp prefix key) (Some (greater_of (get table key) entry)) (get table prefix)
get-raised table key entry prefix = get-insert prefix_cmp-total table key (greater_of (get table key) entry) prefix

-- at its own prefix an entry stands
pub raised_here : (table : TableMap) (key : List Bool) (entry : Entry) → get (raised table key entry) key ≡ Some (greater_of (get table key) entry)
raised_here table key entry =
    get-raised table key entry key ∙ ap (λ r. cond (is_eq r) (Some (greater_of (get table key) entry)) (get table key)) (tied_itself prefix_cmp-total key)

-- and elsewhere what stood there
pub raised_elsewhere : (table : TableMap) (key : List Bool) (entry : Entry) (prefix : List Bool) → prefix ≢ key → get (raised table key entry) prefix ≡ get table prefix
raised_elsewhere table key entry prefix apart =
    get-raised table key entry prefix
    ∙ elim (eq_by_cmp prefix_cmp prefix key) as (λ here. eq_by_cmp prefix_cmp prefix key ≡ here → cond here (Some (greater_of (get table key) entry)) (get table prefix) ≡ get table prefix) [
      | true ↦ λ here. absurd (apart (same_from_tie prefix key here))
      | false ↦ λ here. refl
    ] refl

-- it is at least what it was
pub raised_up : (table : TableMap) (key : List Bool) (entry : Entry) → IsTableUpTo table (raised table key entry)
raised_up table key entry prefix =
    subst (IsOptionUpTo (get table prefix)) (sym (get-raised table key entry prefix))
    (elim (eq_by_cmp prefix_cmp prefix key) as (λ here. eq_by_cmp prefix_cmp prefix key ≡ here → IsOptionUpTo (get table prefix) (cond here (Some (greater_of (get table key) entry)) (get table prefix))) [
      | true ↦ λ here. subst (λ p. IsOptionUpTo (get table p) (Some (greater_of (get table key) entry))) (sym (same_from_tie prefix key here)) (joined_first (get table key) (Some entry))
      | false ↦ λ here. table_laws.order.reflexive table prefix
    ] refl)

pub get-raised_all : (table : TableMap) (es : List (List Bool × Entry)) (prefix : List Bool) → T (is_sorted prefix_cmp es) → get (raised_all table es) prefix ≡ joined (get table prefix) (find prefix_cmp prefix es)
get-raised_all table [] prefix sorted = refl
get-raised_all table (e ∷ es) prefix sorted =
    get-raised_all (raised table e.0 e.1) es prefix (second_part _ _ sorted)
    ∙ ap (λ one. joined one (find prefix_cmp prefix es)) (get-raised table e.0 e.1 prefix)
    ∙ elim (eq_by_cmp prefix_cmp prefix e.0) as (λ here. eq_by_cmp prefix_cmp prefix e.0 ≡ here
    → joined (cond here (Some (greater_of (get table e.0) e.1)) (get table prefix)) (find prefix_cmp prefix es) ≡ joined (get table prefix) (cond here (Some e.1) (find prefix_cmp prefix es))) [
      | true ↦ λ here.
          let same = same_from_tie prefix e.0 here in
          ap (joined (Some (greater_of (get table e.0) e.1))) (ap (λ p. find prefix_cmp p es) same ∙ none_below e.0 es (first_part _ _ sorted)) ∙ ap (λ p. Some (greater_of (get table p) e.1)) (sym same)
      | false ↦ λ here. refl
    ] refl

-- a table that took all entries of another is their join
pub raised_entries-join : (table other : TableMap) → raised_all table (entries other) ≡ table_join table other
raised_entries-join table other =
    same_table _ _ (λ prefix. get-raised_all table (entries other) prefix (entries_sorted other)
    ∙ ap (joined (get table prefix)) (sym (get-entries other prefix))
    ∙ sym (get-table_join table other prefix))
