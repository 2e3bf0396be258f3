-- What holds of each entry of a table holds of what the table has at each prefix.
use Rattle.std.proofs.Common.{◌≡◌, Bool, true, false, cond, List, [], ◌∷◌, None, Some, T, refl, sym, ap, ◌∙◌, subst}
use Rattle.std.specs.FinMap.{entries, entries_sorted, get, get-entries}
use Rattle.std.specs.FinMap.Entries.{find, is_sorted}
use Rattle.std.specs.List.{AllByRecursion}
use Rattle.std.specs.Ordering.{eq_by_cmp, is_eq}
use Rattle.std.proofs.lemmas.Cmp.{tied_itself}
use Rattle.exh_prefix.specs.Prefix.{prefix_cmp}
use Rattle.exh_prefix.specs.PrefixLemmas.{prefix_cmp-total}
use Rattle.exh_table.specs.declared.Entry.{Entry}
use Rattle.exh_table.specs.SetLemmas.{none_below}
use Rattle.exh_prefix.specs.PrefixListLemmas.{first_part, second_part}
use Rattle.exh_table.specs.Table.{TableMap}
use Rattle.exh_table.specs.TableLemmas.{same_from_tie}

module _ (P : List Bool → Entry → Type 0) where
  found : (es : List (List Bool × Entry)) (prefix : List Bool) (entry : Entry) → AllByRecursion (λ item. P item.0 item.1) es → find prefix_cmp prefix es ≡ Some entry → P prefix entry
  found [] prefix entry all is = cc
  found (item ∷ es) prefix entry all is = elim (eq_by_cmp prefix_cmp prefix item.0) as (λ here. eq_by_cmp prefix_cmp prefix item.0 ≡ here → cond here (Some item.1) (find prefix_cmp prefix es) ≡ Some entry → P prefix entry) [
    | true ↦ λ here is.
        let same : item.1 ≡ entry = cc in
        subst (λ e. P prefix e) same (subst (λ p. P p item.1) (sym (same_from_tie prefix item.0 here)) all.0)
    | false ↦ λ here is. found es prefix entry all.1 is
  ] refl is

  each : (es : List (List Bool × Entry)) → T (is_sorted prefix_cmp es) → ((prefix : List Bool) (entry : Entry) → find prefix_cmp prefix es ≡ Some entry → P prefix entry) → AllByRecursion (λ item. P item.0 item.1) es
  each [] sorted holds = tt
  each (item ∷ es) sorted holds = (
    holds item.0 item.1 (ap (λ b. cond b (Some item.1) (find prefix_cmp item.0 es)) (ap is_eq (tied_itself prefix_cmp-total item.0))),
    each es (second_part _ _ sorted) (λ prefix entry is. elim (eq_by_cmp prefix_cmp prefix item.0) as (λ here. eq_by_cmp prefix_cmp prefix item.0 ≡ here → P prefix entry) [
      | true ↦ λ here.
          let none : find prefix_cmp prefix es ≡ None = ap (λ p. find prefix_cmp p es) (same_from_tie prefix item.0 here) ∙ none_below item.0 es (first_part _ _ sorted) in
          let clash : None ≡ Some entry = sym none ∙ is in
          cc
      | false ↦ λ here. holds prefix entry (ap (λ b. cond b (Some item.1) (find prefix_cmp prefix es)) here ∙ is)
    ] refl),
  )

  pub all_entries : (table : TableMap) → AllByRecursion (λ item. P item.0 item.1) (entries table) → (prefix : List Bool) (entry : Entry) → get table prefix ≡ Some entry → P prefix entry
  all_entries table all prefix entry is = found (entries table) prefix entry all (sym (get-entries table prefix) ∙ is)

  pub each_entry : (table : TableMap) → ((prefix : List Bool) (entry : Entry) → get table prefix ≡ Some entry → P prefix entry) → AllByRecursion (λ item. P item.0 item.1) (entries table)
  each_entry table holds = each (entries table) (entries_sorted table) (λ prefix entry is. holds prefix entry (get-entries table prefix ∙ is))
