-- The entries of a table, compared with another's.
use Rattle.std.proofs.Common.{◌≡◌, Bool, true, false, cond, List, [], ◌∷◌, Some, refl, sym, ap, ◌∙◌, subst, ◌↔◌, All, get_or, IsTrue}
use Rattle.std.proofs.lemmas.Bool.{false≢true}
use Rattle.std.specs.FinMap.{from_entries, get, get-from_entries}
use Rattle.std.specs.FinMap.Entries.{find}
use Rattle.std.specs.List.{AllByRecursion}
use Rattle.std.specs.Map.{lookup}
use Rattle.std.specs.BTreeMap.{is_at}
use Rattle.std.proofs.lemmas.List.Elements.{recursion_from_All}
use Rattle.exh_table.proofs.Seen.{get_seen}
use Rattle.std.specs.Ordering.{eq_by_cmp}
use Rattle.exh_prefix.specs.Prefix.{prefix_cmp}
use Rattle.exh_prefix.specs.PrefixLemmas.{prefix_cmp-total}
use Rattle.exh_notice.specs.declared.entry.Entry.{Entry}
use Rattle.exh_table.specs.Table.{TableMap}
use Rattle.exh_table.specs.TableOrder.{IsOptionUpTo, IsTableUpTo}
use Rattle.exh_table.specs.TableLemmas.{same_from_tie}

-- ---- compared

-- each entry is at most what the table has at its prefix
abbrev pub AllUpTo : TableMap → List (List Bool × Entry) → Type 0
AllUpTo other es = AllByRecursion (λ e. IsOptionUpTo (Some e.1) (get other e.0)) es

found_up_to : (other : TableMap) (es : List (List Bool × Entry)) (prefix : List Bool) → AllUpTo other es → IsOptionUpTo (find prefix_cmp prefix es) (get other prefix)
found_up_to other [] prefix all = tt
found_up_to other (e ∷ es) prefix all =
    elim (eq_by_cmp prefix_cmp prefix e.0) as (λ here. eq_by_cmp prefix_cmp prefix e.0 ≡ here → IsOptionUpTo (cond here (Some e.1) (find prefix_cmp prefix es)) (get other prefix)) [
      | true ↦ λ here. subst (λ p. IsOptionUpTo (Some e.1) (get other p)) (sym (same_from_tie prefix e.0 here)) all.0
      | false ↦ λ here. found_up_to other es prefix all.1
    ] refl

-- what holds of all entries holds of the tables
pub all_up_to : (table other : TableMap) (es : List (List Bool × Entry)) → from_entries es ≡ table → All (λ e. lookup (is_at (prefix_cmp e.0)) es ≡ Some e.1) es → AllUpTo other es ↔ IsTableUpTo table other
all_up_to table other es is found = (
  λ all prefix. subst (λ one. IsOptionUpTo one (get other prefix)) (sym (get-from_entries prefix_cmp-total es prefix) ∙ ap (λ (t : TableMap). get t prefix) is) (found_up_to other es prefix all),
  λ up. recursion_from_All (λ (e : List Bool × Entry). IsOptionUpTo (Some e.1) (get other e.0)) es (λ k d within.
      let e = get_or es k d in
      subst (λ one. IsOptionUpTo one (get other e.0)) (ap (λ (t : TableMap). get t e.0) (sym is) ∙ get_seen es e.0 ∙ found k d within) (up e.0)),
)

-- the first of what is left decides, and then the others
module _ (other : TableMap) (P : Type 0) (before rest : List (List Bool × Entry)) (prefix : List Bool) (entry : Entry) (taken : before ≡ (prefix, entry) ∷ rest) (decides : AllUpTo other before ↔ P) where
  pub up_so_far : IsOptionUpTo (Some entry) (get other prefix) → AllUpTo other rest ↔ P
  up_so_far up = (λ all. decides.0 (subst (AllUpTo other) (sym taken) (up, all)), λ p. (subst (AllUpTo other) taken (decides.1 p)).1)

  pub not_up : (IsOptionUpTo (Some entry) (get other prefix) → ⊥) → IsTrue false ↔ P
  not_up above = (λ never. absurd (false≢true never), λ p. absurd (above (subst (AllUpTo other) taken (decides.1 p)).0))

-- nothing is left
pub all_up : (other : TableMap) (P : Type 0) (before : List (List Bool × Entry)) → before ≡ [] → AllUpTo other before ↔ P → IsTrue true ↔ P
all_up other P before none decides = (λ yes. decides.0 (subst (AllUpTo other) (sym none) tt), λ p. refl)
