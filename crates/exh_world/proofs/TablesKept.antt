-- A table whose splits lead right still has such splits after it was told more of the like.
use Rattle.std.proofs.Common.{◌≡◌, ℕ, Bool, true, false, cond, List, [], ◌∷◌, ◌++◌, Option, None, Some, ◌⊎◌, inl, inr, refl, sym, ap, ◌∙◌, subst}
use Rattle.std.specs.FinMap as fin
use Rattle.std.specs.Ordering.{eq_by_cmp}
use Rattle.exh_prefix.specs.Prefix.{IsFront, prefix_cmp, low_of}
use Rattle.exh_prefix.specs.PrefixLemmas.{prefix_cmp-total}
use Rattle.exh_notice.specs.declared.entry.Entry.{Entry}
use Rattle.exh_notice.specs.declared.entry.Kind.{Kind}
use Rattle.exh_notice.specs.declared.entry.Kind.TheVariants.{Split, Merge}
use Rattle.exh_notice.specs.declared.notice.Notice.{Notice}
use Rattle.exh_notice.specs.Entry.{entry_of}
use Rattle.exh_table.specs.Table.{TableMap, table_with, greater_of}
use Rattle.exh_table.specs.TableLemmas.{joined, get-table_join, greater_is, same_from_tie}
use Rattle.exh_table.specs.TableOrder.{table_join}
use Rattle.exh_table.specs.TableWalk.{right_of_kind, right_of}
use Rattle.exh_page.specs.declared.page.Page.{Page}
use Rattle.exh_legal.specs.Fit.{IsTrueNotice}
use Rattle.exh_legal.specs.Growth.{IsPageOf}
use Rattle.exh_world.specs.Sound.{LeadsRight}

-- a split that the greater entry tells of, one of the two tells of
split_of_greater : (old : Option Entry) (new : Entry) (right : ℕ) → right_of (Some (greater_of old new)) ≡ Some right → (right_of old ≡ Some right) ⊎ (right_of (Some new) ≡ Some right)
split_of_greater old new right split = elim (greater_is old new) [
  | inl kept ↦ inl (ap right_of kept ∙ split)
  | inr taken ↦ inr (ap (λ e. right_of (Some e)) (sym taken) ∙ split)
]

split_kind : (kind : Kind) (right : ℕ) → right_of_kind kind ≡ Some right → kind ≡ Split right
split_kind (Split target) right is = let same : target ≡ right = cc in ap Split same
split_kind Merge right is = cc

module _ (ward : List Bool) (pages : List Page) (table : TableMap) (leads : LeadsRight ward pages table) where
  told_at : (notice : Notice) (prefix : List Bool) (right : ℕ) (here : Bool) → eq_by_cmp prefix_cmp prefix notice.prefix ≡ here → IsFront ward prefix → (IsFront ward notice.prefix → IsTrueNotice ward pages notice)
      → right_of (cond here (Some (greater_of (fin.get table notice.prefix) (entry_of notice))) (fin.get table prefix)) ≡ Some right → IsPageOf pages (low_of (prefix ++ true ∷ [])) right
  told_at notice prefix right false is front holds split = leads prefix right front split
  told_at notice prefix right true is front holds split =
      let same : prefix ≡ notice.prefix = same_from_tie prefix notice.prefix is in
      let here : IsFront ward notice.prefix = subst (IsFront ward) same front in
      let found : IsPageOf pages (low_of (notice.prefix ++ true ∷ [])) right = elim (split_of_greater (fin.get table notice.prefix) (entry_of notice) right split) [
        | inl old ↦ leads notice.prefix right here old
        | inr new ↦ (holds here).right right (split_kind notice.kind right new)
      ] in
      subst (λ p. IsPageOf pages (low_of (p ++ true ∷ [])) right) (sym same) found

  -- after a notice that holds of the ward, if it is the ward's
  pub leads_with : (notice : Notice) → (IsFront ward notice.prefix → IsTrueNotice ward pages notice) → LeadsRight ward pages (table_with table notice)
  leads_with notice holds prefix right front split =
      told_at notice prefix right _ refl front holds
      (ap right_of (sym (fin.get-insert prefix_cmp-total table notice.prefix (greater_of (fin.get table notice.prefix) (entry_of notice)) prefix)) ∙ split)

  split_of_joined : (one other : Option Entry) (right : ℕ) → right_of (joined one other) ≡ Some right → (right_of one ≡ Some right) ⊎ (right_of other ≡ Some right)
  split_of_joined one None right split = inl split
  split_of_joined one (Some entry) right split = split_of_greater one entry right split

  -- and after a join with a table of the like
  pub leads_joined : (other : TableMap) → LeadsRight ward pages other → LeadsRight ward pages (table_join table other)
  leads_joined other leads_too prefix right front split = elim (split_of_joined (fin.get table prefix) (fin.get other prefix) right (ap right_of (sym (get-table_join table other prefix)) ∙ split)) [
    | inl one ↦ leads prefix right front one
    | inr two ↦ leads_too prefix right front two
  ]
