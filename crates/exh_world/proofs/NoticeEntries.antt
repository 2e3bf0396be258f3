-- At one prefix of tables: what a notice or a join makes of the entry there.
use Rattle.std.proofs.Common.{◌≡◌, ◌⊎◌, Bool, true, false, cond, List, [], ◌∷◌, ◌++◌, Option, None, Some, inl, inr, refl, sym, ap, ◌∙◌, subst, arith}
use Rattle.std.specs.Prelude.{Contains}
use Rattle.std.specs.FinMap.{entries, get, get-insert}
use Rattle.std.specs.Ordering.{eq_by_cmp}
use Rattle.std.proofs.lemmas.List.Elements.{Contains-append_left, Contains-append_right, Contains-append_cases}
use Rattle.exh_prefix.specs.Prefix.{IsFront, prefix_cmp}
use Rattle.exh_prefix.specs.PrefixLemmas.{prefix_cmp-total}
use Rattle.exh_notice.specs.declared.entry.Entry.{Entry}
use Rattle.exh_notice.specs.declared.notice.Notice.{Notice}
use Rattle.exh_notice.specs.Entry.{entry_of}
use Rattle.exh_notice.specs.EntryLemmas.{entry_laws}
use Rattle.exh_table.specs.SetLemmas.{own_entries}
use Rattle.exh_table.specs.Table.{TableMap, IsEntryOf, told_by, greater_of, table_with}
use Rattle.exh_table.specs.TableLemmas.{get-table_join, greater_is, joined_first, joined_least, same_from_tie, up_to_itself}
use Rattle.exh_table.specs.TableOrder.{IsOptionUpTo, IsTableUpTo, table_join}
use Rattle.exh_world.specs.Tables.{ComesFrom}

-- what a set has at a prefix, its table has there, or a greater one
pub told_up : (told : List (List Bool × Entry)) (prefix : List Bool) (found : Option Entry) → IsEntryOf told prefix found → (entry : Entry) → Contains told (prefix, entry) → IsOptionUpTo (Some entry) found
told_up told prefix None is entry among = absurd (is entry among)
told_up told prefix (Some found) is entry among = is.greatest entry among

-- what is up to a bound in two tables, is so in their join
pub join_up : (table other bound : TableMap) (prefix : List Bool) → IsOptionUpTo (get table prefix) (get bound prefix) → IsOptionUpTo (get other prefix) (get bound prefix) → IsOptionUpTo (get (table_join table other) prefix) (get bound prefix)
join_up table other bound prefix one two = subst (λ e. IsOptionUpTo e (get bound prefix)) (sym (get-table_join table other prefix)) (joined_least (get table prefix) (get other prefix) (get bound prefix) one two)

-- ---- a table in place of what it is of

module _ (told own more : List (List Bool × Entry)) (prefix : List Bool) where
  over : (stood found : Option Entry) → IsEntryOf told prefix stood → IsEntryOf own prefix stood → IsEntryOf (own ++ more) prefix found → IsEntryOf (told ++ more) prefix found
  over None None of its is = λ entry among. elim (Contains-append_cases told more (prefix, entry) among) [
    | inl here ↦ of entry here
    | inr there ↦ is entry (Contains-append_right own more (prefix, entry) there)
  ]
  over None (Some entry) of its is = record {
    member = elim (Contains-append_cases own more (prefix, entry) is.member) [
      | inl here ↦ absurd (its entry here)
      | inr there ↦ Contains-append_right told more (prefix, entry) there
    ];
    greatest = λ other among. elim (Contains-append_cases told more (prefix, other) among) [
      | inl here ↦ absurd (of other here)
      | inr there ↦ is.greatest other (Contains-append_right own more (prefix, other) there)
    ];
  }
  over (Some stood) None of its is = λ entry among. is stood (Contains-append_left own more (prefix, stood) its.member)
  over (Some stood) (Some entry) of its is =
      let least = is.greatest stood (Contains-append_left own more (prefix, stood) its.member) in
      record {
        member = elim (Contains-append_cases own more (prefix, entry) is.member) [
          | inl here ↦
              let same : entry ≡ stood = entry_laws.order.antisymmetric entry stood (its.greatest entry here) least in
              Contains-append_left told more (prefix, entry) (subst (λ e. Contains told (prefix, e)) (sym same) of.member)
          | inr there ↦ Contains-append_right told more (prefix, entry) there
        ];
        greatest = λ other among. elim (Contains-append_cases told more (prefix, other) among) [
          | inl here ↦ entry_laws.order.transitive other stood entry (of.greatest other here) least
          | inr there ↦ is.greatest other (Contains-append_right own more (prefix, other) there)
        ];
      }

-- what has its greatest entries among a table's and some more, has them among what the table is of and these
pub entry_over : (told more : List (List Bool × Entry)) (table : TableMap) (prefix : List Bool) (found : Option Entry) → IsEntryOf told prefix (get table prefix) → IsEntryOf (entries table ++ more) prefix found
    → IsEntryOf (told ++ more) prefix found
entry_over told more table prefix found of is = over told (entries table) more prefix (get table prefix) found of (own_entries table prefix) is

-- ---- a table with a notice more

module _ (table : TableMap) (notice : Notice) where
  abbrev new : Entry
  new = greater_of (get table notice.prefix) (entry_of notice)

  with_notice : (prefix : List Bool) → get (table_with table notice) prefix ≡ cond (eq_by_cmp prefix_cmp prefix notice.prefix) (Some new) (get table prefix)
  with_notice prefix = get-insert prefix_cmp-total table notice.prefix new prefix

  up_at : (bound : Option Entry) (prefix : List Bool) (here : Bool) → eq_by_cmp prefix_cmp prefix notice.prefix ≡ here → IsOptionUpTo (get table prefix) bound → (prefix ≡ notice.prefix → IsOptionUpTo (Some (entry_of notice)) bound)
      → IsOptionUpTo (cond here (Some new) (get table prefix)) bound
  up_at bound prefix false is old own = old
  up_at bound prefix true is old own =
      let same = same_from_tie prefix notice.prefix is in
      joined_least (get table notice.prefix) (Some (entry_of notice)) bound (subst (λ p. IsOptionUpTo (get table p) bound) same old) (own same)

  pub notice_up : (bound : Option Entry) (prefix : List Bool) → IsOptionUpTo (get table prefix) bound → (prefix ≡ notice.prefix → IsOptionUpTo (Some (entry_of notice)) bound) → IsOptionUpTo (get (table_with table notice) prefix) bound
  notice_up bound prefix old own = subst (λ e. IsOptionUpTo e bound) (sym (with_notice prefix)) (up_at bound prefix (eq_by_cmp prefix_cmp prefix notice.prefix) refl old own)

  above_at : (prefix : List Bool) (here : Bool) → eq_by_cmp prefix_cmp prefix notice.prefix ≡ here → IsOptionUpTo (get table prefix) (cond here (Some new) (get table prefix))
  above_at prefix false is = up_to_itself (get table prefix)
  above_at prefix true is = subst (λ p. IsOptionUpTo (get table p) (Some new)) (sym (same_from_tie prefix notice.prefix is)) (joined_first (get table notice.prefix) (Some (entry_of notice)))

  pub above_notice : IsTableUpTo table (table_with table notice)
  above_notice prefix = subst (IsOptionUpTo (get table prefix)) (sym (with_notice prefix)) (above_at prefix (eq_by_cmp prefix_cmp prefix notice.prefix) refl)

  -- ---- where its entries come from

  module _ (ward : List Bool) (start : TableMap) (changes : List Notice) (comes : ComesFrom ward start changes table) where
    abbrev From : List Bool → Entry → Type 0
    From prefix entry = (get start prefix ≡ Some entry) ⊎ ((other : Notice) × Contains (changes ++ notice ∷ []) other × (told_by other ≡ (prefix, entry)))

    from_old : (prefix : List Bool) (entry : Entry) → IsFront ward prefix → get table prefix ≡ Some entry → From prefix entry
    from_old prefix entry front is = elim (comes prefix entry front is) [
      | inl started ↦ inl started
      | inr told ↦ inr (told.0, Contains-append_left changes (notice ∷ []) told.0 told.1, told.2)
    ]

    from_at : (prefix : List Bool) (entry : Entry) (here : Bool) → eq_by_cmp prefix_cmp prefix notice.prefix ≡ here → IsFront ward prefix → cond here (Some new) (get table prefix) ≡ Some entry → From prefix entry
    from_at prefix entry false tie front is = from_old prefix entry front is
    from_at prefix entry true tie front is =
        let same : prefix ≡ notice.prefix = same_from_tie prefix notice.prefix tie in
        let found : new ≡ entry = cc in
        elim (greater_is (get table notice.prefix) (entry_of notice)) [
          | inl kept ↦ from_old prefix entry front (ap (get table) same ∙ kept ∙ ap Some found)
          | inr taken ↦
              let last : Contains (notice ∷ []) notice = (0, omega arith, refl) in
              let told : told_by notice ≡ (prefix, entry) = λ i. (sym same i, (sym taken ∙ found) i) in
              inr (notice, Contains-append_right changes (notice ∷ []) notice last, told)
        ]

    pub comes_with : ComesFrom ward start (changes ++ notice ∷ []) (table_with table notice)
    comes_with prefix entry front is = from_at prefix entry (eq_by_cmp prefix_cmp prefix notice.prefix) refl front (sym (with_notice prefix) ∙ is)
