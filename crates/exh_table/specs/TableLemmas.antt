-- The order of tables is partial, and the join is the least table that is at least both.
use Rattle.std.proofs.Common.{◌≡◌, ◌<◌, Bool, true, false, cond, List, [], ◌∷◌, ◌++◌, map, Option, Some, None, ◌⊎◌, inl, inr, refl, sym, ap, ◌∙◌, subst}
use Rattle.std.specs.FinMap.{entries, get, get-entries, get-from_entries, same_map}
use Rattle.std.specs.FinMap.Entries.{find}
use Rattle.std.specs.declared.cmp.Ordering.TheVariants.{Less}
use Rattle.std.specs.Cmp.{nat_cmp_is}
use Rattle.std.specs.Ordering.{is_lt, eq_by_cmp, nat_cmp}
use Rattle.exh_prefix.specs.Prefix.{prefix_cmp}
use Rattle.exh_prefix.specs.PrefixLemmas.{prefix_cmp-total, prefix_cmp-exact}
use Rattle.exh_prefix.specs.PrefixListLemmas.{is_equal}
use Rattle.exh_notice.specs.JoinLaws.{IsPartialOrder, IsLeastAboveBoth, JoinLaws}
use Rattle.exh_notice.specs.LawsLemmas.{join_laws}
use Rattle.exh_notice.specs.declared.entry.Entry.{Entry}
use Rattle.exh_notice.specs.Entry.{entry_cmp}
use Rattle.exh_notice.specs.EntryLemmas.{entry_laws}
use Rattle.exh_table.specs.Table.{TableMap, greater_of, entry_number}
use Rattle.exh_table.specs.TableOrder.{IsOptionUpTo, IsTableUpTo, table_join}

-- ---- at one prefix

pub up_to_itself : (one : Option Entry) → IsOptionUpTo one one
up_to_itself None = tt
up_to_itself (Some entry) = entry_laws.order.reflexive entry

pub up_to_both : (one other : Option Entry) → IsOptionUpTo one other → IsOptionUpTo other one → one ≡ other
up_to_both None None h k = refl
up_to_both None (Some entry) h k = absurd k
up_to_both (Some entry) None h k = absurd h
up_to_both (Some entry) (Some other) h k = ap Some (entry_laws.order.antisymmetric entry other h k)

pub up_to_third : (one other third : Option Entry) → IsOptionUpTo one other → IsOptionUpTo other third → IsOptionUpTo one third
up_to_third None other third h k = tt
up_to_third (Some entry) None third h k = absurd h
up_to_third (Some entry) (Some other) None h k = absurd k
up_to_third (Some entry) (Some other) (Some third) h k = entry_laws.order.transitive entry other third h k

-- the greater of what was there and an entry is one of them
one_of : (greater : Bool) (old new : Entry) → (cond greater new old ≡ old) ⊎ (cond greater new old ≡ new)
one_of true old new = inr refl
one_of false old new = inl refl

pub greater_is : (old : Option Entry) (new : Entry) → (old ≡ Some (greater_of old new)) ⊎ (greater_of old new ≡ new)
greater_is None new = inr refl
greater_is (Some old) new = elim (one_of (is_lt (entry_cmp old new)) old new) [
  | inl kept ↦ inl (ap Some (sym kept))
  | inr taken ↦ inr taken
]

-- what the join has where the tables have these
abbrev pub joined : Option Entry → Option Entry → Option Entry
joined one None = one
joined one (Some entry) = Some (greater_of one entry)

pub joined_first : (one other : Option Entry) → IsOptionUpTo one (joined one other)
joined_first one None = up_to_itself one
joined_first None (Some entry) = tt
joined_first (Some old) (Some entry) = entry_laws.bound.above_first old entry

joined_second : (one other : Option Entry) → IsOptionUpTo other (joined one other)
joined_second one None = tt
joined_second None (Some entry) = entry_laws.order.reflexive entry
joined_second (Some old) (Some entry) = entry_laws.bound.above_second old entry

pub joined_least : (one other bound : Option Entry) → IsOptionUpTo one bound → IsOptionUpTo other bound → IsOptionUpTo (joined one other) bound
joined_least one None bound h k = h
joined_least None (Some entry) bound h k = k
joined_least (Some old) (Some entry) None h k = absurd h
joined_least (Some old) (Some entry) (Some bound) h k = entry_laws.bound.least old entry bound h k

-- ---- at each prefix

-- prefixes that are level are one
pub same_from_tie : (one other : List Bool) → eq_by_cmp prefix_cmp one other ≡ true → one ≡ other
same_from_tie one other tie = prefix_cmp-exact one other (is_equal (prefix_cmp one other) tie)

-- of entries at prefixes, then others: the first are found first
joined_find : (table : TableMap) (prefix : List Bool) (es fs : List (List Bool × Entry)) → find prefix_cmp prefix fs ≡ get table prefix
    → find prefix_cmp prefix (map (λ e. (e.0, greater_of (get table e.0) e.1)) es ++ fs) ≡ joined (get table prefix) (find prefix_cmp prefix es)
joined_find table prefix [] fs rest = rest
joined_find table prefix (e ∷ es) fs rest =
    elim (eq_by_cmp prefix_cmp prefix e.0) as (λ here. eq_by_cmp prefix_cmp prefix e.0 ≡ here
    → cond here (Some (greater_of (get table e.0) e.1)) (find prefix_cmp prefix (map (λ e. (e.0, greater_of (get table e.0) e.1)) es ++ fs))
    ≡ joined (get table prefix) (cond here (Some e.1) (find prefix_cmp prefix es))) [
      | true ↦ λ here. ap (λ p. Some (greater_of (get table p) e.1)) (sym (same_from_tie prefix e.0 here))
      | false ↦ λ here. joined_find table prefix es fs rest
    ] refl

pub get-table_join : (table other : TableMap) (prefix : List Bool) → get (table_join table other) prefix ≡ joined (get table prefix) (get other prefix)
get-table_join table other prefix =
    get-from_entries prefix_cmp-total _ prefix
    ∙ joined_find table prefix (entries other) (entries table) (sym (get-entries table prefix))
    ∙ ap (joined (get table prefix)) (sym (get-entries other prefix))

-- two tables with the same entries are one
pub same_table : (table other : TableMap) → ((prefix : List Bool) → get table prefix ≡ get other prefix) → table ≡ other
same_table table other same = same_map prefix_cmp-total prefix_cmp-exact table other same

table_order : IsPartialOrder IsTableUpTo
table_order = record {
  reflexive = λ table prefix. up_to_itself (get table prefix);
  antisymmetric = λ table other h k. same_table table other (λ prefix. up_to_both (get table prefix) (get other prefix) (h prefix) (k prefix));
  transitive = λ table other third h k prefix. up_to_third (get table prefix) (get other prefix) (get third prefix) (h prefix) (k prefix);
}

table_bound : IsLeastAboveBoth IsTableUpTo table_join
table_bound = record {
  above_first = λ table other prefix. subst (IsOptionUpTo (get table prefix)) (sym (get-table_join table other prefix)) (joined_first (get table prefix) (get other prefix));
  above_second = λ table other prefix. subst (IsOptionUpTo (get other prefix)) (sym (get-table_join table other prefix)) (joined_second (get table prefix) (get other prefix));
  least = λ table other bound h k prefix. subst (λ one. IsOptionUpTo one (get bound prefix)) (sym (get-table_join table other prefix)) (joined_least (get table prefix) (get other prefix) (get bound prefix) (h prefix) (k prefix));
}

pub table_laws : JoinLaws IsTableUpTo table_join
table_laws = join_laws table_order table_bound

-- ---- the next change at a prefix

-- a greater number makes a greater entry
pub later_wins : (stood : Option Entry) (entry : Entry) → entry_number stood < entry.number → greater_of stood entry ≡ entry
later_wins None entry later = refl
later_wins (Some old) entry later =
    let less : nat_cmp old.number entry.number ≡ Less = sym (nat_cmp_is old.number entry.number Less later) in
    rw less refl
