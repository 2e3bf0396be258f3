-- Tables of sets of entries at prefixes.
use Rattle.std.proofs.Common.{◌≡◌, zero, suc, Bool, true, false, cond, List, [], ◌∷◌, ◌++◌, map, arith, Option, Some, None, refl, sym, ap, ◌∙◌, subst, ◌⊎◌, inl, inr, ◌↔◌, Contains, T}
use Rattle.std.specs.FinMap.{empty, entries, entries_sorted, get, get-empty, get-entries, get-insert, get-remove, insert, len-empty, len-entries}
use Rattle.std.specs.FinMap.Entries.{find, is_sorted, below_all}
use Rattle.std.specs.Ordering.{eq_by_cmp, is_eq, is_lt}
use Rattle.std.specs.declared.cmp.Ordering.{Ordering}
use Rattle.std.specs.declared.cmp.Ordering.TheVariants.{Less, Equal, Greater}
use Rattle.std.proofs.lemmas.Bool.{false≢true}
use Rattle.std.proofs.lemmas.Cmp.{tied_itself}
use Rattle.std.proofs.lemmas.List.{append_assoc, map-append, nil_from_length}
use Rattle.std.proofs.lemmas.List.Elements.{Contains-append_left, Contains-append_right, Contains-append_cases}
use Rattle.exh_prefix.specs.Prefix.{prefix_cmp}
use Rattle.exh_prefix.specs.PrefixLemmas.{prefix_cmp-total}
use Rattle.exh_prefix.specs.PrefixListLemmas.{first_part, second_part}
use Rattle.exh_notice.specs.Greater.{IsUpTo}
use Rattle.exh_notice.specs.declared.entry.Entry.{Entry}
use Rattle.exh_notice.specs.declared.notice.Notice.{Notice}
use Rattle.exh_notice.specs.Entry.{entry_cmp, entry_of, greater_entry}
use Rattle.exh_notice.specs.EntryLemmas.{entry_laws}
use Rattle.exh_table.specs.Table.{TableMap, IsGreatest, IsEntryOf, IsTableOf, IsTableSince, raised, greater_of, table_at, table_with, told_by}
use Rattle.exh_table.specs.TableOrder.{table_join}
use Rattle.exh_table.specs.TableLemmas.{joined, get-table_join, same_table, same_from_tie}

-- ---- the union of two sets

-- what the set has at the prefix comes from one of both
from_either : (told others : List (List Bool × Entry)) (prefix : List Bool) (entry bound : Entry) → Contains (told ++ others) (prefix, entry)
    → (Contains told (prefix, entry) → IsUpTo entry_cmp entry bound) → (Contains others (prefix, entry) → IsUpTo entry_cmp entry bound) → IsUpTo entry_cmp entry bound
from_either told others prefix entry bound contains first second =
    elim (Contains-append_cases told others (prefix, entry) contains) [ inl one ↦ first one | inr other ↦ second other ]

-- the greater of two is one of them
greater_cases : (old entry : Entry) → (greater_entry old entry ≡ old) ⊎ (greater_entry old entry ≡ entry)
greater_cases old entry = elim (is_lt (entry_cmp old entry)) as (λ less. (cond less entry old ≡ old) ⊎ (cond less entry old ≡ entry)) [ true ↦ inr refl | false ↦ inl refl ]

union_both : (told others : List (List Bool × Entry)) (prefix : List Bool) (old entry : Entry) → IsGreatest told prefix old → IsGreatest others prefix entry → IsGreatest (told ++ others) prefix (greater_entry old entry)
union_both told others prefix old entry first second =
    let top = greater_entry old entry in
    record {
      member = elim (greater_cases old entry) [
        | inl is ↦ Contains-append_left told others (prefix, top) (subst (λ e. Contains told (prefix, e)) (sym is) first.member)
        | inr is ↦ Contains-append_right told others (prefix, top) (subst (λ e. Contains others (prefix, e)) (sym is) second.member)
      ];
      greatest = λ other contains. from_either told others prefix other top contains
          (λ one. entry_laws.order.transitive other old top (first.greatest other one) (entry_laws.bound.above_first old entry))
          (λ one. entry_laws.order.transitive other entry top (second.greatest other one) (entry_laws.bound.above_second old entry));
    }

pub union_at : (told others : List (List Bool × Entry)) (prefix : List Bool) (one other : Option Entry) → IsEntryOf told prefix one → IsEntryOf others prefix other → IsEntryOf (told ++ others) prefix (joined one other)
union_at told others prefix None None first second = λ entry contains.
    elim (Contains-append_cases told others (prefix, entry) contains) [ inl here ↦ first entry here | inr there ↦ second entry there ]
union_at told others prefix None (Some entry) first second = record {
  member = Contains-append_right told others (prefix, entry) second.member;
  greatest = λ other contains. from_either told others prefix other entry contains (λ here. absurd (first other here)) (second.greatest other);
}
union_at told others prefix (Some old) None first second = record {
  member = Contains-append_left told others (prefix, old) first.member;
  greatest = λ other contains. from_either told others prefix other old contains (first.greatest other) (λ there. absurd (second other there));
}
union_at told others prefix (Some old) (Some entry) first second = union_both told others prefix old entry first second

pub union_is_join : (told others : List (List Bool × Entry)) (table other : TableMap) → IsTableOf told table → IsTableOf others other → IsTableOf (told ++ others) (table_join table other)
union_is_join told others table other first second = λ prefix.
    subst (IsEntryOf (told ++ others) prefix) (sym (get-table_join table other prefix)) (union_at told others prefix (get table prefix) (get other prefix) (first prefix) (second prefix))

-- ---- one entry more

only_one : (pair other : List Bool × Entry) → Contains (pair ∷ []) other → pair ≡ other
only_one pair other (zero, within, is) = is
only_one pair other (suc n, within, is) = absurd (omega arith)

one_at : (key : List Bool) (entry : Entry) (prefix : List Bool) (here : Bool) → eq_by_cmp prefix_cmp prefix key ≡ here → IsEntryOf ((key, entry) ∷ []) prefix (cond here (Some entry) None)
one_at key entry prefix true tie =
    let same = same_from_tie prefix key tie in
    record {
      member = (0, omega arith, λ i. (sym same i, entry));
      greatest = λ other contains. subst (λ e. IsUpTo entry_cmp e entry) (ap (λ (pair : List Bool × Entry). pair.1) (only_one (key, entry) (prefix, other) contains)) (entry_laws.order.reflexive entry);
    }
one_at key entry prefix false tie = λ other contains.
    let same = ap (λ (pair : List Bool × Entry). pair.0) (only_one (key, entry) (prefix, other) contains) in
    false≢true (sym tie ∙ ap (λ p. is_eq (prefix_cmp prefix p)) same ∙ ap is_eq (tied_itself prefix_cmp-total prefix))

-- what a table has that took an entry
raised_at : (table : TableMap) (key : List Bool) (entry : Entry) (prefix : List Bool)
    → get (raised table key entry) prefix ≡ joined (get table prefix) (cond (eq_by_cmp prefix_cmp prefix key) (Some entry) None)
raised_at table key entry prefix =
    get-insert prefix_cmp-total table key (greater_of (get table key) entry) prefix
    ∙ elim (eq_by_cmp prefix_cmp prefix key) as (λ here. eq_by_cmp prefix_cmp prefix key ≡ here
    → cond here (Some (greater_of (get table key) entry)) (get table prefix) ≡ joined (get table prefix) (cond here (Some entry) None)) [
      | true ↦ λ tie. ap (λ p. Some (greater_of (get table p) entry)) (sym (same_from_tie prefix key tie))
      | false ↦ λ tie. refl
    ] refl

pub one_more : (told : List (List Bool × Entry)) (table : TableMap) (key : List Bool) (entry : Entry) → IsTableOf told table → IsTableOf (told ++ (key, entry) ∷ []) (raised table key entry)
one_more told table key entry is = λ prefix.
    subst (IsEntryOf (told ++ (key, entry) ∷ []) prefix) (sym (raised_at table key entry prefix))
    (union_at told ((key, entry) ∷ []) prefix (get table prefix) (cond (eq_by_cmp prefix_cmp prefix key) (Some entry) None) (is prefix) (one_at key entry prefix _ refl))

-- ---- the members decide

same_entry : (told others : List (List Bool × Entry)) (prefix : List Bool) (one other : Option Entry) → ((pair : List Bool × Entry) → Contains told pair ↔ Contains others pair)
    → IsEntryOf told prefix one → IsEntryOf others prefix other → one ≡ other
same_entry told others prefix None None same first second = refl
same_entry told others prefix None (Some entry) same first second = absurd (first entry ((same (prefix, entry)).1 second.member))
same_entry told others prefix (Some entry) None same first second = absurd (second entry ((same (prefix, entry)).0 first.member))
same_entry told others prefix (Some one) (Some other) same first second =
    ap Some (entry_laws.order.antisymmetric one other (second.greatest one ((same (prefix, one)).0 first.member)) (first.greatest other ((same (prefix, other)).1 second.member)))

pub members_decide : (told others : List (List Bool × Entry)) (table other : TableMap) → ((pair : List Bool × Entry) → Contains told pair ↔ Contains others pair) → IsTableOf told table → IsTableOf others other → table ≡ other
members_decide told others table other same first second = same_table table other (λ prefix. same_entry told others prefix (get table prefix) (get other prefix) same (first prefix) (second prefix))

-- ---- a table's own entries

less_is_not_equal : (r : Ordering) → T (is_lt r) → is_eq r ≡ false
less_is_not_equal Less less = refl
less_is_not_equal Equal less = absurd less
less_is_not_equal Greater less = refl

pub none_below : (prefix : List Bool) (es : List (List Bool × Entry)) → T (below_all prefix_cmp prefix es) → find prefix_cmp prefix es ≡ None
none_below prefix [] below = refl
none_below prefix (e ∷ es) below =
    ap (λ here. cond here (Some e.1) (find prefix_cmp prefix es)) (less_is_not_equal (prefix_cmp prefix e.0) (first_part _ _ below)) ∙ none_below prefix es (second_part _ _ below)

pub joined_none : (other : Option Entry) → joined None other ≡ other
joined_none None = refl
joined_none (Some entry) = refl

found_first : (e : List Bool × Entry) (es : List (List Bool × Entry)) (prefix : List Bool) (here : Bool) → eq_by_cmp prefix_cmp prefix e.0 ≡ here → T (below_all prefix_cmp e.0 es)
    → joined (cond here (Some e.1) None) (find prefix_cmp prefix es) ≡ cond here (Some e.1) (find prefix_cmp prefix es)
found_first e es prefix true tie below = ap (joined (Some e.1)) (ap (λ p. find prefix_cmp p es) (same_from_tie prefix e.0 tie) ∙ none_below e.0 es below)
found_first e es prefix false tie below = joined_none (find prefix_cmp prefix es)

own_at : (es : List (List Bool × Entry)) (prefix : List Bool) → T (is_sorted prefix_cmp es) → IsEntryOf es prefix (find prefix_cmp prefix es)
own_at [] prefix sorted = λ entry contains. absurd (omega (arith, contains.1))
own_at (e ∷ es) prefix sorted =
    subst (IsEntryOf (e ∷ es) prefix) (found_first e es prefix (eq_by_cmp prefix_cmp prefix e.0) refl (first_part _ _ sorted))
    (union_at (e ∷ []) es prefix (cond (eq_by_cmp prefix_cmp prefix e.0) (Some e.1) None) (find prefix_cmp prefix es) (one_at e.0 e.1 prefix (eq_by_cmp prefix_cmp prefix e.0) refl) (own_at es prefix (second_part _ _ sorted)))

pub own_entries : (table : TableMap) → IsTableOf (entries table) table
own_entries table = λ prefix. subst (IsEntryOf (entries table) prefix) (sym (get-entries table prefix)) (own_at (entries table) prefix (entries_sorted table))

-- ---- what was taken is put back

put_back_some : (here : Bool) (prefix key : List Bool) (table : TableMap) (old entry : Entry) → eq_by_cmp prefix_cmp prefix key ≡ here → get table key ≡ Some old
    → cond here (Some old) (cond here (Some entry) (get table prefix)) ≡ get table prefix
put_back_some true prefix key table old entry tie stood = sym (ap (get table) (same_from_tie prefix key tie) ∙ stood)
put_back_some false prefix key table old entry tie stood = refl

put_back_none : (here : Bool) (prefix key : List Bool) (table : TableMap) (entry : Entry) → eq_by_cmp prefix_cmp prefix key ≡ here → get table key ≡ None
    → cond here None (cond here (Some entry) (get table prefix)) ≡ get table prefix
put_back_none true prefix key table entry tie stood = sym (ap (get table) (same_from_tie prefix key tie) ∙ stood)
put_back_none false prefix key table entry tie stood = refl

put_back_at : (table : TableMap) (key : List Bool) (entry : Entry) (stood : Option Entry) (prefix : List Bool) → get table key ≡ stood → get (table_at (insert table key entry) key stood) prefix ≡ get table prefix
put_back_at table key entry None prefix is =
    get-remove prefix_cmp-total (insert table key entry) key prefix
    ∙ ap (cond (eq_by_cmp prefix_cmp prefix key) None) (get-insert prefix_cmp-total table key entry prefix)
    ∙ put_back_none _ prefix key table entry refl is
put_back_at table key entry (Some old) prefix is =
    get-insert prefix_cmp-total (insert table key entry) key old prefix
    ∙ ap (cond (eq_by_cmp prefix_cmp prefix key) (Some old)) (get-insert prefix_cmp-total table key entry prefix)
    ∙ put_back_some _ prefix key table old entry refl is

pub put_back : (table : TableMap) (key : List Bool) (entry : Entry) → table_at (raised table key entry) key (get table key) ≡ table
put_back table key entry = same_table _ table (λ prefix. put_back_at table key (greater_of (get table key) entry) (get table key) prefix refl)

-- ---- a start and notices since

-- the table with no entry has none
pub no_entries : entries (let none : TableMap = empty in none) ≡ []
no_entries = nil_from_length (entries (let none : TableMap = empty in none)) (sym (len-entries (let none : TableMap = empty in none)) ∙ len-empty prefix_cmp Entry)

pub since_nothing : IsTableSince empty [] empty
since_nothing prefix =
    let told : List (List Bool × Entry) = entries (let none : TableMap = empty in none) ++ [] in
    let none : (entry : Entry) → Contains told (prefix, entry) → ⊥ = λ entry member.
    let among : Contains (let none : List (List Bool × Entry) = [] in none) (prefix, entry) = subst (λ es. Contains (es ++ []) (prefix, entry)) no_entries member in
    omega (arith, among.1) in
    subst (IsEntryOf told prefix) (sym (get-empty prefix_cmp prefix)) none

pub IsTableSince-push : (start : TableMap) (notices : List Notice) (table : TableMap) (notice : Notice) → IsTableSince start notices table → IsTableSince start (notices ++ notice ∷ []) (table_with table notice)
IsTableSince-push start notices table notice is =
    let told = entries start ++ map told_by notices in
    let whole : told ++ told_by notice ∷ [] ≡ entries start ++ map told_by (notices ++ notice ∷ []) =
    append_assoc (entries start) (map told_by notices) (told_by notice ∷ []) ∙ ap (λ more. entries start ++ more) (sym (map-append told_by notices (notice ∷ []))) in
    subst (λ told. IsTableOf told (table_with table notice)) whole (one_more told table notice.prefix (entry_of notice) is)
