-- What tables are that were joined, and told an entry more.
use Rattle.std.proofs.Common.{◌≡◌, Bool, true, false, cond, List, [], ◌∷◌, ◌++◌, Option, Some, None, refl, sym, ap, ◌∙◌, subst}
use Rattle.std.specs.FinMap.{empty, get, get-empty, get-insert}
use Rattle.std.specs.Ordering.{eq_by_cmp}
use Rattle.exh_prefix.specs.Prefix.{prefix_cmp}
use Rattle.exh_prefix.specs.PrefixLemmas.{prefix_cmp-total}
use Rattle.exh_join.specs.Greater.{IsUpTo}
use Rattle.exh_notice.specs.declared.entry.Entry.{Entry}
use Rattle.exh_notice.specs.Entry.{entry_cmp}
use Rattle.exh_notice.specs.EntryLemmas.{entry_laws}
use Rattle.exh_table.specs.Table.{TableMap, raised, greater_of}
use Rattle.exh_table.specs.TableOrder.{IsOptionUpTo, IsTableUpTo, table_join}
use Rattle.exh_table.specs.RaisedLemmas.{raised_all}
use Rattle.exh_table.specs.TableLemmas.{joined, get-table_join, same_table, same_from_tie, table_laws}

-- a table that is at most this one is joined in it already
pub joined_already : (table other : TableMap) → IsTableUpTo other table → table_join table other ≡ table
joined_already table other up =
    sym (table_laws.order.antisymmetric table (table_join table other) (table_laws.bound.above_first table other)
    (table_laws.bound.least table other table (table_laws.order.reflexive table) up))

-- the table with no entry tells nothing
pub none_told : (table : TableMap) → IsTableUpTo empty table
none_told table prefix = subst (λ one. IsOptionUpTo one (get table prefix)) (sym (get-empty prefix_cmp prefix)) tt

pub joined_none : (table : TableMap) → table_join table empty ≡ table
joined_none table = joined_already table empty (none_told table)

-- what is between tables at most another
pub up_to_joined : (one other third : TableMap) → IsTableUpTo one other → IsTableUpTo one (table_join other third)
up_to_joined one other third up = table_laws.order.transitive one other (table_join other third) up (table_laws.bound.above_first other third)

-- the last two of three change places
pub swapped : (one other third : TableMap) → table_join (table_join one other) third ≡ table_join (table_join one third) other
swapped one other third =
    table_laws.associative one other third ∙ ap (table_join one) (table_laws.commutative other third) ∙ sym (table_laws.associative one third other)

-- ---- one entry more

greater_thrice : (one other : Option Entry) (entry : Entry) → greater_of one (greater_of other entry) ≡ greater_of (joined one other) entry
greater_thrice one None entry = refl
greater_thrice None (Some old) entry = refl
greater_thrice (Some first) (Some old) entry = sym (entry_laws.associative first old entry)

raised_at : (here : Bool) (one other : TableMap) (prefix key : List Bool) (entry : Entry) → eq_by_cmp prefix_cmp prefix key ≡ here
    → joined (get one prefix) (cond here (Some (greater_of (get other key) entry)) (get other prefix))
    ≡ cond here (Some (greater_of (joined (get one key) (get other key)) entry)) (joined (get one prefix) (get other prefix))
raised_at true one other prefix key entry tie =
    ap (λ p. Some (greater_of (get one p) (greater_of (get other key) entry))) (same_from_tie prefix key tie) ∙ ap Some (greater_thrice (get one key) (get other key) entry)
raised_at false one other prefix key entry tie = refl

-- a join with a table that took an entry is the join that took it
pub joined_raised : (one other : TableMap) (key : List Bool) (entry : Entry) → table_join one (raised other key entry) ≡ raised (table_join one other) key entry
joined_raised one other key entry =
    same_table _ _ (λ prefix. get-table_join one (raised other key entry) prefix
    ∙ ap (joined (get one prefix)) (get-insert prefix_cmp-total other key (greater_of (get other key) entry) prefix)
    ∙ raised_at (eq_by_cmp prefix_cmp prefix key) one other prefix key entry refl
    ∙ sym (get-insert prefix_cmp-total (table_join one other) key (greater_of (get (table_join one other) key) entry) prefix
    ∙ ap (λ stood. cond (eq_by_cmp prefix_cmp prefix key) (Some (greater_of stood entry)) (get (table_join one other) prefix)) (get-table_join one other key)
    ∙ ap (cond (eq_by_cmp prefix_cmp prefix key) (Some (greater_of (joined (get one key) (get other key)) entry))) (get-table_join one other prefix)))

-- an entry that was told changes nothing
greater_stays : (stood entry : Entry) → IsUpTo entry_cmp entry stood → greater_of (Some stood) entry ≡ stood
greater_stays stood entry up =
    sym (entry_laws.order.antisymmetric stood (greater_of (Some stood) entry) (entry_laws.bound.above_first stood entry)
    (entry_laws.bound.least stood entry stood (entry_laws.order.reflexive stood) up))

told_at : (here : Bool) (table : TableMap) (prefix key : List Bool) (stood entry : Entry) → eq_by_cmp prefix_cmp prefix key ≡ here → get table key ≡ Some stood → IsUpTo entry_cmp entry stood
    → cond here (Some (greater_of (get table key) entry)) (get table prefix) ≡ get table prefix
told_at true table prefix key stood entry tie is up =
    ap (λ old. Some (greater_of old entry)) is ∙ ap Some (greater_stays stood entry up) ∙ sym is ∙ sym (ap (get table) (same_from_tie prefix key tie))
told_at false table prefix key stood entry tie is up = refl

pub raised_told : (table : TableMap) (key : List Bool) (stood entry : Entry) → get table key ≡ Some stood → IsUpTo entry_cmp entry stood → raised table key entry ≡ table
raised_told table key stood entry is up =
    same_table _ table (λ prefix. get-insert prefix_cmp-total table key (greater_of (get table key) entry) prefix ∙ told_at _ table prefix key stood entry refl is up)

-- nor does one that was told to a part of a join
pub joined_told : (own news : TableMap) (key : List Bool) (entry : Entry) → raised own key entry ≡ own → raised (table_join own news) key entry ≡ table_join own news
joined_told own news key entry told =
    ap (λ t. raised t key entry) (table_laws.commutative own news) ∙ sym (joined_raised news own key entry) ∙ ap (table_join news) told ∙ table_laws.commutative news own

-- ---- entries that are taken from behind

-- a table that took an entry is joined with the one that has it alone
raised_is_join : (table : TableMap) (key : List Bool) (entry : Entry) → raised table key entry ≡ table_join table (raised empty key entry)
raised_is_join table key entry = ap (λ t. raised t key entry) (sym (joined_none table)) ∙ sym (joined_raised table empty key entry)

-- two entries are taken in either order
raised_swapped : (table : TableMap) (one other : List Bool) (first second : Entry) → raised (raised table one first) other second ≡ raised (raised table other second) one first
raised_swapped table one other first second =
    raised_is_join (raised table one first) other second
    ∙ ap (λ t. table_join t (raised empty other second)) (raised_is_join table one first)
    ∙ swapped table (raised empty one first) (raised empty other second)
    ∙ ap (λ t. table_join t (raised empty one first)) (sym (raised_is_join table other second))
    ∙ sym (raised_is_join (raised table other second) one first)

-- the last of some may come first
pub raised_all-last : (table : TableMap) (entries : List (List Bool × Entry)) (last : List Bool × Entry) → raised_all table (entries ++ last ∷ []) ≡ raised_all (raised table last.0 last.1) entries
raised_all-last table [] last = refl
raised_all-last table (e ∷ entries) last =
    raised_all-last (raised table e.0 e.1) entries last ∙ ap (λ t. raised_all t entries) (raised_swapped table e.0 last.0 e.1 last.1)
