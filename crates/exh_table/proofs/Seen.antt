-- A table as its map of entries shows it.
use Rattle.std.proofs.Common.{◌≡◌, Bool, true, false, cond, List, [], ◌∷◌, Option, Some, None, Result, Ok, Err, OnErr, refl, sym, ap, subst, ◌∙◌, IsSome}
use Rattle.std.specs.BTreeMap.{BTreeMap, is_at, Updates}
use Rattle.std.specs.Cmp.{eq_by_cmp_equiv}
use Rattle.std.specs.FinMap.{from_entries, entries, get, insert, remove, get-from_entries, get-insert, get-remove, same_map, empty, len-entries, len-empty, entries-insert}
use Rattle.std.specs.FinMap.Entries.{find, put}
use Rattle.std.specs.Map.{lookup, keys_of}
use Rattle.std.specs.List.{AllByRecursion}
use Rattle.std.specs.List.Sorted.{IsStrictlySortedBy}
use Rattle.std.specs.declared.cmp.Ordering.TheVariants.{Less}
use Rattle.std.specs.Ordering.{eq_by_cmp}
use Rattle.std.proofs.lemmas.List.{nil_from_length}
use Rattle.exh_prefix.specs.Prefix.{prefix_cmp}
use Rattle.exh_prefix.specs.PrefixListLemmas.{is_equal}
use Rattle.exh_prefix.specs.PrefixLemmas.{prefix_cmp-total, prefix_cmp-exact}
use Rattle.exh_notice.specs.declared.entry.Entry.{Entry}
use Rattle.exh_table.specs.Table.{TableMap}

find-lookup : (q : List Bool) (es : List (List Bool × Entry)) → find prefix_cmp q es ≡ lookup (is_at (prefix_cmp q)) es
find-lookup q [] = refl
find-lookup q (e ∷ es) = ap (cond (is_at (prefix_cmp q) e.0) (Some e.1)) (find-lookup q es)

put_first : (e : List Bool × Entry) (es : List (List Bool × Entry)) → AllByRecursion (λ y. prefix_cmp e.0 y ≡ Less) (keys_of es) → put prefix_cmp e.0 e.1 es ≡ e ∷ es
put_first e [] below = refl
put_first e (f ∷ es) below = rw below.0 refl

entries-none : entries (from_entries {X = Entry} {R = prefix_cmp} []) ≡ []
entries-none = nil_from_length (entries empty) (sym (len-entries empty) ∙ len-empty prefix_cmp Entry)

-- the entry at a prefix is what the map finds there
pub get_seen : (es : List (List Bool × Entry)) (q : List Bool) → get (from_entries {R = prefix_cmp} es) q ≡ lookup (is_at (prefix_cmp q)) es
get_seen es q = get-from_entries prefix_cmp-total es q ∙ find-lookup q es

-- what a map is seen as whose entries changed at one prefix
seen_at : (m n : BTreeMap (List Bool) Entry) (k : List Bool) (w : Option Entry) → Updates prefix_cmp m n k w → (q : List Bool)
    → get (from_entries {R = prefix_cmp} n.entries) q ≡ cond (eq_by_cmp prefix_cmp q k) w (get (from_entries {R = prefix_cmp} m.entries) q)
seen_at m n k w changes q =
    get_seen n.entries q ∙ changes.0 q ∙ ap (λ b. cond b w (lookup (is_at (prefix_cmp q)) m.entries)) ((eq_by_cmp_equiv prefix_cmp-total).symm k q)
    ∙ ap (cond (eq_by_cmp prefix_cmp q k) w) (sym (get_seen m.entries q))

pub insert_seen : (m n : BTreeMap (List Bool) Entry) (k : List Bool) (v : Entry) → Updates prefix_cmp m n k (Some v) → from_entries {R = prefix_cmp} n.entries ≡ insert (from_entries m.entries) k v
insert_seen m n k v changes = same_map prefix_cmp-total prefix_cmp-exact _ _ (λ q. seen_at m n k (Some v) changes q ∙ sym (get-insert prefix_cmp-total (from_entries m.entries) k v q))

either : {X : Type 0} (b : Bool) (w x v y : X) → x ≡ cond b v y → cond b w x ≡ cond b w y
either true w x v y is = refl
either false w x v y is = is

-- an entry that was put there stands there, and the last one counts
pub insert_there : (m : TableMap) (k : List Bool) (v : Entry) → get (insert m k v) k ≡ Some v
insert_there m k v = get-insert prefix_cmp-total m k v k ∙ ap (λ b. cond b (Some v) (get m k)) ((eq_by_cmp_equiv prefix_cmp-total).refl k)

pub insert_twice : (m : TableMap) (k : List Bool) (v w : Entry) → insert (insert m k v) k w ≡ insert m k w
insert_twice m k v w = same_map prefix_cmp-total prefix_cmp-exact _ _ (λ q.
    get-insert prefix_cmp-total (insert m k v) k w q
    ∙ either (eq_by_cmp prefix_cmp q k) (Some w) (get (insert m k v) q) (Some v) (get m q) (get-insert prefix_cmp-total m k v q)
    ∙ sym (get-insert prefix_cmp-total m k w q))

pub remove_seen : (m n : BTreeMap (List Bool) Entry) (k : List Bool) → Updates prefix_cmp m n k None → from_entries {R = prefix_cmp} n.entries ≡ remove (from_entries m.entries) k
remove_seen m n k changes = same_map prefix_cmp-total prefix_cmp-exact _ _ (λ q. seen_at m n k None changes q ∙ sym (get-remove prefix_cmp-total (from_entries m.entries) k q))

-- a prefix that the table has is one that the map has
pub some_seen : (es : List (List Bool × Entry)) (table : TableMap) (k : List Bool) → from_entries es ≡ table → IsSome (get table k) → IsSome (lookup (is_at (prefix_cmp k)) es)
some_seen es table k is some = subst IsSome (get_seen es k) (subst (λ (t : TableMap). IsSome (get t k)) (sym is) some)

-- a list in order is the list of its map's entries
pub entries_seen : (es : List (List Bool × Entry)) → IsStrictlySortedBy prefix_cmp (keys_of es) → entries (from_entries {R = prefix_cmp} es) ≡ es
unfolding IsStrictlySortedBy
entries_seen [] sorted = entries-none
entries_seen (e ∷ es) sorted =
    entries-insert prefix_cmp-total (from_entries es) e.0 e.1 ∙ ap (put prefix_cmp e.0 e.1) (entries_seen es sorted.1) ∙ put_first e es sorted.0

-- a fact stands where an answer is an error
pub on_err : {A E : Type 0} (r : Result A E) {P : Type 0} → P → OnErr r P
on_err (Ok x) p = tt
on_err (Err e) p = p

-- to put what stands there changes nothing
pub insert_stood : (m : TableMap) (k : List Bool) (v : Entry) → get m k ≡ Some v → insert m k v ≡ m
insert_stood m k v stands = same_map prefix_cmp-total prefix_cmp-exact _ _ (λ q.
    get-insert prefix_cmp-total m k v q
    ∙ elim (eq_by_cmp prefix_cmp q k) as (λ tie. eq_by_cmp prefix_cmp q k ≡ tie → cond tie (Some v) (get m q) ≡ get m q) [
      | true ↦ λ tie. sym stands ∙ ap (get m) (sym (prefix_cmp-exact q k (is_equal (prefix_cmp q k) tie)))
      | false ↦ λ tie. refl
    ] refl)
