-- A table with one notice more.
use Rattle.std.proofs.Common.{◌≡◌, ℕ, ◌+◌, ◌<◌, Bool, true, false, cond, List, [], ◌∷◌, None, Some, ◌⊎◌, inl, inr, refl, sym, ap, ◌∙◌, arith}
use Rattle.std.specs.Prelude.{T}
use Rattle.std.specs.declared.cmp.Ordering.TheVariants.{Less, Equal, Greater}
use Rattle.std.specs.FinMap as fin
use Rattle.std.specs.FinMap.Entries.{find, put, is_sorted, below_all, by_order}
use Rattle.std.specs.List.{sum_by}
use Rattle.std.specs.Option.{option_map_or}
use Rattle.std.specs.Ordering.{is_eq, eq_by_cmp}
use Rattle.std.proofs.lemmas.Bool.{cases_Bool}
use Rattle.std.proofs.lemmas.Cmp.{tied_itself}
use Rattle.std.proofs.lemmas.List.Sums.{sum_by-cons}
use Rattle.exh_prefix.specs.Prefix.{prefix_cmp}
use Rattle.exh_prefix.specs.PrefixLemmas.{prefix_cmp-total, prefix_cmp-exact}
use Rattle.exh_prefix.specs.PrefixListLemmas.{first_part, second_part, is_equal}
use Rattle.exh_table.specs.declared.Entry.{Entry}
use Rattle.exh_table.specs.declared.Notice.{Notice}
use Rattle.exh_table.specs.Entry.{entry_of}
use Rattle.exh_table.specs.Table.{TableMap, table_with, greater_of}
use Rattle.exh_table.specs.TableLemmas.{later_wins}
use Rattle.exh_legal.specs.ChangeNumbers.{number_at, index_of}
use Rattle.exh_legal.specs.OrderLemmas.{is_less}

pub cases_prefix : (one other : List Bool) → (one ≡ other) ⊎ (one ≡ other → ⊥)
cases_prefix one other = elim (cases_Bool (eq_by_cmp prefix_cmp one other)) [
  | inl same ↦ inl (prefix_cmp-exact one other (is_equal (prefix_cmp one other) same))
  | inr differs ↦ inr (λ same. let tied : eq_by_cmp prefix_cmp one other ≡ true = ap (λ p. eq_by_cmp prefix_cmp one p) (sym same) ∙ ap is_eq (tied_itself prefix_cmp-total one) in cc)
]

differs_by : (one other : List Bool) → (one ≡ other → ⊥) → (b : Bool) → eq_by_cmp prefix_cmp one other ≡ b → b ≡ false
differs_by one other differ true is = absurd (differ (prefix_cmp-exact one other (is_equal (prefix_cmp one other) is)))
differs_by one other differ false is = refl

pub get_with_other : (table : TableMap) (notice : Notice) (prefix : List Bool) → (prefix ≡ notice.prefix → ⊥) → fin.get (table_with table notice) prefix ≡ fin.get table prefix
get_with_other table notice prefix differ =
    fin.get-insert prefix_cmp-total table notice.prefix (greater_of (fin.get table notice.prefix) (entry_of notice)) prefix
    ∙ ap (λ b. cond b (Some (greater_of (fin.get table notice.prefix) (entry_of notice))) (fin.get table prefix)) (differs_by prefix notice.prefix differ _ refl)

pub get_with_same : (table : TableMap) (notice : Notice) → number_at table notice.prefix < notice.number → fin.get (table_with table notice) notice.prefix ≡ Some (entry_of notice)
get_with_same table notice later =
    fin.get-insert prefix_cmp-total table notice.prefix (greater_of (fin.get table notice.prefix) (entry_of notice)) notice.prefix
    ∙ ap (λ o. cond (is_eq o) (Some (greater_of (fin.get table notice.prefix) (entry_of notice))) (fin.get table notice.prefix)) (tied_itself prefix_cmp-total notice.prefix)
    ∙ ap Some (later_wins (fin.get table notice.prefix) (entry_of notice) later)

-- ---- the sum of the numbers

abbrev pub weight : List Bool × Entry → ℕ
weight e = e.1.number

-- a key below the first of sorted entries isn't among them
none_below : (prefix first : List Bool) (es : List (List Bool × Entry)) → prefix_cmp prefix first ≡ Less → T (below_all prefix_cmp first es) → find prefix_cmp prefix es ≡ None
none_below prefix first [] less above = refl
none_below prefix first (e ∷ es) less above =
    let here : prefix_cmp prefix e.0 ≡ Less = prefix_cmp-total.trans prefix first e.0 less (is_less (prefix_cmp first e.0) (first_part _ _ above)) in
    rw here (none_below prefix first es less (second_part _ _ above))

sum-put : (prefix : List Bool) (entry : Entry) (es : List (List Bool × Entry)) → T (is_sorted prefix_cmp es)
    → sum_by weight (put prefix_cmp prefix entry es) + option_map_or (λ entry. entry.number) (find prefix_cmp prefix es) 0 ≡ sum_by weight es + entry.number
sum-put prefix entry [] sorted = omega arith
sum-put prefix entry (e ∷ es) sorted =
    elim (prefix_cmp prefix e.0) as (λ o. prefix_cmp prefix e.0 ≡ o → sum_by weight (by_order o ((prefix, entry) ∷ e ∷ es) ((e.0, entry) ∷ es) (e ∷ put prefix_cmp prefix entry es))
    + option_map_or (λ entry. entry.number) (cond (is_eq o) (Some e.1) (find prefix_cmp prefix es)) 0 ≡ sum_by weight (e ∷ es) + entry.number) [
      | Less ↦ λ is.
          let none : option_map_or (λ entry. entry.number) (find prefix_cmp prefix es) 0 ≡ 0 = ap (λ found. option_map_or (λ entry. entry.number) found 0) (none_below prefix e.0 es is (first_part _ _ sorted)) in
          let sum : sum_by weight ((prefix, entry) ∷ e ∷ es) ≡ entry.number + sum_by weight (e ∷ es) = sum_by-cons weight (prefix, entry) (e ∷ es) in
          omega (arith, none, sum)
      | Equal ↦ λ is.
          let sum : sum_by weight ((e.0, entry) ∷ es) ≡ entry.number + sum_by weight es = sum_by-cons weight (e.0, entry) es in
          let old : sum_by weight (e ∷ es) ≡ e.1.number + sum_by weight es = sum_by-cons weight e es in
          omega (arith, sum, old)
      | Greater ↦ λ is.
          let sum : sum_by weight (e ∷ put prefix_cmp prefix entry es) ≡ e.1.number + sum_by weight (put prefix_cmp prefix entry es) = sum_by-cons weight e (put prefix_cmp prefix entry es) in
          let old : sum_by weight (e ∷ es) ≡ e.1.number + sum_by weight es = sum_by-cons weight e es in
          omega (arith, sum, old, sum-put prefix entry es (second_part _ _ sorted))
    ] refl

pub index_with : (table : TableMap) (notice : Notice) → number_at table notice.prefix < notice.number → index_of (table_with table notice) + number_at table notice.prefix ≡ index_of table + notice.number
index_with table notice later =
    let greatest = greater_of (fin.get table notice.prefix) (entry_of notice) in
    let put_in : fin.entries (table_with table notice) ≡ put prefix_cmp notice.prefix greatest (fin.entries table) = fin.entries-insert prefix_cmp-total table notice.prefix greatest in
    let found : number_at table notice.prefix ≡ option_map_or (λ entry. entry.number) (find prefix_cmp notice.prefix (fin.entries table)) 0 =
    ap (λ found. option_map_or (λ entry. entry.number) found 0) (fin.get-entries table notice.prefix) in
    let sum = sum-put notice.prefix greatest (fin.entries table) (fin.entries_sorted table) in
    let won : greatest.number ≡ notice.number = ap (λ (entry : Entry). entry.number) (later_wins (fin.get table notice.prefix) (entry_of notice) later) in
    omega (arith, ap (sum_by weight) put_in, found, sum, won)
