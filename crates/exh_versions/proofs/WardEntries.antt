-- The entries of tables, ward by ward.
use Rattle.std.proofs.Common.{◌≡◌, ℕ, zero, suc, ◌+◌, ◌-◌, ◌*◌, ◌^◌, ◌<◌, ◌≤◌, ◌⊎◌, Bool, true, false, cond, eqb, T, None, append-nil, List, [], ◌∷◌, ◌++◌, length, map, slice_get, Some, inl, inr, refl, sym, ap, ◌∙◌, subst, length-append, arith}
use Rattle.std.specs.FinMap.{entries, entries_sorted, from_entries, get, get-entries, get-from_entries, same_map}
use Rattle.std.specs.FinMap.Entries.{below_all, find, is_sorted}
use Rattle.std.specs.Cmp.{nat_cmp_is}
use Rattle.std.specs.List.{AllByRecursion, enumerate_from, flat_map, sum_by}
use Rattle.std.specs.Ordering.{eq_by_cmp, is_eq, nat_cmp, ordering_then}
use Rattle.std.specs.declared.cmp.Ordering.{Ordering}
use Rattle.std.specs.declared.cmp.Ordering.TheVariants.{Less}
use Rattle.std.proofs.Math.Nat.{mul-le-mul_right}
use Rattle.std.proofs.lemmas.Bool.Decides.{eqb_tells}
use Rattle.std.proofs.lemmas.Cmp.{tied_itself}
use Rattle.std.proofs.lemmas.List.{length-map, map-append}
use Rattle.std.proofs.lemmas.List.Elements.{filter-append}
use Rattle.std.proofs.lemmas.List.Sums.{sum_by-cons}
use Rattle.exh_prefix.specs.BitLemmas.{length-bits_of}
use Rattle.exh_prefix.specs.Bits.{word_bits}
use Rattle.exh_prefix.specs.Leading.{ward_prefix}
use Rattle.exh_prefix.specs.LeadingLemmas.{low_of-number}
use Rattle.exh_prefix.specs.PrefixListLemmas.{AllByRecursion-append, AllByRecursion-weaker, first_part, second_part}
use Rattle.exh_prefix.specs.LowLemmas.{front_of_longer}
use Rattle.exh_prefix.specs.Prefix.{IsFront, low_of, prefix_cmp, zeros}
use Rattle.exh_prefix.specs.PrefixLemmas.{begins_low, low_of-word, prefix_cmp-exact, prefix_cmp-total, word_bits-low_of}
use Rattle.exh_notice.specs.declared.entry.Entry.{Entry}
use Rattle.exh_table.specs.SetLemmas.{none_below}
use Rattle.exh_table.specs.Table.{TableMap}
use Rattle.exh_table.specs.TableLemmas.{same_from_tie}
use Rattle.exh_format.specs.TableImage.{AreRising, prefixes_of}
use Rattle.exh_format.specs.declared.file_entry.FileEntry.{FileEntry}
use Rattle.exh_format.specs.LegalFile.{naming, told_of}
use Rattle.exh_versions.specs.OrderLemmas.{is_less}
use Rattle.exh_versions.specs.PlainFile.{entries_of_table, file_entry}

-- those of tables whose wards are numbered from one on
abbrev pub items_from : ℕ → List TableMap → List FileEntry
items_from base tables = flat_map entries_of_table (enumerate_from base tables)

-- ---- those that name a ward

abbrev pub told_by : List FileEntry → ℕ → List (List Bool × Entry)
told_by items ward = map told_of (naming items ward)

-- the entries behind one, with it or without it
abbrev with_one : FileEntry → List FileEntry → ℕ → Bool → List (List Bool × Entry)
with_one item items ward named = map told_of (cond named (item ∷ naming items ward) (naming items ward))

own_told : (ward : ℕ) (told : List (List Bool × Entry)) → told_by (map (file_entry ward) told) ward ≡ told
own_told ward [] = refl
own_told ward (one ∷ told) = elim (eqb_tells ward ward) [
  | inl same ↦ ap (with_one (file_entry ward one) (map (file_entry ward) told) ward) same.0 ∙ ap (λ (l : List (List Bool × Entry)). one ∷ l) (own_told ward told)
  | inr other ↦ absurd (other.1 refl)
]

none_told : (ward other : ℕ) (told : List (List Bool × Entry)) → (ward ≡ other → ⊥) → told_by (map (file_entry ward) told) other ≡ []
none_told ward other [] differ = refl
none_told ward other (one ∷ told) differ = elim (eqb_tells ward other) [
  | inl same ↦ absurd (differ same.1)
  | inr apart ↦ ap (with_one (file_entry ward one) (map (file_entry ward) told) other) apart.0 ∙ none_told ward other told differ
]

told_joins : (front back : List FileEntry) (ward : ℕ) → told_by (front ++ back) ward ≡ told_by front ward ++ told_by back ward
told_joins front back ward = ap (map told_of) (filter-append (λ (item : FileEntry). eqb item.ward ward) front back) ∙ map-append told_of (naming front ward) (naming back ward)

-- of a number that no ward has there are none
pub none_in : (base : ℕ) (tables : List TableMap) (number : ℕ) → (number < base) ⊎ (base + length tables ≤ number) → told_by (items_from base tables) number ≡ []
none_in base [] number none = refl
none_in base (table ∷ tables) number none =
    let differ : base ≡ number → ⊥ = elim none [ inl below ↦ λ (same : base ≡ number). omega arith | inr past ↦ λ (same : base ≡ number). omega arith ] in
    let rest : (number < base + 1) ⊎ (base + 1 + length tables ≤ number) = elim none [ inl below ↦ inl (omega arith) | inr past ↦ inr (omega arith) ] in
    told_joins (entries_of_table (base, table)) (items_from (base + 1) tables) number
    ∙ ap (λ (l : List (List Bool × Entry)). l ++ told_by (items_from (base + 1) tables) number) (none_told base number (entries table) differ)
    ∙ none_in (base + 1) tables number rest

-- of a number that one ward has they are that ward's
pub own_in : (base : ℕ) (tables : List TableMap) (at : ℕ) (table : TableMap) → slice_get tables at ≡ Some table → told_by (items_from base tables) (base + at) ≡ entries table
own_in base [] at table is = cc
own_in base (first ∷ tables) zero table is =
    let same : first ≡ table = cc in
    let here : base + 0 ≡ base = omega arith in
    let past : (base < base + 1) ⊎ (base + 1 + length tables ≤ base) = inl (omega arith) in
    ap (told_by (items_from base (first ∷ tables))) here
    ∙ told_joins (entries_of_table (base, first)) (items_from (base + 1) tables) base
    ∙ ap (λ (l : List (List Bool × Entry)). told_by (entries_of_table (base, first)) base ++ l) (none_in (base + 1) tables base past)
    ∙ append-nil (told_by (entries_of_table (base, first)) base)
    ∙ own_told base (entries first)
    ∙ ap (λ (table : TableMap). entries table) same
own_in base (first ∷ tables) (suc at) table is =
    let next : base + suc at ≡ base + 1 + at = omega arith in
    let differ : base ≡ base + 1 + at → ⊥ = λ (same : base ≡ base + 1 + at). omega arith in
    ap (told_by (items_from base (first ∷ tables))) next
    ∙ told_joins (entries_of_table (base, first)) (items_from (base + 1) tables) (base + 1 + at)
    ∙ ap (λ (l : List (List Bool × Entry)). l ++ told_by (items_from (base + 1) tables) (base + 1 + at)) (none_told base (base + 1 + at) (entries first) differ)
    ∙ own_in (base + 1) tables at table is

-- a table is that of its entries
pub own_table : (table : TableMap) → from_entries {R = prefix_cmp} (entries table) ≡ table
own_table table = same_map prefix_cmp-total prefix_cmp-exact _ _ (λ prefix. get-from_entries prefix_cmp-total (entries table) prefix ∙ sym (get-entries table prefix))

-- ---- what holds of each entry

module _ (P : List Bool × Entry → Type 0) where
  all_found : (es : List (List Bool × Entry)) → T (is_sorted prefix_cmp es) → ((prefix : List Bool) (entry : Entry) → find prefix_cmp prefix es ≡ Some entry → P (prefix, entry)) → AllByRecursion P es
  all_found [] sorted holds = tt
  all_found (item ∷ es) sorted holds = (
    holds item.0 item.1 (ap (λ b. cond b (Some item.1) (find prefix_cmp item.0 es)) (ap is_eq (tied_itself prefix_cmp-total item.0))),
    all_found es (second_part _ _ sorted) (λ prefix entry is. elim (eq_by_cmp prefix_cmp prefix item.0) as (λ here. eq_by_cmp prefix_cmp prefix item.0 ≡ here → P (prefix, entry)) [
      | true ↦ λ here.
          let none : find prefix_cmp prefix es ≡ None = ap (λ p. find prefix_cmp p es) (same_from_tie prefix item.0 here) ∙ none_below item.0 es (first_part _ _ sorted) in
          let clash : None ≡ Some entry = sym none ∙ is in
          cc
      | false ↦ λ here. holds prefix entry (ap (λ b. cond b (Some item.1) (find prefix_cmp prefix es)) here ∙ is)
    ] refl),
  )

  pub each_entry : (table : TableMap) → ((prefix : List Bool) (entry : Entry) → get table prefix ≡ Some entry → P (prefix, entry)) → AllByRecursion P (entries table)
  each_entry table holds = all_found (entries table) (entries_sorted table) (λ prefix entry is. holds prefix entry (get-entries table prefix ∙ is))

all_named : (P : FileEntry → Type 0) (ward : ℕ) (told : List (List Bool × Entry)) → AllByRecursion (λ (one : List Bool × Entry). P (file_entry ward one)) told → AllByRecursion P (map (file_entry ward) told)
all_named P ward [] all = tt
all_named P ward (one ∷ told) all = (all.0, all_named P ward told all.1)

pub all_of_table : (P : FileEntry → Type 0) (ward : ℕ) (table : TableMap) → ((prefix : List Bool) (entry : Entry) → get table prefix ≡ Some entry → P (file_entry ward (prefix, entry))) → AllByRecursion P (entries_of_table (ward, table))
all_of_table P ward table holds = all_named P ward (entries table) (each_entry (λ (one : List Bool × Entry). P (file_entry ward one)) table holds)

pub all_in : (P : FileEntry → Type 0) (base : ℕ) (tables : List TableMap) → ((at : ℕ) (table : TableMap) → slice_get tables at ≡ Some table → AllByRecursion P (entries_of_table (base + at, table))) → AllByRecursion P (items_from base tables)
all_in P base [] each = tt
all_in P base (table ∷ tables) each =
    let here : base + 0 ≡ base = omega arith in
    AllByRecursion-append P (entries_of_table (base, table)) (items_from (base + 1) tables)
    (subst (λ (ward : ℕ). AllByRecursion P (entries_of_table (ward, table))) here (each 0 table refl))
    (all_in P (base + 1) tables (λ at other is. let next : base + suc at ≡ base + 1 + at = omega arith in subst (λ (ward : ℕ). AllByRecursion P (entries_of_table (ward, other))) next (each (suc at) other is)))

-- ---- how many there are

pub entries_count : (base : ℕ) (tables : List TableMap) → length (items_from base tables) ≡ sum_by (λ table. length (entries table)) tables
entries_count base [] = refl
entries_count base (table ∷ tables) =
    omega (arith, length-append (entries_of_table (base, table)) (items_from (base + 1) tables), length-map (entries table) (file_entry base), entries_count (base + 1) tables, sum_by-cons (λ (table : TableMap). length (entries table)) table tables)

-- ---- their prefixes rise

all_above : (ward : ℕ) (prefix : List Bool) (told : List (List Bool × Entry)) → T (below_all prefix_cmp prefix told) → AllByRecursion (λ (next : List Bool). prefix_cmp prefix next ≡ Less) (prefixes_of (map (file_entry ward) told))
all_above ward prefix [] below = tt
all_above ward prefix (one ∷ told) below = (is_less (prefix_cmp prefix one.0) (first_part _ _ below), all_above ward prefix told (second_part _ _ below))

own_rise : (ward : ℕ) (told : List (List Bool × Entry)) → T (is_sorted prefix_cmp told) → AreRising (prefixes_of (map (file_entry ward) told))
own_rise ward [] sorted = tt
own_rise ward (one ∷ told) sorted = (all_above ward one.0 told (first_part _ _ sorted), own_rise ward told (second_part _ _ sorted))

of_prefixes : (P : List Bool → Type 0) (items : List FileEntry) → AllByRecursion (λ (item : FileEntry). P item.prefix) items → AllByRecursion P (prefixes_of items)
of_prefixes P [] all = tt
of_prefixes P (item ∷ items) all = (all.0, of_prefixes P items all.1)

abbrev ComesBefore : List FileEntry → FileEntry → Type 0
ComesBefore items one = AllByRecursion (λ (item : FileEntry). prefix_cmp one.prefix item.prefix ≡ Less) items

both_rise : (front back : List FileEntry) → AreRising (prefixes_of front) → AreRising (prefixes_of back) → AllByRecursion (ComesBefore back) front → AreRising (prefixes_of (front ++ back))
both_rise [] back one other across = other
both_rise (item ∷ front) back one other across =
    let later : List Bool → Type 0 = λ next. prefix_cmp item.prefix next ≡ Less in (
      subst (AllByRecursion later) (sym (map-append (λ (one : FileEntry). one.prefix) front back)) (AllByRecursion-append later (prefixes_of front) (prefixes_of back) one.0 (of_prefixes later back across.0)),
      both_rise front back one.1 other across.1,
    )

-- the low bounds of a ward's prefixes lie within its place of so many
pub IsPlaced : ℕ → ℕ → List Bool → Type 0
IsPlaced size number prefix = (number * size ≤ low_of prefix) × (low_of prefix < number * size + size)

apart : (size one other : ℕ) (prefix next : List Bool) → one < other → IsPlaced size one prefix → IsPlaced size other next → prefix_cmp prefix next ≡ Less
unfolding IsPlaced
apart size one other prefix next less here there =
    let far : suc one * size ≤ other * size = mul-le-mul_right {m = suc one} {n = other} size (omega (arith, less)) in
    let lower : low_of prefix < low_of next = omega (arith, far, here.1, there.0) in
    ap (λ (order : Ordering). ordering_then order (nat_cmp (length prefix) (length next))) (sym (nat_cmp_is (low_of prefix) (low_of next) Less lower))

abbrev LiesIn : ℕ → ℕ → FileEntry → Type 0
LiesIn size number item = IsPlaced size number item.prefix

pub all_rise : (size base : ℕ) (tables : List TableMap) → ((at : ℕ) (table : TableMap) → slice_get tables at ≡ Some table → AllByRecursion (LiesIn size (base + at)) (entries_of_table (base + at, table)))
    → AreRising (prefixes_of (items_from base tables))
all_rise size base [] each = tt
all_rise size base (table ∷ tables) each =
    let zero_more : base + 0 ≡ base = omega arith in
    let here : AllByRecursion (LiesIn size base) (entries_of_table (base, table)) = subst (λ (ward : ℕ). AllByRecursion (LiesIn size ward) (entries_of_table (ward, table))) zero_more (each 0 table refl) in
    let behind : (at : ℕ) (other : TableMap) → slice_get tables at ≡ Some other → AllByRecursion (LiesIn size (base + 1 + at)) (entries_of_table (base + 1 + at, other))
    = λ at other is. let next : base + suc at ≡ base + 1 + at = omega arith in subst (λ (ward : ℕ). AllByRecursion (LiesIn size ward) (entries_of_table (ward, other))) next (each (suc at) other is) in
    let later : AllByRecursion (ComesBefore (items_from (base + 1) tables)) (entries_of_table (base, table)) =
    AllByRecursion-weaker (LiesIn size base) (ComesBefore (items_from (base + 1) tables))
    (λ item lies. all_in (λ (next : FileEntry). prefix_cmp item.prefix next.prefix ≡ Less) (base + 1) tables (λ at other is.
    AllByRecursion-weaker (LiesIn size (base + 1 + at)) (λ (next : FileEntry). prefix_cmp item.prefix next.prefix ≡ Less)
    (λ next there. apart size base (base + 1 + at) item.prefix next.prefix (omega arith) lies there) (entries_of_table (base + 1 + at, other)) (behind at other is)))
    (entries_of_table (base, table)) here in
    both_rise (entries_of_table (base, table)) (items_from (base + 1) tables) (own_rise base (entries table) (entries_sorted table)) (all_rise size (base + 1) tables behind) later

-- a prefix with a ward's in front lies within the ward's place
pub placed : (bits number : ℕ) (prefix : List Bool) → bits ≤ 64 → number < 2 ^ bits → length prefix ≤ 64 → IsFront (ward_prefix bits number) prefix → IsPlaced (2 ^ (64 - bits)) number prefix
unfolding IsPlaced
placed bits number prefix few less short front =
    let own = ward_prefix bits number in
    let long : length own ≡ bits = length-bits_of bits number in
    let begun : IsFront own (word_bits (low_of prefix)) = subst (IsFront own) (sym (word_bits-low_of prefix short)) (front_of_longer own prefix (zeros (64 - length prefix)) front) in
    let within = begins_low own (low_of prefix) (omega (arith, long, few)) (low_of-word prefix short) begun in
    let low : low_of own ≡ number * 2 ^ (64 - bits) = low_of-number bits number less in
    let size : 2 ^ (64 - length own) ≡ 2 ^ (64 - bits) = ap (λ (n : ℕ). 2 ^ (64 - n)) long in
    (omega (arith, within.0, low), omega (arith, within.1, low, size))
