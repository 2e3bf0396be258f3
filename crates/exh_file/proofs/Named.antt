-- The entries of all wards, ward by ward.
use Rattle.std.proofs.Common.{◌≡◌, ℕ, zero, suc, ◌+◌, ◌-◌, ◌*◌, ◌^◌, ◌<◌, ◌≤◌, Bool, cond, eqb, T, append-nil, List, [], ◌∷◌, ◌++◌, length, map, slice_get, Some, inl, inr, refl, sym, ap, ◌∙◌, subst, arith}
use Rattle.std.specs.FinMap.{entries, entries_sorted, from_entries, get-entries, get-from_entries, same_map}
use Rattle.std.specs.FinMap.Entries.{below_all, is_sorted}
use Rattle.std.specs.Cmp.{nat_cmp_is}
use Rattle.std.specs.List.{AllByRecursion}
use Rattle.std.specs.Ordering.{nat_cmp, ordering_then}
use Rattle.std.specs.declared.cmp.Ordering.{Ordering}
use Rattle.std.specs.declared.cmp.Ordering.TheVariants.{Less}
use Rattle.std.proofs.Math.Nat.{mul-le-mul_right}
use Rattle.std.proofs.lemmas.Bool.Decides.{eqb_tells}
use Rattle.std.proofs.lemmas.List.{map-append}
use Rattle.std.proofs.lemmas.List.Elements.{filter-append}
use Rattle.exh_prefix.specs.BitLemmas.{length-bits_of}
use Rattle.exh_prefix.specs.Bits.{word_bits}
use Rattle.exh_prefix.specs.Leading.{ward_prefix}
use Rattle.exh_prefix.specs.LeadingLemmas.{low_of-number}
use Rattle.exh_prefix.specs.PrefixListLemmas.{AllByRecursion-append, AllByRecursion-weaker, first_part, second_part}
use Rattle.exh_prefix.specs.LowLemmas.{front_of_longer}
use Rattle.exh_prefix.specs.Prefix.{IsFront, low_of, prefix_cmp, zeros}
use Rattle.exh_prefix.specs.PrefixLemmas.{begins_low, low_of-word, prefix_cmp-exact, prefix_cmp-total, word_bits-low_of}
use Rattle.exh_keyer.specs.declared.any_keyer.AnyKeyer.{AnyKeyer}
use Rattle.exh_notice.specs.declared.entry.Entry.{Entry}
use Rattle.exh_table.specs.Table.{TableMap}
use Rattle.exh_format.specs.TableImage.{AreRising, prefixes_of}
use Rattle.exh_format.specs.declared.file_entry.FileEntry.{FileEntry}
use Rattle.exh_format.specs.LegalFile.{naming, told_of}
use Rattle.exh_legal.specs.OrderLemmas.{is_less}
use Rattle.exh_ward.specs.WardState.{WardState}
use Rattle.exh_file.specs.Saved.{entries_of_all, entries_of, file_entry}

-- ---- those that name a ward

abbrev pub told_by : List FileEntry → ℕ → List (List Bool × Entry)
told_by items ward = map told_of (naming items ward)

-- the entries behind one, with it or without it
abbrev pub with_one : FileEntry → List FileEntry → ℕ → Bool → List (List Bool × Entry)
with_one item items ward named = map told_of (cond named (item ∷ naming items ward) (naming items ward))

own_told : (ward : ℕ) (told : List (List Bool × Entry)) → told_by (map (file_entry ward) told) ward ≡ told
own_told ward [] = refl
own_told ward (one ∷ told) = elim (eqb_tells ward ward) [
  | inl same ↦ ap (with_one (file_entry ward one) (map (file_entry ward) told) ward) same.0 ∙ ap (λ (l : List (List Bool × Entry)). one ∷ l) (own_told ward told)
  | inr other ↦ absurd (other.1 refl)
]

none_told : (ward other : ℕ) (told : List (List Bool × Entry)) → (ward ≡ other → ⊥) → told_by (map (file_entry ward) told) other ≡ []
none_told ward other [] differ = refl
none_told ward other (one ∷ told) differ = elim (eqb_tells ward other) [
  | inl same ↦ absurd (differ same.1)
  | inr apart ↦ ap (with_one (file_entry ward one) (map (file_entry ward) told) other) apart.0 ∙ none_told ward other told differ
]

told_joins : (front back : List FileEntry) (ward : ℕ) → told_by (front ++ back) ward ≡ told_by front ward ++ told_by back ward
told_joins front back ward = ap (map told_of) (filter-append (λ (item : FileEntry). eqb item.ward ward) front back) ∙ map-append told_of (naming front ward) (naming back ward)

-- of a number that no ward has there are none
pub none_in : (wards : List (WardState AnyKeyer)) (number : ℕ) → ((at : ℕ) (ward : WardState AnyKeyer) → slice_get wards at ≡ Some ward → ward.number ≡ number → ⊥) → told_by (entries_of_all wards) number ≡ []
none_in [] number none = refl
none_in (ward ∷ wards) number none =
    told_joins (entries_of ward) (entries_of_all wards) number
    ∙ ap (λ (l : List (List Bool × Entry)). l ++ told_by (entries_of_all wards) number) (none_told ward.number number (entries ward.table) (none 0 ward refl))
    ∙ none_in wards number (λ at other is. none (suc at) other is)

-- of a number that one ward has they are that ward's
pub own_in : (wards : List (WardState AnyKeyer)) (number at : ℕ) (ward : WardState AnyKeyer) → slice_get wards at ≡ Some ward → ward.number ≡ number
    → ((place : ℕ) (other : WardState AnyKeyer) → slice_get wards place ≡ Some other → other.number ≡ number → place ≡ at) → told_by (entries_of_all wards) number ≡ entries ward.table
own_in [] number at ward is own one = cc
own_in (first ∷ wards) number zero ward is own one =
    let same : first ≡ ward = cc in
    told_joins (entries_of first) (entries_of_all wards) number
    ∙ ap (λ (l : List (List Bool × Entry)). told_by (entries_of first) number ++ l) (none_in wards number (λ at other there named. absurd (omega (arith, one (suc at) other there named))))
    ∙ append-nil (told_by (entries_of first) number)
    ∙ subst (λ (n : ℕ). told_by (entries_of first) n ≡ entries first.table) (ap (λ (w : WardState AnyKeyer). w.number) same ∙ own) (own_told first.number (entries first.table))
    ∙ ap (λ (w : WardState AnyKeyer). entries w.table) same
own_in (first ∷ wards) number (suc at) ward is own one =
    told_joins (entries_of first) (entries_of_all wards) number
    ∙ ap (λ (l : List (List Bool × Entry)). l ++ told_by (entries_of_all wards) number) (none_told first.number number (entries first.table) (λ named. absurd (omega (arith, one 0 first refl named))))
    ∙ own_in wards number at ward is own (λ place other there named. omega (arith, one (suc place) other there named))

-- a table is that of its entries
pub own_table : (table : TableMap) → from_entries {R = prefix_cmp} (entries table) ≡ table
own_table table = same_map prefix_cmp-total prefix_cmp-exact _ _ (λ prefix. get-from_entries prefix_cmp-total (entries table) prefix ∙ sym (get-entries table prefix))

-- ---- their prefixes rise

all_above : (ward : ℕ) (prefix : List Bool) (told : List (List Bool × Entry)) → T (below_all prefix_cmp prefix told) → AllByRecursion (λ (next : List Bool). prefix_cmp prefix next ≡ Less) (prefixes_of (map (file_entry ward) told))
all_above ward prefix [] below = tt
all_above ward prefix (one ∷ told) below = (is_less (prefix_cmp prefix one.0) (first_part _ _ below), all_above ward prefix told (second_part _ _ below))

own_rise : (ward : ℕ) (told : List (List Bool × Entry)) → T (is_sorted prefix_cmp told) → AreRising (prefixes_of (map (file_entry ward) told))
own_rise ward [] sorted = tt
own_rise ward (one ∷ told) sorted = (all_above ward one.0 told (first_part _ _ sorted), own_rise ward told (second_part _ _ sorted))

of_prefixes : (P : List Bool → Type 0) (items : List FileEntry) → AllByRecursion (λ (item : FileEntry). P item.prefix) items → AllByRecursion P (prefixes_of items)
of_prefixes P [] all = tt
of_prefixes P (item ∷ items) all = (all.0, of_prefixes P items all.1)

abbrev ComesBefore : List FileEntry → FileEntry → Type 0
ComesBefore items one = AllByRecursion (λ (item : FileEntry). prefix_cmp one.prefix item.prefix ≡ Less) items

both_rise : (front back : List FileEntry) → AreRising (prefixes_of front) → AreRising (prefixes_of back) → AllByRecursion (ComesBefore back) front → AreRising (prefixes_of (front ++ back))
both_rise [] back one other across = other
both_rise (item ∷ front) back one other across =
    let later : List Bool → Type 0 = λ next. prefix_cmp item.prefix next ≡ Less in (
      subst (AllByRecursion later) (sym (map-append (λ (one : FileEntry). one.prefix) front back)) (AllByRecursion-append later (prefixes_of front) (prefixes_of back) one.0 (of_prefixes later back across.0)),
      both_rise front back one.1 other across.1,
    )

pub all_in : (P : FileEntry → Type 0) (wards : List (WardState AnyKeyer)) → ((at : ℕ) (ward : WardState AnyKeyer) → slice_get wards at ≡ Some ward → AllByRecursion P (entries_of ward)) → AllByRecursion P (entries_of_all wards)
all_in P [] each = tt
all_in P (ward ∷ wards) each = AllByRecursion-append P (entries_of ward) (entries_of_all wards) (each 0 ward refl) (all_in P wards (λ at other is. each (suc at) other is))

-- the low bounds of a ward's prefixes lie within its place of so many
pub IsPlaced : ℕ → ℕ → List Bool → Type 0
IsPlaced size number prefix = (number * size ≤ low_of prefix) × (low_of prefix < number * size + size)

apart : (size one other : ℕ) (prefix next : List Bool) → one < other → IsPlaced size one prefix → IsPlaced size other next → prefix_cmp prefix next ≡ Less
unfolding IsPlaced
apart size one other prefix next less here there =
    let far : suc one * size ≤ other * size = mul-le-mul_right {m = suc one} {n = other} size (omega (arith, less)) in
    let lower : low_of prefix < low_of next = omega (arith, far, here.1, there.0) in
    ap (λ (order : Ordering). ordering_then order (nat_cmp (length prefix) (length next))) (sym (nat_cmp_is (low_of prefix) (low_of next) Less lower))

pub all_rise : (size base : ℕ) (wards : List (WardState AnyKeyer)) → ((at : ℕ) (ward : WardState AnyKeyer) → slice_get wards at ≡ Some ward → AllByRecursion (λ (item : FileEntry). IsPlaced size (base + at) item.prefix) (entries_of ward))
    → AreRising (prefixes_of (entries_of_all wards))
all_rise size base [] each = tt
all_rise size base (ward ∷ wards) each =
    let later : AllByRecursion (ComesBefore (entries_of_all wards)) (entries_of ward) =
    AllByRecursion-weaker (λ (item : FileEntry). IsPlaced size (base + 0) item.prefix) (ComesBefore (entries_of_all wards))
    (λ item here. all_in (λ (next : FileEntry). prefix_cmp item.prefix next.prefix ≡ Less) wards (λ at other is.
    AllByRecursion-weaker (λ (next : FileEntry). IsPlaced size (base + suc at) next.prefix) (λ (next : FileEntry). prefix_cmp item.prefix next.prefix ≡ Less)
    (λ next there. apart size (base + 0) (base + suc at) item.prefix next.prefix (omega arith) here there) (entries_of other) (each (suc at) other is)))
    (entries_of ward) (each 0 ward refl) in
    both_rise (entries_of ward) (entries_of_all wards) (own_rise ward.number (entries ward.table) (entries_sorted ward.table))
    (all_rise size (suc base) wards (λ at other is. subst (λ (n : ℕ). AllByRecursion (λ (item : FileEntry). IsPlaced size n item.prefix) (entries_of other)) (let same : base + suc at ≡ suc base + at = omega arith in same) (each (suc at) other is)))
    later

-- a prefix with a ward's in front lies within the ward's place
pub placed : (bits number : ℕ) (prefix : List Bool) → bits ≤ 64 → number < 2 ^ bits → length prefix ≤ 64 → IsFront (ward_prefix bits number) prefix → IsPlaced (2 ^ (64 - bits)) number prefix
unfolding IsPlaced
placed bits number prefix few less short front =
    let own = ward_prefix bits number in
    let long : length own ≡ bits = length-bits_of bits number in
    let begun : IsFront own (word_bits (low_of prefix)) = subst (IsFront own) (sym (word_bits-low_of prefix short)) (front_of_longer own prefix (zeros (64 - length prefix)) front) in
    let within = begins_low own (low_of prefix) (omega (arith, long, few)) (low_of-word prefix short) begun in
    let low : low_of own ≡ number * 2 ^ (64 - bits) = low_of-number bits number less in
    let size : 2 ^ (64 - length own) ≡ 2 ^ (64 - bits) = ap (λ (n : ℕ). 2 ^ (64 - n)) long in
    (omega (arith, within.0, low), omega (arith, within.1, low, size))
