-- What blocks tell of a prefix is what the table has there, where their entries stand in a table whose prefixes rise.
use Rattle.std.proofs.Common.{◌≡◌, ◌⊎◌, ℕ, zero, suc, ◌+◌, ◌≤◌, nat_eq, nat_lt, Bool, true, false, cond, List, [], ◌∷◌, length, map, Option, None, Some, slice_get, inl, inr, refl, sym, ap, ◌∙◌, subst, arith}
use Rattle.std.specs.FinMap.{get-from_entries}
use Rattle.std.specs.FinMap.Entries.{find}
use Rattle.std.specs.List.{AllByRecursion}
use Rattle.std.specs.Ordering.{eq_by_cmp, is_eq, ordering_reverse}
use Rattle.std.specs.declared.cmp.Ordering.TheVariants.{Less, Greater}
use Rattle.std.proofs.lemmas.Bool.{le-ltb}
use Rattle.exh_prefix.specs.Leading.{ward_of}
use Rattle.exh_prefix.specs.Prefix.{prefix_cmp}
use Rattle.exh_prefix.specs.PrefixLemmas.{prefix_cmp-total}
use Rattle.std.proofs.lemmas.Cmp.{tied_itself}
use Rattle.exh_prefix.specs.declared.prefix.TheConstants.{LIMIT}
use Rattle.exh_format.specs.declared.Leaf.{Leaf}
use Rattle.exh_format.specs.Table.{TableMap}
use Rattle.exh_format.specs.TableWalk.{right_of, right_of_kind, split_at, walk_of}
use Rattle.exh_format.specs.WalkLemmas.{IsOnWalk, on_walk_end, on_walk_step}
use Rattle.exh_format.specs.declared.file_entry.FileEntry.{FileEntry}
use Rattle.exh_format.specs.declared.header.Header.{Header}
use Rattle.exh_format.specs.LegalFile.{naming, table_naming, told_of}
use Rattle.exh_format.specs.RisingLemmas.{all_after}
use Rattle.exh_format.specs.TableImage.{AreRising, prefixes_of}
use Rattle.exh_direct.specs.declared.table_block.TableBlock.{TableBlock}
use Rattle.exh_direct.specs.TableSearch.{BeginsBehind, EndsBefore, HasComeTo, IsEntryAt, Tells, TellsRight, WalkEnds, right_told}
use Rattle.exh_direct.specs.OnWayLemmas.{first_on_way}

-- ---- prefixes that differ

abbrev Untied : List Bool → FileEntry → Type 0
Untied prefix item = eq_by_cmp prefix_cmp prefix item.prefix ≡ false

before_untied : (prefix other : List Bool) → prefix_cmp other prefix ≡ Less → eq_by_cmp prefix_cmp prefix other ≡ false
before_untied prefix other less = ap is_eq (prefix_cmp-total.antisymm prefix other ∙ ap ordering_reverse less)

behind_less : (prefix other : List Bool) → prefix_cmp other prefix ≡ Greater → prefix_cmp prefix other ≡ Less
behind_less prefix other more = prefix_cmp-total.antisymm prefix other ∙ ap ordering_reverse more

all_untied : (prefix : List Bool) (entries : List FileEntry) → AllByRecursion (λ (other : List Bool). prefix_cmp prefix other ≡ Less) (prefixes_of entries) → AllByRecursion (Untied prefix) entries
all_untied prefix [] all = tt
all_untied prefix (item ∷ entries) all = (ap is_eq all.0, all_untied prefix entries all.1)

prefix_at : (P : List Bool → Type 0) (entries : List FileEntry) (place : ℕ) (item : FileEntry) → AllByRecursion P (prefixes_of entries) → slice_get entries place ≡ Some item → P item.prefix
prefix_at P [] place item all is = cc
prefix_at P (one ∷ entries) zero item all is = let same : one ≡ item = cc in subst (λ (item : FileEntry). P item.prefix) same all.0
prefix_at P (one ∷ entries) (suc place) item all is = prefix_at P entries place item all.1 is

-- what comes before an entry comes before what that comes before
front_less : (prefix : List Bool) (one : FileEntry) (entries : List FileEntry) (place : ℕ) (item : FileEntry) → AreRising (prefixes_of (one ∷ entries)) → slice_get (one ∷ entries) place ≡ Some item → prefix_cmp item.prefix prefix ≡ Less → prefix_cmp one.prefix prefix ≡ Less
front_less prefix one entries zero item rising is less = let same : item ≡ one = cc in subst (λ (item : FileEntry). prefix_cmp item.prefix prefix ≡ Less) same less
front_less prefix one entries (suc place) item rising is less =
    prefix_cmp-total.trans one.prefix item.prefix prefix (prefix_at (λ (other : List Bool). prefix_cmp one.prefix other ≡ Less) entries place item rising.0 is) less

-- ---- what a table has at a prefix

module _ (ward : ℕ) where
  absent : (prefix : List Bool) (entries : List FileEntry) → AllByRecursion (Untied prefix) entries → find prefix_cmp prefix (map told_of (naming entries ward)) ≡ None
  absent prefix [] all = refl
  absent prefix (item ∷ entries) all =
      elim (nat_eq item.ward ward) as (λ (named : Bool). find prefix_cmp prefix (map told_of (cond named (item ∷ naming entries ward) (naming entries ward))) ≡ None) [
        | true ↦ ap (λ (b : Bool). cond b (Some item.entry) (find prefix_cmp prefix (map told_of (naming entries ward)))) all.0 ∙ absent prefix entries all.1
        | false ↦ absent prefix entries all.1
      ]

  found : (entries : List FileEntry) (place : ℕ) (item : FileEntry) → AreRising (prefixes_of entries) → slice_get entries place ≡ Some item
      → find prefix_cmp item.prefix (map told_of (naming entries ward)) ≡ cond (nat_eq item.ward ward) (Some item.entry) None
  found [] place item rising is = cc
  found (one ∷ entries) zero item rising is =
      let same : one ≡ item = cc in
      let later = absent one.prefix entries (all_untied one.prefix entries rising.0) in
      let here : eq_by_cmp prefix_cmp one.prefix one.prefix ≡ true = ap is_eq (tied_itself prefix_cmp-total one.prefix) in
      subst (λ (item : FileEntry). find prefix_cmp item.prefix (map told_of (naming (one ∷ entries) ward)) ≡ cond (nat_eq item.ward ward) (Some item.entry) None) same
      (elim (nat_eq one.ward ward) as (λ (named : Bool). find prefix_cmp one.prefix (map told_of (cond named (one ∷ naming entries ward) (naming entries ward))) ≡ cond named (Some one.entry) None) [
        | true ↦ ap (λ (b : Bool). cond b (Some one.entry) (find prefix_cmp one.prefix (map told_of (naming entries ward)))) here
        | false ↦ later
      ])
  found (one ∷ entries) (suc place) item rising is =
      let more = found entries place item rising.1 is in
      let less : prefix_cmp one.prefix item.prefix ≡ Less = prefix_at (λ (other : List Bool). prefix_cmp one.prefix other ≡ Less) entries place item rising.0 is in
      elim (nat_eq one.ward ward) as (λ (named : Bool). find prefix_cmp item.prefix (map told_of (cond named (one ∷ naming entries ward) (naming entries ward))) ≡ cond (nat_eq item.ward ward) (Some item.entry) None) [
        | true ↦ ap (λ (b : Bool). cond b (Some one.entry) (find prefix_cmp item.prefix (map told_of (naming entries ward)))) (before_untied item.prefix one.prefix less) ∙ more
        | false ↦ more
      ]

-- ---- a prefix between two neighbours

abbrev LastBefore : List FileEntry → List Bool → ℕ → Type 0
LastBefore entries prefix place = (place ≡ 0) ⊎ ((last : ℕ) × (item : FileEntry) × (place ≡ last + 1) × (slice_get entries last ≡ Some item) × (prefix_cmp item.prefix prefix ≡ Less))

abbrev FirstBehind : List FileEntry → List Bool → ℕ → Type 0
FirstBehind entries prefix place = (place ≡ length entries) ⊎ ((item : FileEntry) × (slice_get entries place ≡ Some item) × (prefix_cmp item.prefix prefix ≡ Greater))

last_of_rest : (one : FileEntry) (entries : List FileEntry) (prefix : List Bool) (place : ℕ) → LastBefore (one ∷ entries) prefix (suc place) → LastBefore entries prefix place
last_of_rest one entries prefix place (inl none) = absurd (omega (arith, none))
last_of_rest one entries prefix place (inr (zero, item, is, there, less)) = inl (omega (arith, is))
last_of_rest one entries prefix place (inr (suc last, item, is, there, less)) = inr (last, item, omega (arith, is), there, less)

first_of_rest : (one : FileEntry) (entries : List FileEntry) (prefix : List Bool) (place : ℕ) → FirstBehind (one ∷ entries) prefix (suc place) → FirstBehind entries prefix place
first_of_rest one entries prefix place (inl all) = inl (omega (arith, all))
first_of_rest one entries prefix place (inr (item, there, behind)) = inr (item, there, behind)

one_before : (one : FileEntry) (entries : List FileEntry) (prefix : List Bool) (place : ℕ) → AreRising (prefixes_of (one ∷ entries)) → LastBefore (one ∷ entries) prefix (suc place) → prefix_cmp one.prefix prefix ≡ Less
one_before one entries prefix place rising (inl none) = absurd (omega (arith, none))
one_before one entries prefix place rising (inr (last, item, is, there, less)) = front_less prefix one entries last item rising there less

none_between : (prefix : List Bool) (entries : List FileEntry) (place : ℕ) → AreRising (prefixes_of entries) → LastBefore entries prefix place → FirstBehind entries prefix place → AllByRecursion (Untied prefix) entries
none_between prefix [] place rising before behind = tt
none_between prefix (one ∷ entries) zero rising before (inl all) = absurd (omega (arith, all))
none_between prefix (one ∷ entries) zero rising before (inr (item, there, greater)) =
    let same : item ≡ one = cc in
    let less : prefix_cmp prefix one.prefix ≡ Less = subst (λ (item : FileEntry). prefix_cmp prefix item.prefix ≡ Less) same (behind_less prefix item.prefix greater) in
    all_untied prefix (one ∷ entries) (less, all_after prefix one.prefix (prefixes_of entries) less rising.0)
none_between prefix (one ∷ entries) (suc place) rising before behind = (
  before_untied prefix one.prefix (one_before one entries prefix place rising before),
  none_between prefix entries place rising.1 (last_of_rest one entries prefix place before) (first_of_rest one entries prefix place behind),
)

-- ---- blocks whose entries are those of a table

module _ (blocks : List TableBlock) (header : Header) (entries : List FileEntry) (rising : AreRising (prefixes_of entries)) (all : length entries ≡ header.entry_count)
    (stands : (place : ℕ) (item : FileEntry) → IsEntryAt blocks place item → slice_get entries place ≡ Some item) (pseudokey : ℕ) where
  abbrev bits : ℕ
  bits = header.settings.ward_bits

  abbrev ward : ℕ
  ward = ward_of bits pseudokey

  abbrev table : TableMap
  table = table_naming entries ward

  last_before : (prefix : List Bool) (place : ℕ) → EndsBefore blocks place prefix → LastBefore entries prefix place
  last_before prefix place (inl none) = inl none
  last_before prefix place (inr (last, item, is, there, less)) = inr (last, item, is, stands last item there, less)

  first_behind : (prefix : List Bool) (place : ℕ) → BeginsBehind blocks header.entry_count place prefix → FirstBehind entries prefix place
  first_behind prefix place (inl none) = inl (none ∙ sym all)
  first_behind prefix place (inr (item, there, greater)) = inr (item, stands place item there, greater)

  right_of_named : (item : FileEntry) (named : Bool) → right_of (cond named (Some item.entry) None) ≡ cond named (right_of_kind item.entry.kind) None
  right_of_named item true = refl
  right_of_named item false = refl

  told_is : (prefix : List Bool) (told : Option FileEntry) → Tells blocks header.entry_count prefix told → split_at table prefix ≡ right_told ward told
  told_is prefix None (place, before, behind) =
      ap right_of (get-from_entries prefix_cmp-total (map told_of (naming entries ward)) prefix ∙ absent ward prefix entries (none_between prefix entries place rising (last_before prefix place before) (first_behind prefix place behind)))
  told_is prefix (Some item) (place, there, is) =
      ap (split_at table) (sym is)
      ∙ ap right_of (get-from_entries prefix_cmp-total (map told_of (naming entries ward)) item.prefix ∙ found ward entries place item rising (stands place item there))
      ∙ right_of_named item (nat_eq item.ward ward)

  right_is : (prefix : List Bool) (right : Option ℕ) → TellsRight blocks header pseudokey prefix right → split_at table prefix ≡ right
  right_is prefix right (told, tells, is) = told_is prefix told tells ∙ is

  module _ (few : bits ≤ LIMIT) where
    has_come : (splits : ℕ) (leaf : Leaf) → HasComeTo blocks header pseudokey splits leaf → IsOnWalk (split_at table) pseudokey (walk_of table bits pseudokey) leaf
    has_come zero leaf is =
        let on = first_on_way bits pseudokey few in
        subst (IsOnWalk (split_at table) pseudokey (walk_of table bits pseudokey)) (sym is) (record { begins = on.begins; within = on.short; goes = refl })
    has_come (suc splits) leaf (last, come, short, right, tells, is) =
        subst (IsOnWalk (split_at table) pseudokey (walk_of table bits pseudokey)) (sym is)
        (on_walk_step (split_at table) pseudokey (walk_of table bits pseudokey) last right (has_come splits last come) short (right_is last.prefix (Some right) tells))

    stops : (prefix : List Bool) → (LIMIT ≤ length prefix) ⊎ TellsRight blocks header pseudokey prefix None → cond (nat_lt (length prefix) LIMIT) (split_at table prefix) None ≡ None
    stops prefix (inl long) = ap (λ (b : Bool). cond b (split_at table prefix) None) (le-ltb (length prefix) LIMIT long)
    stops prefix (inr tells) =
        elim (nat_lt (length prefix) LIMIT) as (λ (b : Bool). cond b (split_at table prefix) None ≡ None) [
          | true ↦ right_is prefix None tells
          | false ↦ refl
        ]

    -- the walk over what they tell ends where that of the table does
    pub walk_is : (leaf : Leaf) → WalkEnds blocks header pseudokey leaf → leaf ≡ walk_of table bits pseudokey
    walk_is leaf ends = on_walk_end (split_at table) pseudokey (walk_of table bits pseudokey) leaf (has_come ends.splits leaf ends.come) (stops leaf.prefix ends.ends)
