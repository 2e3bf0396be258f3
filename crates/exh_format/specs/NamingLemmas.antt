-- The table that entries name a ward's own, where one is taken behind others of lesser prefixes.
use Rattle.std.proofs.Common.{◌≡◌, ℕ, Bool, true, false, cond, nat_eq, List, [], ◌∷◌, ◌++◌, map, Option, None, Some, refl, sym, ap, ◌∙◌, append-nil}
use Rattle.std.specs.FinMap.{from_entries, from_entries_push, get, get-from_entries, insert}
use Rattle.std.specs.FinMap.Entries.{find}
use Rattle.std.specs.List.{AllByRecursion}
use Rattle.std.specs.Ordering.{eq_by_cmp, is_eq, ordering_reverse}
use Rattle.std.specs.declared.cmp.Ordering.TheVariants.{Less}
use Rattle.std.proofs.lemmas.List.{map-append}
use Rattle.std.proofs.lemmas.List.Elements.{filter-append}
use Rattle.exh_prefix.specs.Prefix.{prefix_cmp}
use Rattle.exh_prefix.specs.PrefixLemmas.{prefix_cmp-exact, prefix_cmp-total}
use Rattle.exh_legal.specs.declared.Entry.{Entry}
use Rattle.exh_legal.specs.Table.{greater_of, raised}
use Rattle.exh_format.specs.declared.file_entry.FileEntry.{FileEntry}
use Rattle.exh_format.specs.LegalFile.{naming, table_naming, told_of}

-- ---- an entry behind others of lesser prefixes

-- a greater prefix isn't found
not_tied : (prefix next : List Bool) → prefix_cmp prefix next ≡ Less → eq_by_cmp prefix_cmp next prefix ≡ false
not_tied prefix next less = ap is_eq (prefix_cmp-total.antisymm next prefix ∙ ap ordering_reverse less)

absent : (entries : List FileEntry) (ward : ℕ) (prefix : List Bool) → AllByRecursion (λ item. prefix_cmp item.prefix prefix ≡ Less) entries → find prefix_cmp prefix (map told_of (naming entries ward)) ≡ None
absent [] ward prefix all = refl
absent (item ∷ entries) ward prefix all =
    elim (nat_eq item.ward ward) as (λ (named : Bool). find prefix_cmp prefix (map told_of (cond named (item ∷ naming entries ward) (naming entries ward))) ≡ None) [
      | true ↦ ap (λ (b : Bool). cond b (Some item.entry) (find prefix_cmp prefix (map told_of (naming entries ward)))) (not_tied item.prefix prefix all.0) ∙ absent entries ward prefix all.1
      | false ↦ absent entries ward prefix all.1
    ]

pub none_named : (entries : List FileEntry) (ward : ℕ) (prefix : List Bool) → AllByRecursion (λ item. prefix_cmp item.prefix prefix ≡ Less) entries → get (table_naming entries ward) prefix ≡ None
none_named entries ward prefix all = get-from_entries prefix_cmp-total (map told_of (naming entries ward)) prefix ∙ absent entries ward prefix all

-- ---- the table with one entry more

module _ (front : List FileEntry) (item : FileEntry) (before : AllByRecursion (λ (one : FileEntry). prefix_cmp one.prefix item.prefix ≡ Less) front) where
  pub none_there : (ward : ℕ) → get (table_naming front ward) item.prefix ≡ None
  none_there ward = none_named front ward item.prefix before

  raised_there : (ward : ℕ) → raised (table_naming front ward) item.prefix item.entry ≡ insert (table_naming front ward) item.prefix item.entry
  raised_there ward = ap (λ (there : Option Entry). insert (table_naming front ward) item.prefix (greater_of there item.entry)) (none_there ward)

  pub named_more : (ward : ℕ) → table_naming (front ++ item ∷ []) ward ≡ cond (nat_eq item.ward ward) (raised (table_naming front ward) item.prefix item.entry) (table_naming front ward)
  named_more ward =
      ap (λ (items : List FileEntry). from_entries {R = prefix_cmp} (map told_of items)) (filter-append (λ (one : FileEntry). nat_eq one.ward ward) front (item ∷ []))
      ∙ elim (nat_eq item.ward ward) as (λ (named : Bool). from_entries {R = prefix_cmp} (map told_of (naming front ward ++ cond named (item ∷ []) [])) ≡ cond named (raised (table_naming front ward) item.prefix item.entry) (table_naming front ward)) [
        | true ↦ ap (from_entries {R = prefix_cmp}) (map-append told_of (naming front ward) (item ∷ []))
            ∙ from_entries_push prefix_cmp-total prefix_cmp-exact (map told_of (naming front ward)) item.prefix item.entry (absent front ward item.prefix before)
            ∙ sym (raised_there ward)
        | false ↦ ap (λ (items : List FileEntry). from_entries {R = prefix_cmp} (map told_of items)) (append-nil (naming front ward))
      ]
