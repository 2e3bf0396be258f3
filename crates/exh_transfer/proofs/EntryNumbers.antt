-- Each entry of a legal file of version 1 or 2 has a number from 1 on.
use Rattle.std.proofs.Common.{◌≡◌, ℕ, ◌+◌, ◌<◌, ◌≤◌, Bool, true, false, cond, eqb, List, [], ◌∷◌, ◌++◌, length, map, get_or, slice_get, Option, None, Some, inl, inr, refl, sym, ap, ◌∙◌, subst, arith}
use Rattle.std.specs.FinMap.{empty, get, get-empty, get-from_entries}
use Rattle.std.specs.FinMap.Entries.{find}
use Rattle.std.specs.List.{AllByRecursion}
use Rattle.std.specs.Ordering.{eq_by_cmp, is_eq, ordering_reverse}
use Rattle.std.specs.declared.cmp.Ordering.TheVariants.{Less}
use Rattle.std.proofs.lemmas.Bool.{cases_lt}
use Rattle.std.proofs.lemmas.Bool.Decides.{eqb_tells}
use Rattle.std.proofs.lemmas.Cmp.{tied_itself}
use Rattle.exh_prefix.specs.Prefix.{prefix_cmp}
use Rattle.exh_prefix.specs.PrefixLemmas.{prefix_cmp-total}
use Rattle.exh_prefix.specs.PrefixListLemmas.{within_there}
use Rattle.exh_keyer.specs.Pseudokey.{any_pseudokey}
use Rattle.exh_notice.specs.declared.entry.Entry.{Entry}
use Rattle.exh_table.specs.Table.{TableMap}
use Rattle.exh_legal.specs.ReasonLaws.{IsLegalFile}
use Rattle.exh_format.specs.LegalFile.{naming, parts_in, table_naming, tables_of, told_of}
use Rattle.exh_format.specs.LegalFileLemmas.{table_naming_at}
use Rattle.exh_format.specs.PageFile.{PageFile}
use Rattle.exh_format.specs.RisingLemmas.{all_before}
use Rattle.exh_format.specs.TableImage.{AreRising, prefixes_of}
use Rattle.exh_format.specs.declared.file_entry.FileEntry.{FileEntry}

-- what holds of each element that stands between others holds of all
each_between : {X : Type 0} (P : X → Type 0) (xs : List X) → ((front : List X) (x : X) (back : List X) → xs ≡ front ++ x ∷ back → P x) → AllByRecursion P xs
each_between P [] holds = tt
each_between {X} P (x ∷ xs) holds = (holds [] x xs refl, each_between P xs (λ front y back is. holds (x ∷ front) y back (ap (λ (rest : List X). x ∷ rest) is)))

-- ---- an entry is what its ward's table has at its prefix

-- the entries behind one, with it or without it
abbrev with_one : FileEntry → List FileEntry → ℕ → Bool → List (List Bool × Entry)
with_one item items ward named = map told_of (cond named (item ∷ naming items ward) (naming items ward))

not_tied : (prefix next : List Bool) → prefix_cmp prefix next ≡ Less → eq_by_cmp prefix_cmp next prefix ≡ false
not_tied prefix next less = ap is_eq (prefix_cmp-total.antisymm next prefix ∙ ap ordering_reverse less)

found_behind : (front : List FileEntry) (item : FileEntry) (back : List FileEntry) → AllByRecursion (λ one. prefix_cmp one.prefix item.prefix ≡ Less) front
    → find prefix_cmp item.prefix (map told_of (naming (front ++ item ∷ back) item.ward)) ≡ Some item.entry
found_behind [] item back all =
    let rest = find prefix_cmp item.prefix (map told_of (naming back item.ward)) in
    elim (eqb_tells item.ward item.ward) [
      | inl same ↦ ap (λ (named : Bool). find prefix_cmp item.prefix (with_one item back item.ward named)) same.0 ∙ ap (λ (tied : Bool). cond tied (Some item.entry) rest) (ap is_eq (tied_itself prefix_cmp-total item.prefix))
      | inr other ↦ absurd (other.1 refl)
    ]
found_behind (one ∷ front) item back all =
    let items = front ++ item ∷ back in
    let found = found_behind front item back all.1 in
    let rest = find prefix_cmp item.prefix (map told_of (naming items item.ward)) in
    elim (eqb_tells one.ward item.ward) [
      | inl same ↦ ap (λ (named : Bool). find prefix_cmp item.prefix (with_one one items item.ward named)) same.0
          ∙ ap (λ (tied : Bool). cond tied (Some one.entry) rest) (not_tied one.prefix item.prefix all.0) ∙ found
      | inr other ↦ ap (λ (named : Bool). find prefix_cmp item.prefix (with_one one items item.ward named)) other.0 ∙ found
    ]

own_entry : (entries front : List FileEntry) (item : FileEntry) (back : List FileEntry) → AreRising (prefixes_of entries) → entries ≡ front ++ item ∷ back → get (table_naming entries item.ward) item.prefix ≡ Some item.entry
own_entry entries front item back rising whole =
    let before = all_before front item back (subst (λ (items : List FileEntry). AreRising (prefixes_of items)) whole rising) in
    get-from_entries prefix_cmp-total (map told_of (naming entries item.ward)) item.prefix
    ∙ ap (λ (items : List FileEntry). find prefix_cmp item.prefix (map told_of (naming items item.ward))) whole ∙ found_behind front item back before

-- ---- its number

-- of the wards that an entry may name
abbrev pub IsNumbered : FileEntry → Type 0
IsNumbered item = item.ward < 256 → 1 ≤ item.entry.number

pub all_numbered : (file : PageFile) → AreRising (prefixes_of file.entries) → IsLegalFile (any_pseudokey file.header.settings.keyer) (parts_in file) → AllByRecursion IsNumbered file.entries
all_numbered file rising legal = each_between IsNumbered file.entries (λ front item back whole few.
    let own = own_entry file.entries front item back rising whole in
    let table = get_or (tables_of file.entries) item.ward empty in
    let there : get table item.prefix ≡ Some item.entry = ap (λ (table : TableMap). get table item.prefix) (table_naming_at file.entries item.ward few) ∙ own in
    elim (cases_lt item.ward (length file.wards)) [
      | inl within ↦ (let pages = within_there file.wards item.ward within in ((legal.wards item.ward pages.0 pages.1).fits.entries item.prefix item.entry there).some)
      | inr past ↦
          (let none : Some item.entry ≡ None = sym there ∙ ap (λ (table : TableMap). get table item.prefix) (legal.strays item.ward past) ∙ get-empty prefix_cmp item.prefix in
          absurd (cc))
    ])
