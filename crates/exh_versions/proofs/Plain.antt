-- What a legal file of version 3 says is a legal file of the version that is written.
use Rattle.std.proofs.Common.{◌≡◌, ℕ, zero, suc, ◌+◌, ◌-◌, ◌^◌, ◌<◌, ◌≤◌, Bool, true, false, cond, nat_eq, List, [], ◌∷◌, length, map, filter, get_or, slice_get, take, Some, inl, inr, refl, sym, ap, ◌∙◌, subst, arith}
use Rattle.std.specs.FinMap.{empty, from_entries, get}
use Rattle.std.specs.List.{AllByRecursion, range_with_len}
use Rattle.std.proofs.lemmas.Bool.{cases_lt}
use Rattle.std.proofs.lemmas.List.{get_or-map, get_or-take, get_or_past, length-map, length-take}
use Rattle.std.proofs.lemmas.List.FromFn.{get_or-map-range_with_len, length-map-range_with_len}
use Rattle.std.proofs.lemmas.List.Sums.{length-filter}
use Rattle.std.proofs.lemmas.Option.{get_or_from_slice_get, slice_get_within}
use Rattle.exh_prefix.specs.Leading.{ward_of, ward_prefix}
use Rattle.exh_prefix.specs.Prefix.{prefix_cmp}
use Rattle.exh_prefix.specs.PrefixListLemmas.{AllByRecursion-append, AllByRecursion-filter}
use Rattle.exh_prefix.specs.declared.prefix.TheConstants.{LIMIT}
use Rattle.exh_prefix.specs.Version.{second_version}
use Rattle.exh_keyer.specs.Pseudokey.{any_pseudokey}
use Rattle.exh_notice.specs.declared.entry.Entry.{Entry}
use Rattle.exh_notice.specs.declared.entry.Kind.{Kind}
use Rattle.exh_notice.specs.declared.entry.Kind.TheVariants.{Split, Merge}
use Rattle.exh_table.specs.Table.{TableMap}
use Rattle.exh_table.specs.TableWalk.{right_of, right_of_kind, split_at}
use Rattle.exh_page.specs.declared.page.Page.{Page}
use Rattle.exh_page.specs.Page.{low_bound}
use Rattle.exh_legal.specs.Fit.{FitsPages}
use Rattle.exh_cells.specs.Fit.{pages_in}
use Rattle.exh_versions.specs.LegalLaws.{IsWard}
use Rattle.exh_versions.specs.Pages.{AreLinked, bare}
use Rattle.exh_versions.specs.ReasonLaws.{IsLegalFile, LegalTablesHaveRoom}
use Rattle.exh_versions.specs.PageImage.{IsPage}
use Rattle.exh_format.specs.FileVersion.{written_format}
use Rattle.exh_format.specs.HeaderImage.{IsHeader}
use Rattle.exh_format.specs.HeaderLemmas.{few_wards}
use Rattle.exh_format.specs.LegalFile.{naming, parts_in, table_naming, tables_of, told_of, ward_tables}
use Rattle.exh_format.specs.LegalFileLemmas.{table_naming_at}
use Rattle.exh_format.specs.PageFile.{PageFile, pages_of}
use Rattle.exh_format.specs.TableImage.{AreRising, IsFileEntry, prefixes_of}
use Rattle.exh_format.specs.declared.file_entry.FileEntry.{FileEntry}
use Rattle.exh_versions.specs.LegalPlaced.{IsLegalPlacedFile, pages_of_ward, placed_parts, wards_of}
use Rattle.exh_versions.specs.PlacedFile.{PlacedFile, lows_of}
use Rattle.exh_versions.specs.PlainFile.{counted_header, entries_of_tables, plain_file}
use Rattle.exh_versions.specs.VersionLaws.{IsPlainOf}
use Rattle.exh_versions.proofs.WardEntries.{IsPlaced, all_in, all_of_table, all_rise, entries_count, none_in, own_in, own_table, placed}
use Rattle.exh_versions.proofs.Told.{entries_small}

-- ---- lists

-- lists of one length with the same elements
module _ {A : Type 0} (d : A) where
  pub same_lists : (one other : List A) → length one ≡ length other → ((i : ℕ) → i < length one → get_or one i d ≡ get_or other i d) → one ≡ other
  same_lists [] [] count each = refl
  same_lists [] (y ∷ other) count each = absurd (omega (arith, count))
  same_lists (x ∷ one) [] count each = absurd (omega (arith, count))
  same_lists (x ∷ one) (y ∷ other) count each =
      let first : x ≡ y = each 0 (omega arith) in
      let rest : one ≡ other = same_lists one other (omega (arith, count)) (λ i less. each (suc i) (omega arith)) in
      ap (λ (x : A). x ∷ one) first ∙ ap (λ (xs : List A). y ∷ xs) rest

  pub there_at : (xs : List A) (i : ℕ) → i < length xs → slice_get xs i ≡ Some (get_or xs i d)
  there_at [] i less = absurd (omega arith)
  there_at (x ∷ xs) zero less = refl
  there_at (x ∷ xs) (suc i) less = there_at xs i (omega arith)

-- as many pass a test of what they are mapped to
count_of_map : {A B : Type 0} (f : A → B) (p : B → Bool) (xs : List A) → length (filter (λ x. p (f x)) xs) ≡ length (filter p (map f xs))
count_of_map f p [] = refl
count_of_map f p (x ∷ xs) = elim (p (f x)) as (λ (here : Bool). length (cond here (x ∷ filter (λ x. p (f x)) xs) (filter (λ x. p (f x)) xs)) ≡ length (cond here (f x ∷ filter p (map f xs)) (filter p (map f xs)))) [
  | true ↦ let rest = count_of_map f p xs in omega (arith, rest)
  | false ↦ count_of_map f p xs
]

-- ---- an entry of a legal ward

module _ {ward : List Bool} {table : TableMap} (pages : List Page) (linked : AreLinked ward (bare pages)) (fits : FitsPages ward table (bare pages)) where
  short_at : (prefix : List Bool) (entry : Entry) (kind : Kind) → entry.kind ≡ kind → get table prefix ≡ Some entry → length prefix < LIMIT
  short_at prefix entry (Split right) is found =
      let split : split_at table prefix ≡ Some right = ap right_of found ∙ ap right_of_kind is in
      let inner = ((fits.splits prefix).0 (right, split)).1 in
      omega (arith, inner.3.1, (linked.within inner.1 _ inner.2.2).1)
  short_at prefix entry Merge is found = ((fits.merges prefix).0 (entry.number, found ∙ ap (λ kind. Some (record { number = entry.number; kind = kind })) is)).0

-- ---- the file

module _ (file : PlacedFile) (tables : List TableMap) (bytes : List ℕ) (legal : IsLegalPlacedFile file tables bytes) (room : LegalTablesHaveRoom) where
  abbrev bits : ℕ
  bits = file.header.settings.ward_bits

  abbrev pseudo : List ℕ → ℕ
  pseudo = any_pseudokey file.header.settings.keyer

  abbrev items : List FileEntry
  items = entries_of_tables tables

  abbrev said : PageFile
  said = plain_file file tables

  few_bits : bits ≤ 4
  few_bits = few_wards bits legal.is.valid.header.plain.wards

  tables_count : length tables ≡ 2 ^ bits
  tables_count = legal.legal.tables_are.count

  wards_count : length (wards_of file) ≡ 2 ^ bits
  wards_count = length-map-range_with_len (pages_of_ward bits file.pages) 0 (2 ^ bits)

  -- ---- its tables

  table_at : (number : ℕ) → number < 2 ^ bits → slice_get tables number ≡ Some (get_or tables number empty)
  table_at number less = there_at empty tables number (omega (arith, less, tables_count))

  own_named : (number : ℕ) (table : TableMap) → slice_get tables number ≡ Some table → table_naming items number ≡ table
  own_named number table is = ap (from_entries {R = prefix_cmp}) (let zero_more : number ≡ 0 + number = omega arith in ap (λ (n : ℕ). map told_of (naming items n)) zero_more ∙ own_in 0 tables number table is) ∙ own_table table

  none_named : (number : ℕ) → 2 ^ bits ≤ number → table_naming items number ≡ empty
  none_named number past = ap (from_entries {R = prefix_cmp}) (none_in 0 tables number (inr (omega (arith, past, tables_count))))

  past_tables : (number : ℕ) → 256 ≤ number → get_or (tables_of items) number empty ≡ empty
  unfolding tables_of
  past_tables number past = get_or_past (tables_of items) number empty (omega (arith, past, length-map-range_with_len (table_naming items) 0 256))

  none_there : (number : ℕ) → 2 ^ bits ≤ number → get_or (tables_of items) number empty ≡ empty
  none_there number past = elim (cases_lt number 256) [
    | inl less ↦ table_naming_at items number less ∙ none_named number past
    | inr beyond ↦ past_tables number beyond
  ]

  own_there : (number : ℕ) → number < 2 ^ bits → get_or (tables_of items) number empty ≡ get_or tables number empty
  own_there number less = table_naming_at items number (omega (arith, less, legal.is.valid.header.plain.wards)) ∙ own_named number (get_or tables number empty) (table_at number less)

  tables_same : ward_tables said ≡ tables
  tables_same = same_lists empty (ward_tables said) tables
      (length-map-range_with_len (table_naming items) 0 (length (wards_of file)) ∙ wards_count ∙ sym tables_count)
      (λ number less.
      let within : number < length (wards_of file) = omega (arith, less, length-map-range_with_len (table_naming items) 0 (length (wards_of file))) in
      let own : number < 2 ^ bits = omega (arith, within, wards_count) in
      get_or-map-range_with_len (table_naming items) 0 (length (wards_of file)) number number empty within (omega arith) ∙ own_named number (get_or tables number empty) (table_at number own))

  -- ---- it is legal

  is_legal : IsLegalFile pseudo (parts_in said)
  is_legal = record {
    wards = λ number pages there.
        let less : number < 2 ^ bits = omega (arith, slice_get_within (wards_of file) number pages there, wards_count) in
        subst (λ (table : TableMap). IsWard file.header.settings.cap pseudo (ward_prefix bits number) table [] table pages) (sym (own_there number less)) (legal.legal.legal.wards number pages there);
    strays = λ number past. none_there number (omega (arith, past, wards_count));
  }

  ward_at : (number : ℕ) (table : TableMap) → slice_get tables number ≡ Some table → (pages : List Page) × IsWard file.header.settings.cap pseudo (ward_prefix bits number) table [] table pages
  ward_at number table is =
      let less : number < 2 ^ bits = omega (arith, slice_get_within tables number table is, tables_count) in
      let pages = get_or (wards_of file) number [] in (
        pages,
        subst (λ (table : TableMap). IsWard file.header.settings.cap pseudo (ward_prefix bits number) table [] table pages) (get_or_from_slice_get tables number table empty is)
            (legal.legal.legal.wards number pages (there_at [] (wards_of file) number (omega (arith, less, wards_count)))),
      )

  -- ---- its entries

  short : (number : ℕ) (table : TableMap) (prefix : List Bool) (entry : Entry) → slice_get tables number ≡ Some table → get table prefix ≡ Some entry → length prefix < LIMIT
  short number table prefix entry is found = let own = ward_at number table is in short_at own.0 own.1.legal.legal.linked own.1.fits prefix entry entry.kind refl found

  valid_entries : AllByRecursion (IsFileEntry second_version) items
  valid_entries = all_in (IsFileEntry second_version) 0 tables (λ at table is. all_of_table (IsFileEntry second_version) (0 + at) table (λ prefix entry found.
      let small = entries_small file.cells legal.is.valid.cells bits (lows_of file.pages) tables at table prefix entry legal.legal.tables_are is found in
      record { shorter = short at table prefix entry is found; change_number = small.number; right = small.right }))

  rising : AreRising (prefixes_of items)
  rising =
      let size = 2 ^ (64 - bits) in
      all_rise size 0 tables (λ at table is. all_of_table (λ (item : FileEntry). IsPlaced size (0 + at) item.prefix) (0 + at) table (λ prefix entry found.
      let own = ward_at at table is in
      let less : at < 2 ^ bits = omega (arith, slice_get_within tables at table is, tables_count) in
      let zero_more : at ≡ 0 + at = omega arith in
      subst (λ (n : ℕ). IsPlaced size n prefix) zero_more
      (placed bits at prefix (omega (arith, few_bits)) less (let brief = short at table prefix entry is found in omega (arith, brief)) (own.1.fits.entries prefix entry found).within)))

  -- ---- its header and its pages

  few_entries : length items < 2 ^ LIMIT
  few_entries =
      let few = room pseudo (placed_parts file tables) (record { cap = legal.is.valid.header.plain.few; bits = omega (arith, few_bits) }) wards_count legal.legal.legal in
      omega (arith, few, entries_count 0 tables)

  is_header : IsHeader written_format (counted_header file.header (length items))
  is_header =
      let plain = legal.is.valid.header.plain in
      record { some = plain.some; few = plain.few; wards = plain.wards; entries = few_entries; counts = plain.counts; pages = plain.pages; others = plain.others }

  ward_len : (number : ℕ) → length (pages_of_ward bits file.pages number) ≡ pages_in bits number (lows_of file.pages)
  ward_len number = count_of_map low_bound (λ (low : ℕ). nat_eq (ward_of bits low) number) file.pages ∙ length-filter (λ (low : ℕ). nat_eq (ward_of bits low) number) (lows_of file.pages)

  counts_same : map length (wards_of file) ≡ take (2 ^ bits) file.header.page_counts
  counts_same =
      let counts = file.header.page_counts in
      let long : length (map length (wards_of file)) ≡ 2 ^ bits = length-map (wards_of file) (λ (pages : List Page). length pages) ∙ wards_count in
      same_lists 0 (map length (wards_of file)) (take (2 ^ bits) counts) (let plain = legal.is.valid.header.plain in omega (arith, long, length-take (2 ^ bits) counts, plain.counts, plain.wards)) (λ number less.
      let own : number < 2 ^ bits = omega (arith, less, long) in
      get_or-map (λ (pages : List Page). length pages) (wards_of file) number [] 0 (omega (arith, own, wards_count))
      ∙ ap (λ (pages : List Page). length pages) (get_or-map-range_with_len (pages_of_ward bits file.pages) 0 (2 ^ bits) number number [] own (omega arith))
      ∙ ward_len number
      ∙ sym (legal.legal.fits.counts_are number (let few = legal.is.valid.header.plain.wards in omega (arith, own, few)))
      ∙ sym (get_or-take (2 ^ bits) counts number 0 own))

  all_pages : (count from : ℕ) → AllByRecursion (IsPage second_version pseudo) (pages_of (map (pages_of_ward bits file.pages) (range_with_len from count)))
  all_pages zero from = tt
  all_pages (suc count) from =
      AllByRecursion-append (IsPage second_version pseudo) (pages_of_ward bits file.pages from) (pages_of (map (pages_of_ward bits file.pages) (range_with_len (from + 1) count)))
      (AllByRecursion-filter (λ page. nat_eq (ward_of bits (low_bound page)) from) (IsPage second_version pseudo) file.pages legal.is.valid.pages)
      (all_pages count (from + 1))

  pub says : IsPlainOf said tables
  says = record {
    valid = record { header = is_header; counts = counts_same; pages = all_pages (2 ^ bits) 0; count = refl; entries = valid_entries; rising = rising };
    legal = is_legal;
    tables_are = tables_same;
  }
