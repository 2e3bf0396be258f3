-- Wards that are opened from bytes: their page file is these bytes again, in the version that is written.
use Rattle.std.proofs.Common.{◌≡◌, ℕ, zero, suc, ◌-◌, ◌*◌, ◌^◌, ◌<◌, ◌≤◌, Bool, true, false, ◌&&◌, T, List, [], ◌∷◌, ◌++◌, length, map, take, drop, get_or, replicate, slice_get, Some, inl, inr, refl, sym, ap, ◌∙◌, subst, length-append, arith}
use Rattle.std.specs.FinMap.{get, get-from_entries}
use Rattle.std.specs.FinMap.Entries.{below_all, is_sorted, same_entries}
use Rattle.std.specs.List.{AllByRecursion, flat_map}
use Rattle.std.specs.Ordering.{is_lt, ordering_reverse}
use Rattle.std.specs.declared.cmp.Ordering.{Ordering}
use Rattle.std.specs.declared.cmp.Ordering.TheVariants.{Less, Greater}
use Rattle.std.proofs.lemmas.Bool.{cases_lt}
use Rattle.std.proofs.lemmas.Bool.Decides.{eqb_tells}
use Rattle.std.proofs.lemmas.List.{length-drop, take-append-drop}
use Rattle.std.proofs.lemmas.Option.{slice_get_cases, slice_get_within}
use Rattle.sha2.specs.Sha256.{sha256}
use Rattle.exh_prefix.specs.PrefixListLemmas.{AllByRecursion-append, AllByRecursion-append_left, AllByRecursion-append_right}
use Rattle.exh_prefix.specs.Prefix.{prefix_cmp}
use Rattle.exh_prefix.specs.PrefixLemmas.{prefix_cmp-exact, prefix_cmp-total}
use Rattle.exh_prefix.specs.Version.{Version}
use Rattle.exh_prefix.specs.Layout.{layout}
use Rattle.exh_prefix.specs.declared.version.Version.{Version as KnownVersion}
use Rattle.exh_prefix.specs.declared.version.Version.TheVariants.{First, Second}
use Rattle.exh_prefix.specs.declared.version.TheConstants.{WRITTEN}
use Rattle.exh_keyer.specs.Pseudokey.{any_pseudokey}
use Rattle.exh_keyer.specs.declared.any_keyer.AnyKeyer.{AnyKeyer}
use Rattle.exh_notice.specs.NoticeByteLemmas.{zeros_from}
use Rattle.exh_notice.specs.declared.entry.Entry.{Entry}
use Rattle.exh_table.specs.Table.{TableMap}
use Rattle.exh_page.specs.declared.page.Page.{Page}
use Rattle.exh_legal.specs.LegalLaws.{FittingTablesBeginWards}
use Rattle.exh_legal.specs.ReasonLaws.{IsLegalFile}
use Rattle.exh_codec.specs.PageImage.{padded}
use Rattle.exh_format.specs.FileVersion.{file_version, format_of, version_of, written_format}
use Rattle.exh_format.specs.TableImage.{AreRising, image_of, prefixes_of}
use Rattle.exh_format.specs.declared.file_entry.FileEntry.{FileEntry}
use Rattle.exh_format.specs.declared.header.Header.{Header}
use Rattle.exh_format.specs.PageFile.{IsFile, PageFile, file_bytes, header_block, page_block, pages_of, table_block, table_blocks, table_bytes}
use Rattle.exh_format.specs.Reading.{AreBytes}
use Rattle.exh_format.specs.BlockLaws.{HeadersAreBlocks}
use Rattle.exh_format.specs.FileLaws.{SameBlocks}
use Rattle.exh_format.specs.LegalFile.{IsLegalPageFile, parts_in, table_naming, told_of}
use Rattle.exh_format.specs.LegalFileLemmas.{table_naming_at}
use Rattle.exh_versions.specs.LegalBytes.{IsLegalPlacedOf}
use Rattle.exh_versions.specs.PlainFile.{plain_file}
use Rattle.exh_versions.specs.VersionLaws.{PlacedFilesSayFiles}
use Rattle.exh_versions.specs.VersionLemmas.{says_placed, wards_are_bytes}
use Rattle.exh_ward.specs.WardState.{WardState}
use Rattle.exh_file.specs.Opened.{AreWardsOf, OpenedState}
use Rattle.exh_file.specs.Opening.{IsOpenedFile}
use Rattle.exh_file.specs.Reopened.{IsWrittenAgain, OpensAs, in_written}
use Rattle.exh_file.specs.Saved.{AreSound, counts_in, entries_of_all, file_entry, written_file, header_of, pages_of_all}
use Rattle.exh_file.proofs.Named.{none_in, told_by, with_one}
use Rattle.exh_file.proofs.Renumbered.{renumbered_file}
use Rattle.exh_file.proofs.Reopened.{few, none_named, own_named, rising}

-- ---- the entries of a list that name a ward

named_first : (item : FileEntry) (items : List FileEntry) (ward : ℕ) → item.ward ≡ ward → told_by (item ∷ items) ward ≡ told_of item ∷ told_by items ward
named_first item items ward is = elim (eqb_tells item.ward ward) [
  | inl same ↦ ap (with_one item items ward) same.0
  | inr other ↦ absurd (other.1 is)
]

other_first : (item : FileEntry) (items : List FileEntry) (ward : ℕ) → (item.ward ≡ ward → ⊥) → told_by (item ∷ items) ward ≡ told_by items ward
other_first item items ward differ = elim (eqb_tells item.ward ward) [
  | inl same ↦ absurd (differ same.1)
  | inr other ↦ ap (with_one item items ward) other.0
]

abbrev AreBehind : List Bool → List FileEntry → Type 0
AreBehind prefix items = AllByRecursion (λ (next : List Bool). prefix_cmp prefix next ≡ Less) (prefixes_of items)

below : (prefix : List Bool) (items : List FileEntry) (ward : ℕ) → AreBehind prefix items → T (below_all prefix_cmp prefix (told_by items ward))
below prefix [] ward behind = tt
below prefix (item ∷ items) ward behind =
    let rest = below prefix items ward behind.1 in
    elim (eqb_tells item.ward ward) [
      | inl same ↦
          let first : T (is_lt (prefix_cmp prefix item.prefix) && below_all prefix_cmp prefix (told_by items ward))
          = subst (λ (order : Ordering). T (is_lt order && below_all prefix_cmp prefix (told_by items ward))) (sym behind.0) rest in
          subst (λ (told : List (List Bool × Entry)). T (below_all prefix_cmp prefix told)) (sym (named_first item items ward same.1)) first
      | inr other ↦ subst (λ (told : List (List Bool × Entry)). T (below_all prefix_cmp prefix told)) (sym (other_first item items ward other.1)) rest
    ]

both_hold : (a b : Bool) → T a → T b → T (a && b)
both_hold true b one other = other
both_hold false b one other = absurd one

told_rise : (items : List FileEntry) (ward : ℕ) → AreRising (prefixes_of items) → T (is_sorted prefix_cmp (told_by items ward))
told_rise [] ward rises = tt
told_rise (item ∷ items) ward rises =
    let rest = told_rise items ward rises.1 in
    elim (eqb_tells item.ward ward) [
      | inl same ↦
          subst (λ (told : List (List Bool × Entry)). T (is_sorted prefix_cmp told)) (sym (named_first item items ward same.1))
          (both_hold (below_all prefix_cmp item.prefix (told_by items ward)) (is_sorted prefix_cmp (told_by items ward)) (below item.prefix items ward rises.0) rest)
      | inr other ↦ subst (λ (told : List (List Bool × Entry)). T (is_sorted prefix_cmp told)) (sym (other_first item items ward other.1)) rest
    ]

-- of one table they are the same
same_told : (one other : List FileEntry) (ward : ℕ) → AreRising (prefixes_of one) → AreRising (prefixes_of other) → table_naming one ward ≡ table_naming other ward → told_by one ward ≡ told_by other ward
same_told one other ward rises others same =
    same_entries prefix_cmp prefix_cmp-total prefix_cmp-exact (told_by one ward) (told_by other ward) (told_rise one ward rises) (told_rise other ward others)
    (λ prefix. sym (get-from_entries prefix_cmp-total (told_by one ward) prefix) ∙ ap (λ (table : TableMap). get table prefix) same ∙ get-from_entries prefix_cmp-total (told_by other ward) prefix)

-- ---- lists that rise, with the same entries for each ward, are one

first_behind : (prefix : List Bool) (items : List FileEntry) (ward : ℕ) (one : List Bool × Entry) (rest : List (List Bool × Entry)) → AreBehind prefix items → told_by items ward ≡ one ∷ rest → prefix_cmp prefix one.0 ≡ Less
first_behind prefix [] ward one rest behind is = absurd (omega (arith, ap (λ (told : List (List Bool × Entry)). length told) is))
first_behind prefix (item ∷ items) ward one rest behind is = elim (eqb_tells item.ward ward) [
  | inl same ↦
      let first : told_of item ≡ one = ap (λ (told : List (List Bool × Entry)). get_or told 0 one) (sym (named_first item items ward same.1) ∙ is) in
      subst (λ (told : List Bool × Entry). prefix_cmp prefix told.0 ≡ Less) first behind.0
  | inr other ↦ first_behind prefix items ward one rest behind.1 (sym (other_first item items ward other.1) ∙ is)
]

same_entry : (one other : FileEntry) → one.ward ≡ other.ward → told_of one ≡ told_of other → one ≡ other
same_entry one other wards told = ap (λ (ward : ℕ). file_entry ward (told_of one)) wards ∙ ap (file_entry other.ward) told

not_none : (item : FileEntry) (items : List FileEntry) → told_by (item ∷ items) item.ward ≡ [] → ⊥
not_none item items none = omega (arith, ap (λ (told : List (List Bool × Entry)). length told) (sym (named_first item items item.ward refl) ∙ none))

same_items : (one other : List FileEntry) → AreRising (prefixes_of one) → AreRising (prefixes_of other) → ((ward : ℕ) → told_by one ward ≡ told_by other ward) → one ≡ other
same_items [] [] rises others same = refl
same_items [] (item ∷ items) rises others same = absurd (not_none item items (sym (same item.ward)))
same_items (item ∷ items) [] rises others same = absurd (not_none item items (same item.ward))
same_items (a ∷ one) (b ∷ other) rises others same = elim (eqb_tells a.ward b.ward) [
  | inl named ↦
      let at : told_of a ∷ told_by one b.ward ≡ told_of b ∷ told_by other b.ward = sym (named_first a one b.ward named.1) ∙ same b.ward ∙ named_first b other b.ward refl in
      let first : a ≡ b = same_entry a b named.1 (ap (λ (told : List (List Bool × Entry)). get_or told 0 (told_of a)) at) in
      let rest : (ward : ℕ) → told_by one ward ≡ told_by other ward = λ ward. elim (eqb_tells a.ward ward) [
        | inl here ↦ ap (λ (told : List (List Bool × Entry)). drop 1 told) (sym (named_first a one ward here.1) ∙ same ward ∙ named_first b other ward (sym named.1 ∙ here.1))
        | inr apart ↦ sym (other_first a one ward apart.1) ∙ same ward ∙ other_first b other ward (λ is. apart.1 (named.1 ∙ is))
      ] in
      ap (λ (items : List FileEntry). a ∷ items) (same_items one other rises.1 others.1 rest) ∙ ap (λ (item : FileEntry). item ∷ other) first
  | inr apart ↦
      let before : prefix_cmp b.prefix a.prefix ≡ Less = first_behind b.prefix other a.ward (told_of a) (told_by one a.ward) others.0 (sym (other_first b other a.ward (λ is. apart.1 (sym is))) ∙ sym (same a.ward) ∙ named_first a one a.ward refl) in
      let after : prefix_cmp a.prefix b.prefix ≡ Less = first_behind a.prefix one b.ward (told_of b) (told_by other b.ward) rises.0 (sym (other_first a one b.ward apart.1) ∙ same b.ward ∙ named_first b other b.ward refl) in
      let clash : Less ≡ Greater = sym after ∙ prefix_cmp-total.antisymm a.prefix b.prefix ∙ ap ordering_reverse before in
      cc
]

-- ---- the wards that entries of bytes name

abbrev HasByte : FileEntry → Type 0
HasByte item = item.ward < 256

abbrev IsByte : ℕ → Type 0
IsByte byte = byte < 256

in_images : (version : Version) (items : List FileEntry) → AreBytes (flat_map (image_of version) items) → AllByRecursion HasByte items
in_images version [] bytes = tt
in_images version (item ∷ items) bytes = (bytes.0, in_images version items (AllByRecursion-append_right IsByte (image_of version item) (flat_map (image_of version) items) bytes))

in_block : (version : Version) (items : List FileEntry) → AreBytes (table_block version items) → AllByRecursion HasByte items
unfolding table_block
in_block version items bytes =
    let images = flat_map (image_of version) items in
    let content = padded 4064 images in
    in_images version items (AllByRecursion-append_left IsByte images (replicate (4064 - length images) 0) (AllByRecursion-append_left IsByte content (sha256 content) bytes))

in_blocks : (version : Version) (blocks : ℕ) (items : List FileEntry) → length items ≤ blocks * 254 → AreBytes (table_bytes version blocks items) → AllByRecursion HasByte items
in_blocks version zero [] fit bytes = tt
in_blocks version zero (item ∷ items) fit bytes = absurd (omega (arith, fit))
in_blocks version (suc blocks) items fit bytes =
    let block = table_block version (take 254 items) in
    let blocks_behind = table_bytes version blocks (drop 254 items) in
    let front = in_block version (take 254 items) (AllByRecursion-append_left IsByte block blocks_behind bytes) in
    let back = in_blocks version blocks (drop 254 items) (omega (arith, fit, length-drop 254 items)) (AllByRecursion-append_right IsByte block blocks_behind bytes) in
    subst (AllByRecursion HasByte) (take-append-drop 254 items) (AllByRecursion-append HasByte (take 254 items) (drop 254 items) front back)

in_file_bytes : (version : KnownVersion) (file : PageFile) → AreBytes (file_bytes (file_version version) file) → AllByRecursion HasByte file.entries
in_file_bytes version file bytes =
    let pages = flat_map page_block (pages_of file.wards) in
    let table = table_bytes (layout version) (table_blocks (length file.entries)) file.entries in
    let behind = AllByRecursion-append_right IsByte (header_block (file_version version) file.header) (pages ++ table) bytes in
    in_blocks (layout version) (table_blocks (length file.entries)) file.entries (omega arith) (AllByRecursion-append_right IsByte pages table behind)

-- none names what no byte is
past_bytes : (items : List FileEntry) (number : ℕ) → AllByRecursion HasByte items → 256 ≤ number → told_by items number ≡ []
past_bytes [] number all past = refl
past_bytes (item ∷ items) number all past = other_first item items number (λ is. omega (arith, all.0, past, is)) ∙ past_bytes items number all.1 past

-- ---- lists made of others

made_of : {A B : Type 0} (f : A → B) (xs : List A) (ys : List B) (none : B) → length xs ≡ length ys → ((number : ℕ) (x : A) → slice_get xs number ≡ Some x → f x ≡ get_or ys number none) → map f xs ≡ ys
made_of f [] [] none count each = refl
made_of f [] (y ∷ ys) none count each = absurd (omega (arith, count))
made_of f (x ∷ xs) [] none count each = absurd (omega (arith, count))
made_of f (x ∷ xs) (y ∷ ys) none count each =
    ap (λ l. f x ∷ l) (made_of f xs ys none (omega (arith, count)) (λ number other there. each (suc number) other there)) ∙ ap (λ first. first ∷ ys) (each 0 x refl)

padded_front : (counts : List ℕ) (many len : ℕ) → length counts ≡ len → AllByRecursion (λ (count : ℕ). count ≡ 0) (drop many counts) → padded len (take many counts) ≡ counts
padded_front counts many len long zeros =
    let front = take many counts in
    let back = drop many counts in
    let whole : length back ≡ len - length front = omega (arith, long, length-append front back, ap (λ (l : List ℕ). length l) (take-append-drop many counts)) in
    ap (λ (l : List ℕ). front ++ l) (sym (zeros_from (len - length front) back whole zeros)) ∙ take-append-drop many counts

-- ---- the file of wards that were opened

module _ (opened : OpenedState) (are : AreWardsOf opened) (sound : AreSound opened.wards) (begin : FittingTablesBeginWards) (version : KnownVersion) (file : PageFile) (valid : IsFile (file_version version) file)
    (legal : IsLegalFile (any_pseudokey file.header.settings.keyer) (parts_in file)) (small : AllByRecursion HasByte file.entries) (is : IsOpenedFile file opened) where
  abbrev items : List FileEntry
  items = entries_of_all opened.wards

  pages_again : pages_of_all opened.wards ≡ file.wards
  pages_again = made_of (λ (w : WardState AnyKeyer). w.pages) opened.wards file.wards [] is.count (λ number ward there. ap (λ (w : WardState AnyKeyer). w.pages) (is.each number ward there).is)

  tables_again : (number : ℕ) → number < 256 → table_naming items number ≡ table_naming file.entries number
  tables_again number less = elim (slice_get_cases opened.wards number).1 [
    | inl found ↦ own_named opened are sound begin number found.0 found.2 ∙ ap (λ (w : WardState AnyKeyer). w.table) (is.each number found.0 found.2).is
    | inr past ↦
        let stray = legal.strays number (omega (arith, past.0, is.count)) in
        none_named opened are sound begin number past.0 ∙ sym (sym (table_naming_at file.entries number less) ∙ stray)
  ]

  told_again : (number : ℕ) → told_by items number ≡ told_by file.entries number
  told_again number = elim (cases_lt number 256) [
    | inl less ↦ same_told items file.entries number (rising opened are sound begin) valid.rising (tables_again number less)
    | inr beyond ↦
        none_in opened.wards number (λ at ward there named. omega (arith, beyond, few opened are sound begin, slice_get_within opened.wards at ward there, (are.each at ward there).number_is, named))
        ∙ sym (past_bytes file.entries number small beyond)
  ]

  entries_again : items ≡ file.entries
  entries_again = same_items items file.entries (rising opened are sound begin) valid.rising told_again

  counts_again : counts_in opened.wards ≡ file.header.page_counts
  counts_again =
      ap (λ (wards : List (List Page)). padded 16 (map length wards)) pages_again ∙ ap (padded 16) valid.counts
      ∙ padded_front file.header.page_counts (2 ^ file.header.settings.ward_bits) 16 valid.header.counts valid.header.others

  header_again : header_of opened ≡ file.header
  header_again =
      let made : ℕ → ℕ → AnyKeyer → ℕ → List ℕ → Header = λ cap bits keyer count counts. record { settings = record { cap = cap; ward_bits = bits; keyer = keyer }; entry_count = count; page_counts = counts } in
      let header = file.header in
      ap (λ (cap : ℕ). made cap opened.ward_bits opened.keyer (length items) (counts_in opened.wards)) is.cap
      ∙ ap (λ (bits : ℕ). made header.settings.cap bits opened.keyer (length items) (counts_in opened.wards)) is.bits
      ∙ ap (λ (keyer : AnyKeyer). made header.settings.cap header.settings.ward_bits keyer (length items) (counts_in opened.wards)) is.keyer
      ∙ ap (λ (count : ℕ). made header.settings.cap header.settings.ward_bits header.settings.keyer count (counts_in opened.wards)) (ap (λ (l : List FileEntry). length l) entries_again ∙ valid.count)
      ∙ ap (made header.settings.cap header.settings.ward_bits header.settings.keyer header.entry_count) counts_again

  file_again : written_file opened ≡ file
  file_again =
      let made : Header → List (List Page) → List FileEntry → PageFile = λ header wards entries. record { header = header; wards = wards; entries = entries } in
      ap (λ (header : Header). made header (pages_of_all opened.wards) items) header_again
      ∙ ap (λ (wards : List (List Page)). made file.header wards items) pages_again
      ∙ ap (made file.header file.wards) entries_again

-- a file is written in the version that is written, whichever it was read in
in_written_version : HeadersAreBlocks → SameBlocks → (version : KnownVersion) (file : PageFile) (bytes : List ℕ) → IsFile (file_version version) file → bytes ≡ file_bytes (file_version version) file
    → file_bytes written_format file ≡ in_written version bytes
in_written_version blocks same First file bytes valid is = renumbered_file blocks same file valid ∙ ap (in_written First) (sym is)
in_written_version blocks same Second file bytes valid is = sym is

module _ (opened : OpenedState) (are : AreWardsOf opened) (sound : AreSound opened.wards) (begin : FittingTablesBeginWards) (law : PlacedFilesSayFiles) where
  plain_again : (file : PageFile) (bytes : List ℕ) → AreBytes bytes → IsLegalPageFile (format_of bytes) file bytes → IsOpenedFile file opened → written_file opened ≡ file
  plain_again file bytes are_bytes page is = file_again opened are sound begin (version_of bytes) file page.is.valid page.legal (in_file_bytes (version_of bytes) file (subst AreBytes page.is.whole are_bytes)) is

  placed_again : (file : PageFile) (bytes : List ℕ) → IsLegalPlacedOf file bytes → IsOpenedFile file opened → written_file opened ≡ file
  placed_again file bytes placed is =
      let said = plain_file placed.placed placed.tables in
      let plain = law placed.placed placed.tables bytes placed.legal in
      file_again opened are sound begin WRITTEN said plain.valid plain.legal (wards_are_bytes placed.placed placed.tables bytes placed.legal) (subst (λ (file : PageFile). IsOpenedFile file opened) placed.says is)
      ∙ sym placed.says

  same_again : (bytes : List ℕ) (opens : OpensAs bytes opened) → AreBytes bytes → written_file opened ≡ opens.file
  same_again bytes opens are_bytes = elim opens.legal [
    | inl page ↦ plain_again opens.file bytes are_bytes page opens.wards
    | inr placed ↦ placed_again opens.file bytes placed opens.wards
  ]

  pub is_again : HeadersAreBlocks → SameBlocks → IsWrittenAgain opened
  is_again blocks same = record {
    same = same_again;
    again = λ bytes are_bytes opens other. elim opens.legal [
      | inl page ↦ ap (file_bytes written_format) (same_again bytes opens are_bytes) ∙ in_written_version blocks same (version_of bytes) opens.file bytes page.is.valid page.is.whole
      | inr placed ↦ absurd (other (says_placed placed.placed bytes placed.legal.is))
    ];
  }
