-- The file of sound wards is a legal page file, and what is opened from it is these wards begun anew.
use Rattle.std.proofs.Common.{◌≡◌, Result, Ok, Err, OnOk, ℕ, suc, ◌+◌, ◌-◌, ◌^◌, ◌<◌, ◌≤◌, Bool, List, [], ◌∷◌, length, map, get_or, replicate, slice_get, Some, inl, inr, refl, sym, ap, ◌∙◌, subst, arith}
use Rattle.std.specs.FinMap.{empty, entries, entries_sorted, from_entries, get-entries}
use Rattle.std.specs.FinMap.Entries.{find}
use Rattle.std.specs.List.{AllByRecursion}
use Rattle.std.proofs.Math.Nat.{pow-le-pow_right}
use Rattle.std.specs.Option.{option_map}
use Rattle.std.proofs.lemmas.Bool.{cases_lt}
use Rattle.std.proofs.lemmas.List.{get_or_past, length-map, take_at}
use Rattle.std.proofs.lemmas.List.FromFn.{length-map-range_with_len}
use Rattle.std.proofs.lemmas.Option.{get_or_from_slice_get, slice_get-map, slice_get_within}
use Rattle.exh_prefix.specs.Leading.{ward_prefix}
use Rattle.exh_prefix.specs.PrefixListLemmas.{AllByRecursion-append}
use Rattle.exh_prefix.specs.Prefix.{IsFront, prefix_cmp}
use Rattle.exh_prefix.specs.declared.prefix.TheConstants.{LIMIT}
use Rattle.exh_prefix.specs.Layout.{written_version}
use Rattle.exh_prefix.specs.declared.version.Version.{Version}
use Rattle.exh_prefix.specs.declared.version.TheConstants.{WRITTEN}
use Rattle.exh_keyer.specs.Pseudokey.{any_pseudokey}
use Rattle.exh_keyer.specs.declared.any_keyer.AnyKeyer.{AnyKeyer}
use Rattle.exh_notice.specs.declared.entry.Entry.{Entry}
use Rattle.exh_table.specs.Table.{TableMap}
use Rattle.exh_page.specs.Page.{IsWellFormed}
use Rattle.exh_page.specs.declared.page.Page.{Page}
use Rattle.exh_legal.specs.LegalLaws.{FittingTablesBeginWards, PagesAreFew}
use Rattle.exh_legal.specs.MapLemmas.{all_pages}
use Rattle.exh_legal.specs.Pages.{map_of}
use Rattle.exh_codec.specs.PageImage.{IsInRange, IsPage}
use Rattle.exh_format.specs.FileVersion.{file_version, format_of, version_of, written_format}
use Rattle.exh_format.specs.FileVersionLemmas.{image_says}
use Rattle.exh_format.specs.HeaderImage.{IsHeader}
use Rattle.exh_format.specs.TableImage.{AreRising, IsFileEntry, prefixes_of}
use Rattle.exh_format.specs.declared.file_entry.FileEntry.{FileEntry}
use Rattle.exh_format.specs.FileLaws.{blocks_behind}
use Rattle.exh_format.specs.PageFile.{IsFile, PageFile, file_bytes, header_block, pages_of}
use Rattle.exh_legal.specs.ReasonLaws.{IsLegalFile, LegalFilesPass, LegalTablesHaveRoom}
use Rattle.exh_format.specs.LegalFile.{IsLegalPageFile, parts_in, table_naming, tables_of}
use Rattle.exh_format.specs.LegalFileLemmas.{table_naming_at}
use Rattle.exh_versions.specs.VersionLaws.{OneLegalFile}
use Rattle.exh_ward.specs.WardState.{WardState}
use Rattle.exh_file.specs.Opened.{AreWardsOf, OpenedState}
use Rattle.exh_file.specs.Opening.{IsOpenedFile, ward_opened}
use Rattle.exh_file.specs.Reopened.{IsKept, IsReopened}
use Rattle.exh_file.specs.Saved.{AreSound, entries_of_all, written_file, header_of, pages_of_all}
use Rattle.exh_file.proofs.Legal.{all_told, each, is_header, legal_parts, short_at}
use Rattle.exh_file.proofs.Named.{IsPlaced, all_rise, none_in, own_in, own_table, placed}

past_tables : (items : List FileEntry) (number : ℕ) → 256 ≤ number → get_or (tables_of items) number empty ≡ empty
unfolding tables_of
past_tables items number past = get_or_past (tables_of items) number empty (omega (arith, past, length-map-range_with_len (table_naming items) 0 256))

-- the bytes of a file say their version
says_version : (version : Version) (file : PageFile) → IsHeader (file_version version) file.header → version_of (file_bytes (file_version version) file) ≡ version
unfolding header_block
says_version version file valid =
    let format = file_version version in
    image_says version file.header (header_block format file.header) (blocks_behind format.images file) (file_bytes format file) (record { valid = valid; whole = refl }) refl

-- pages in their ranges that are well formed
all_valid : (pseudo : List ℕ → ℕ) (pages : List Page) → AllByRecursion (IsInRange written_version) pages → AllByRecursion (IsWellFormed pseudo) pages → AllByRecursion (IsPage written_version pseudo) pages
all_valid pseudo [] ranges formed = tt
all_valid pseudo (page ∷ pages) ranges formed = (record { in_range = ranges.0; formed = formed.0 }, all_valid pseudo pages ranges.1 formed.1)

all_formed : (pseudo : List ℕ → ℕ) (wards : List (List Page)) → ((number : ℕ) (pages : List Page) → slice_get wards number ≡ Some pages → AllByRecursion (IsWellFormed pseudo) pages) → AllByRecursion (IsWellFormed pseudo) (pages_of wards)
all_formed pseudo [] formed = tt
all_formed pseudo (pages ∷ wards) formed = AllByRecursion-append (IsWellFormed pseudo) pages (pages_of wards) (formed 0 pages refl) (all_formed pseudo wards (λ number own is. formed (suc number) own is))

module _ (opened : OpenedState) (are : AreWardsOf opened) (sound : AreSound opened.wards) (begin : FittingTablesBeginWards) where
  abbrev items : List FileEntry
  items = entries_of_all opened.wards

  abbrev file : PageFile
  file = written_file opened

  -- ---- its tables

  pub own_named : (number : ℕ) (ward : WardState AnyKeyer) → slice_get opened.wards number ≡ Some ward → table_naming items number ≡ ward.table
  own_named number ward is =
      ap (from_entries {R = prefix_cmp}) (own_in opened.wards number number ward is (are.each number ward is).number_is (λ place other there named. sym (are.each place other there).number_is ∙ named))
      ∙ own_table ward.table

  pub none_named : (number : ℕ) → length opened.wards ≤ number → table_naming items number ≡ empty
  none_named number past = ap (from_entries {R = prefix_cmp}) (none_in opened.wards number (λ at ward is named. absurd (omega (arith, past, slice_get_within opened.wards at ward is, (are.each at ward is).number_is, named))))

  pub few : length opened.wards ≤ 16
  few = omega (arith, are.count, pow-le-pow_right {n = 2} (omega arith) are.bits)

  own_there : (number : ℕ) (ward : WardState AnyKeyer) → slice_get opened.wards number ≡ Some ward → get_or (tables_of items) number empty ≡ ward.table
  own_there number ward is = table_naming_at items number (omega (arith, few, slice_get_within opened.wards number ward is)) ∙ own_named number ward is

  none_there : (number : ℕ) → length opened.wards ≤ number → get_or (tables_of items) number empty ≡ empty
  none_there number past = elim (cases_lt number 256) [
    | inl less ↦ table_naming_at items number less ∙ none_named number past
    | inr beyond ↦ past_tables items number beyond
  ]

  pub is_legal : IsLegalFile (any_pseudokey opened.keyer) (parts_in file)
  is_legal = legal_parts opened are sound begin (tables_of items) own_there none_there

  -- ---- its entries' prefixes rise

  pub rising : AreRising (prefixes_of items)
  rising =
      let size = 2 ^ (64 - opened.ward_bits) in
      all_rise size 0 opened.wards (λ number ward is.
      let own = are.each number ward is in
      let legal = (sound number ward is).legal in
      let bits : opened.ward_bits ≤ 64 = (let small = are.bits in omega (arith, small)) in
      let less : number < 2 ^ opened.ward_bits = omega (arith, slice_get_within opened.wards number ward is, are.count) in
      let within : (prefix : List Bool) (entry : Entry) → find prefix_cmp prefix (entries ward.table) ≡ Some entry → IsFront (ward_prefix opened.ward_bits number) prefix × (length prefix < LIMIT)
      = λ prefix entry found. (
        subst (λ (n : ℕ). IsFront (ward_prefix opened.ward_bits n) prefix) own.number_is
            (subst (λ (bits : ℕ). IsFront (ward_prefix bits ward.number) prefix) own.bits (legal.fits.entries prefix entry (get-entries ward.table prefix ∙ found)).within),
        short_at ward.pages legal.legal.legal.linked legal.fits prefix entry entry.kind refl (get-entries ward.table prefix ∙ found),
      ) in
      let each_placed : (prefix : List Bool) (entry : Entry) → find prefix_cmp prefix (entries ward.table) ≡ Some entry → IsPlaced size (0 + number) prefix
      = λ prefix entry found.
      let here = within prefix entry found in
      let zero_more : number ≡ 0 + number = omega arith in
      subst (λ (n : ℕ). IsPlaced size n prefix) zero_more (placed opened.ward_bits number prefix bits less (let short = here.1 in omega (arith, short)) here.0) in
      all_told (IsPlaced size (0 + number)) ward.number (entries ward.table) (each (IsPlaced size (0 + number)) (entries ward.table) (entries_sorted ward.table) each_placed))

  -- ---- it is a legal page file

  module _ (pass : LegalFilesPass) (few_pages : PagesAreFew) (room : LegalTablesHaveRoom) (ranges : AllByRecursion (IsInRange written_version) (pages_of (pages_of_all opened.wards))) (valid : AllByRecursion (IsFileEntry written_version) items) where
    formed : AllByRecursion (IsWellFormed (any_pseudokey opened.keyer)) (pages_of (pages_of_all opened.wards))
    formed = all_formed (any_pseudokey opened.keyer) (pages_of_all opened.wards) (λ number pages there.
        let bits = are.bits in
        let passed = (pass (any_pseudokey opened.keyer) (parts_in file) (record { cap = are.most; bits = omega (arith, bits) })).1 is_legal in
        all_pages (IsWellFormed (any_pseudokey opened.keyer)) pages (passed.formed number pages there).formed)

    is_file : IsFile written_format file
    is_file =
        let lens = map length (pages_of_all opened.wards) in
        let many : length lens ≡ 2 ^ opened.ward_bits = length-map (pages_of_all opened.wards) (λ (pages : List Page). length pages) ∙ length-map opened.wards (λ (w : WardState AnyKeyer). w.pages) ∙ are.count in
        record {
          header = is_header opened are sound begin few_pages room;
          counts = sym (take_at lens (replicate (16 - length lens) 0) (2 ^ opened.ward_bits) many);
          pages = all_valid (any_pseudokey opened.keyer) (pages_of (pages_of_all opened.wards)) ranges formed;
          count = refl;
          entries = valid;
          rising = rising;
        }

    is_legal_file : IsLegalPageFile written_format file (file_bytes written_format file)
    is_legal_file = record { is = record { valid = is_file; whole = refl }; legal = is_legal }

    -- ---- what is opened from it

    begun : (other : OpenedState) → IsOpenedFile file other → IsReopened opened other
    begun other is = record {
      cap = is.cap;
      bits = is.bits;
      keyer = is.keyer;
      count = is.count ∙ length-map opened.wards (λ (w : WardState AnyKeyer). w.pages);
      each = λ number ward made there at.
          let own = are.each number ward there in
          let header = header_of opened in
          let pages : get_or (pages_of_all opened.wards) number [] ≡ ward.pages = get_or_from_slice_get (pages_of_all opened.wards) number ward.pages [] (slice_get-map (λ (w : WardState AnyKeyer). w.pages) opened.wards number ∙ ap (option_map (λ (w : WardState AnyKeyer). w.pages)) there) in
          let with_settings : ℕ → ℕ → ℕ → AnyKeyer → WardState AnyKeyer
          = λ cap bits number keyer. record { pages = ward.pages; base = map_of ward.pages; journal = []; start = ward.table; notices = []; table = ward.table; failures = made.failures; cap = cap; ward_bits = bits; number = number; keyer = keyer } in
          (is.each number made at).is
          ∙ ap (λ (ps : List Page). ward_opened header number ps (table_naming items number) made.failures) pages
          ∙ ap (λ (table : TableMap). ward_opened header number ward.pages table made.failures) (own_named number ward there)
          ∙ ap (λ (cap : ℕ). with_settings cap opened.ward_bits number opened.keyer) (sym own.cap)
          ∙ ap (λ (bits : ℕ). with_settings ward.cap bits number opened.keyer) (sym own.bits)
          ∙ ap (λ (n : ℕ). with_settings ward.cap ward.ward_bits n opened.keyer) (sym own.number_is)
          ∙ ap (λ (keyer : AnyKeyer). with_settings ward.cap ward.ward_bits ward.number keyer) (sym own.keyer);
    }

    pub is_kept : OneLegalFile → IsKept opened (file_bytes written_format file)
    is_kept one = record {
      legal = is_legal_file;
      same = λ other opens.
          let bytes = file_bytes written_format file in
          let page : IsLegalPageFile (format_of bytes) file bytes = subst (λ (version : Version). IsLegalPageFile (file_version version) file bytes) (sym (says_version WRITTEN file is_file.header)) is_legal_file in
          let same : opens.file ≡ file = one bytes opens.file file opens.legal (inl page) in
          begun other (subst (λ (f : PageFile). IsOpenedFile f other) same opens.wards);
    }

-- two facts of a result that is a value make a third
pub both_ok : {V F : Type 0} {A B C : Type 0} (made : A → B → C) (result : Result V F) → OnOk result A → OnOk result B → OnOk result C
both_ok made (Ok value) one other = made one other
both_ok made (Err fault) one other = tt
