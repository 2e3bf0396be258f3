-- A file from the reads of its parts.
use Rattle.std.proofs.Common.{◌≡◌, ℕ, ◌+◌, ◌*◌, ◌^◌, ◌<◌, ◌≤◌, inl, inr, true, List, [], ◌∷◌, ◌++◌, length, map, take, Option, None, Some, IfSome, refl, sym, ap, ◌∙◌, subst, arith}
use Rattle.std.proofs.lemmas.List.{length-append, length-take}
use Rattle.std.proofs.lemmas.List.Sums.{sum_by-cons}
use Rattle.std.proofs.lemmas.List.Folds.{flat_map-map}
use Rattle.std.proofs.Math.Nat.{pow-le-pow_right}
use Rattle.exh_prefix.specs.declared.prefix.TheConstants.{LIMIT}
use Rattle.std.specs.List.{AllByRecursion, flat_map, sum}
use Rattle.std.specs.Io.KnownBytes.{Consumes, IsAtEnd}
use Rattle.std.proofs.KnownBytes.{Consumes-trans, Consumes-whole}
use Rattle.exh_format.specs.FileParts.{pages_read}
use Rattle.exh_keyer.specs.Pseudokey.{any_pseudokey}
use Rattle.exh_legal.specs.declared.Kind.TheVariants.{Merge}
use Rattle.exh_legal.specs.declared.Page.{Page}
use Rattle.exh_codec.specs.PageImage.{IsPage}
use Rattle.exh_codec.specs.CodecLaws.{ImagesAreBlocks, ImagesPass}
use Rattle.exh_format.specs.declared.file_entry.FileEntry.{FileEntry}
use Rattle.exh_format.specs.declared.file_fault.FileFault.{FileFault}
use Rattle.exh_format.specs.declared.file_fault.FileFault.TheVariants as faults
use Rattle.exh_format.specs.declared.header.Header.{Header}
use Rattle.exh_format.specs.FileVersion.{FileVersion, FitsFile, file_version, format_of, version_of}
use Rattle.exh_format.specs.FileVersionLemmas.{image_says, version_from_front}
use Rattle.exh_format.specs.HeaderImage.{IsHeader, IsHeaderImage}
use Rattle.exh_format.specs.HeaderLemmas.{small_sum}
use Rattle.exh_format.specs.BlockLaws.{TablesAreBlocks, TablesPass}
use Rattle.exh_prefix.specs.declared.version.Version.{Version as KnownVersion}
use Rattle.exh_prefix.specs.Layout.{layout}
use Rattle.exh_prefix.specs.LayoutLemmas.{layout_short}
use Rattle.exh_format.specs.FileTests.{End, FileFailsFirst, HeaderFails, IsFault, IsFileFault, NextFails, PassesAt, bytes_from, page_places, places_behind, table_places}
use Rattle.exh_format.specs.PageFile.{IsPageFile, PageFile, header_block, page_block, pages_of, table_blocks, table_bytes}
use Rattle.exh_format.specs.Reading.{AreBytes, FailsInPages, FailsInTable, GivesEntries, GivesPages, IsAll, IsBlock}
use Rattle.exh_prefix.specs.PrefixListLemmas.{AllByRecursion-append}
use Rattle.exh_format.proofs.Places.{block_there, fails_behind, fails_here, from_next, pages_behind, pages_fail, pages_pass}
use Rattle.exh_format.proofs.TablePlaces.{table_fails, tables_behind, tables_pass}

pub an_entry : FileEntry
an_entry = record { ward = 0; prefix = []; entry = record { number = 0; kind = Merge } }

-- ---- how many wards and pages a header counts

-- a ward has at most as many pages as there are prefixes, in every version that the code knows,
pub few_pages : (version : KnownVersion) (header : Header) → IsHeader (file_version version) header → sum (take (2 ^ header.settings.ward_bits) header.page_counts) ≤ 16 * 2 ^ LIMIT
few_pages version header valid =
    let counts = take (2 ^ header.settings.ward_bits) header.page_counts in
    omega (
      arith,
      small_sum (layout version).limit header.settings.ward_bits counts (layout_short version) valid.pages,
      length-take (2 ^ header.settings.ward_bits) header.page_counts,
      valid.counts,
      valid.wards,
    )

-- and a table as many entries
pub few_entries : (version : KnownVersion) (header : Header) → IsHeader (file_version version) header → header.entry_count < 2 ^ LIMIT
few_entries version header valid =
    let most : 2 ^ (layout version).limit ≤ 2 ^ LIMIT = pow-le-pow_right {n = 2} (omega arith) (layout_short version) in
    omega (arith, valid.entries, most)

-- ---- faults

-- what was read before a fault behind the header
pub record Headed (version : FileVersion) (old new : Option (List ℕ)) (header : Header) (block : List ℕ) : Type 0 where
  pub given : Consumes old new block
  pub image : IsHeaderImage version header block
  pub is : IsBlock block

-- a fault of the header
pub fault_of_header : (known : Option (List ℕ)) (fault : FileFault) → IfSome known (λ bytes. NextFails (λ block. HeaderFails (format_of block) block) bytes fault) → IfSome known (λ bytes. IsFault bytes fault)
fault_of_header None fault fails = tt
fault_of_header (Some bytes) fault (inl short) = inl (inl short)
fault_of_header (Some bytes) fault (inr whole) =
    inl (inr (whole.0, subst (λ (version : KnownVersion). HeaderFails (file_version version) (take 4096 bytes) fault) (version_from_front (take 4096 bytes) bytes 4096 (omega arith) refl) whole.1))

-- a fault behind it, in the version that it says
pub fault_as_said : (version : KnownVersion) (a b : Option (List ℕ)) (header : Header) (block : List ℕ) (fault : FileFault) → Headed (file_version version) a b header block
    → IfSome a (λ bytes. IsFileFault (file_version version) bytes fault) → IfSome a (λ bytes. IsFault bytes fault)
fault_as_said version None b header block fault headed fails = tt
fault_as_said version (Some bytes) None header block fault headed fails = absurd headed.given
fault_as_said version (Some bytes) (Some rest) header block fault headed fails =
    subst (λ (version : KnownVersion). IsFileFault (file_version version) bytes fault) (sym (image_says version header block rest bytes headed.image headed.given)) fails

module _ (version : FileVersion) (fits : FitsFile version) (pages_law : ImagesPass) (page_blocks : ImagesAreBlocks) (tables_law : TablesPass) (table_blocks_law : TablesAreBlocks) where
  behind_header : (bytes rest block : List ℕ) (header : Header) (fault : FileFault) → bytes ≡ block ++ rest → IsHeaderImage version header block → length block ≡ 4096
      → FileFailsFirst version (any_pseudokey header.settings.keyer) bytes (places_behind header) fault → IsFileFault version bytes fault
  behind_header bytes rest block header fault is image len fails =
      inr (header, subst (IsHeaderImage version header) (sym (block_there 0 bytes block rest is len)) image, fails)

  -- a fault among the pages
  pub fault_of_pages : (a b : Option (List ℕ)) (header : Header) (block : List ℕ) (count : ℕ) (fault : FileFault) → Headed version a b header block → count ≡ sum header.page_counts
      → IfSome b (λ bytes. FailsInPages version.images (any_pseudokey header.settings.keyer) 1 count bytes fault) → IfSome a (λ bytes. IsFileFault version bytes fault)
  fault_of_pages None b header block count fault headed all fails = tt
  fault_of_pages (Some bytes) None header block count fault headed all fails = absurd headed.given
  fault_of_pages (Some bytes) (Some rest) header block count fault headed all fails =
      let pseudo = any_pseudokey header.settings.keyer in
      let blocks = table_blocks header.entry_count in
      let pages = sum header.page_counts in
      let from : bytes_from 1 bytes ≡ rest = from_next 0 bytes block rest headed.given headed.is.0 in
      behind_header bytes rest block header fault headed.given headed.image headed.is.0
      (pages_fail version pseudo bytes fits pages_law page_blocks 1 pages (table_places (1 + pages) true blocks header.entry_count ++ End (1 + pages + blocks) ∷ []) fault
      (subst (λ (rest : List ℕ). FailsInPages version.images pseudo 1 pages rest fault) (sym from) (subst (λ (count : ℕ). FailsInPages version.images pseudo 1 count rest fault) all fails)))

  -- all pages passed
  pages_passed : (bytes rest block : List ℕ) (header : Header) (pages : List Page) → bytes ≡ block ++ (flat_map page_block pages ++ rest) → length block ≡ 4096 → length pages ≡ sum header.page_counts
      → AllByRecursion (IsPage version.images (any_pseudokey header.settings.keyer)) pages → AreBytes (flat_map page_block pages)
      → AllByRecursion (PassesAt version (any_pseudokey header.settings.keyer) bytes) (page_places 1 (sum header.page_counts)) × (bytes_from (1 + sum header.page_counts) bytes ≡ rest)
  pages_passed bytes rest block header pages is len all valid small =
      let pseudo = any_pseudokey header.settings.keyer in
      let from : bytes_from 1 bytes ≡ flat_map page_block pages ++ rest = from_next 0 bytes block (flat_map page_block pages ++ rest) is len in (
        subst (λ (count : ℕ). AllByRecursion (PassesAt version pseudo bytes) (page_places 1 count)) all (pages_pass version pseudo bytes fits pages_law page_blocks 1 pages rest valid small from),
        subst (λ (count : ℕ). bytes_from (1 + count) bytes ≡ rest) all (pages_behind version pseudo bytes fits pages_law page_blocks 1 pages rest valid from),
      )

  -- a fault in the table
  pub fault_of_table : (a b c : Option (List ℕ)) (header : Header) (block : List ℕ) (pages : List Page) (place count : ℕ) (fault : FileFault) → Headed version a b header block → GivesPages version.images (any_pseudokey header.settings.keyer) b c pages
      → length pages ≡ sum header.page_counts → place ≡ 1 + sum header.page_counts → count ≡ header.entry_count
      → IfSome c (λ bytes. FailsInTable version.images place count bytes fault) → IfSome a (λ bytes. IsFileFault version bytes fault)
  fault_of_table None b c header block pages place count fault headed gives all there many fails = tt
  fault_of_table (Some bytes) None c header block pages place count fault headed gives all there many fails = absurd headed.given
  fault_of_table (Some bytes) (Some mid) None header block pages place count fault headed gives all there many fails = absurd gives.given
  fault_of_table (Some bytes) (Some mid) (Some rest) header block pages place count fault headed gives all there many fails =
      let pseudo = any_pseudokey header.settings.keyer in
      let whole : bytes ≡ block ++ (flat_map page_block pages ++ rest) = headed.given ∙ ap (λ (rest : List ℕ). block ++ rest) gives.given in
      let passed = pages_passed bytes rest block header pages whole headed.is.0 all gives.valid gives.are_bytes in
      let here : FailsInTable version.images (1 + sum header.page_counts) header.entry_count (bytes_from (1 + sum header.page_counts) bytes) fault =
      subst (λ (rest : List ℕ). FailsInTable version.images (1 + sum header.page_counts) header.entry_count rest fault) (sym passed.1)
      (subst (λ (place : ℕ). FailsInTable version.images place header.entry_count rest fault) there (subst (λ (count : ℕ). FailsInTable version.images place count rest fault) many fails)) in
      behind_header bytes mid block header fault headed.given headed.image headed.is.0
      (fails_behind version pseudo bytes (page_places 1 (sum header.page_counts)) _ fault passed.0
      (table_fails version pseudo bytes fits tables_law table_blocks_law (1 + sum header.page_counts) header.entry_count (End (1 + sum header.page_counts + table_blocks header.entry_count) ∷ []) fault an_entry here))

  -- a byte behind the table
  pub fault_of_end : (a b c e : Option (List ℕ)) (header : Header) (block : List ℕ) (pages : List Page) (entries : List FileEntry) (fault : FileFault) → Headed version a b header block
      → GivesPages version.images (any_pseudokey header.settings.keyer) b c pages → GivesEntries version.images c e (table_blocks header.entry_count) entries
      → length pages ≡ sum header.page_counts → length entries ≡ header.entry_count
      → IfSome e (λ bytes. (0 < length bytes) × (fault ≡ faults.Trailing)) → IfSome a (λ bytes. IsFileFault version bytes fault)
  fault_of_end None b c e header block pages entries fault headed gives entries_given all many fails = tt
  fault_of_end (Some bytes) None c e header block pages entries fault headed gives entries_given all many fails = absurd headed.given
  fault_of_end (Some bytes) (Some mid) None e header block pages entries fault headed gives entries_given all many fails = absurd gives.given
  fault_of_end (Some bytes) (Some mid) (Some late) None header block pages entries fault headed gives entries_given all many fails = absurd entries_given.given
  fault_of_end (Some bytes) (Some mid) (Some late) (Some rest) header block pages entries fault headed gives entries_given all many fails =
      let pseudo = any_pseudokey header.settings.keyer in
      let count = header.entry_count in
      let blocks = table_blocks count in
      let place = 1 + sum header.page_counts in
      let whole : bytes ≡ block ++ (flat_map page_block pages ++ late) = headed.given ∙ ap (λ (rest : List ℕ). block ++ rest) gives.given in
      let passed = pages_passed bytes late block header pages whole headed.is.0 all gives.valid gives.are_bytes in
      let from : bytes_from place bytes ≡ table_bytes version.images blocks entries ++ rest = passed.1 ∙ entries_given.given in
      let tables = subst (λ (count : ℕ). AllByRecursion (PassesAt version pseudo bytes) (table_places place true blocks count)) many
      (tables_pass version pseudo bytes fits tables_law table_blocks_law place true None blocks entries rest an_entry (omega (arith, many))
      (record { valid = entries_given.valid; rising = entries_given.rising; small = entries_given.are_bytes; is_before = refl; whole = from })) in
      let last : bytes_from (place + blocks) bytes ≡ rest = tables_behind version pseudo bytes fits tables_law table_blocks_law place true None blocks entries rest entries_given.valid from in
      behind_header bytes mid block header fault headed.given headed.image headed.is.0
      (fails_behind version pseudo bytes (page_places 1 (sum header.page_counts)) _ fault passed.0
      (fails_behind version pseudo bytes (table_places place true blocks count) _ fault tables
      (fails_here version pseudo bytes (End (place + blocks)) [] fault (omega (arith, ap length last, fails.0), fails.1))))

-- ---- a file that was read

-- the pages of each ward, as many as its count
pub counted : {W : Type 0} (own : W → List Page) (wards : List W) → map length (map own wards) ≡ map (λ ward. length (own ward)) wards
counted own [] = refl
counted own (ward ∷ wards) = ap (λ (rest : List ℕ). length (own ward) ∷ rest) (counted own wards)

pub all_pages : {W : Type 0} (own : W → List Page) (wards : List W) → length (pages_read own wards) ≡ sum (map (λ ward. length (own ward)) wards)
all_pages own [] = refl
all_pages own (ward ∷ wards) = omega (arith, length-append (own ward) (pages_read own wards), sum_by-cons (λ (count : ℕ). count) (length (own ward)) (map (λ ward. length (own ward)) wards), all_pages own wards)

module _ {W : Type 0} (own : W → List Page) (version : FileVersion) (a b c e : Option (List ℕ)) (header : Header) (block : List ℕ) (wards : List W) (entries : List FileEntry) where
  pub file_from : Headed version a b header block → GivesPages version.images (any_pseudokey header.settings.keyer) b c (pages_read own wards) → GivesEntries version.images c e (table_blocks header.entry_count) entries
      → map (λ ward. length (own ward)) wards ≡ take (2 ^ header.settings.ward_bits) header.page_counts → length entries ≡ header.entry_count → IsAtEnd e
      → (bytes : List ℕ) × IsAll a bytes × AreBytes bytes × IsPageFile version (record { header = header; wards = map own wards; entries = entries }) bytes
  unfolding header_block
  file_from headed gives given counts count end =
      let blocks = flat_map page_block (pages_read own wards) in
      let table = table_bytes version.images (table_blocks header.entry_count) entries in
      let bytes = block ++ (blocks ++ table) in
      let pages : pages_of (map own wards) ≡ pages_read own wards = flat_map-map (λ (ward : List Page). ward) own wards in
      let consumed : Consumes a e bytes = Consumes-trans a b e block (blocks ++ table) headed.given (Consumes-trans b c e blocks table gives.given given.given) in
      let file : PageFile = record { header = header; wards = map own wards; entries = entries } in (
        bytes,
        Consumes-whole a e bytes (λ all. all ≡ bytes) consumed end refl,
        AllByRecursion-append (λ (byte : ℕ). byte < 256) block (blocks ++ table) headed.is.1 (AllByRecursion-append (λ (byte : ℕ). byte < 256) blocks table gives.are_bytes given.are_bytes),
        record {
          valid = record {
            header = headed.image.valid;
            counts = counted own wards ∙ counts;
            pages = subst (AllByRecursion (IsPage version.images (any_pseudokey header.settings.keyer))) (sym pages) gives.valid;
            count = count;
            entries = given.valid;
            rising = given.rising;
          };
          whole = (λ i. headed.image.whole i ++ (flat_map page_block (sym pages i) ++ table_bytes version.images (table_blocks (sym count i)) entries));
        },
      )

-- bytes of a file in a version say it
pub file_as_said : (version : KnownVersion) (known : Option (List ℕ)) (file : PageFile)
    → (bytes : List ℕ) × IsAll known bytes × AreBytes bytes × IsPageFile (file_version version) file bytes → (bytes : List ℕ) × IsAll known bytes × AreBytes bytes × IsPageFile (format_of bytes) file bytes
unfolding header_block
file_as_said version known file read =
    let bytes = read.0 in
    let is = read.3 in
    let rest = flat_map page_block (pages_of file.wards) ++ table_bytes (layout version) (table_blocks (length file.entries)) file.entries in
    let said : version_of bytes ≡ version = image_says version file.header (header_block (file_version version) file.header) rest bytes (record { valid = is.valid.header; whole = refl }) is.whole in
    (bytes, read.1, read.2, subst (λ (version : KnownVersion). IsPageFile (file_version version) file bytes) (sym said) is)
