-- The blocks of a file by their places.
use Rattle.std.proofs.Common.{◌≡◌, ℕ, zero, suc, ◌+◌, ◌*◌, ◌<◌, ◌≤◌, ◌^◌, List, [], ◌∷◌, ◌++◌, length, map, take, drop, slice_get, Some, refl, sym, ap, ◌∙◌, subst, append_assoc, append-nil, arith}
use Rattle.std.proofs.lemmas.List.{drop-drop, length-take, take-map, take-take}
use Rattle.std.proofs.lemmas.List.Sums.{sum_by-cons}
use Rattle.std.specs.List.{AllByRecursion, flat_map, sum}
use Rattle.exh_keyer.specs.Pseudokey.{any_pseudokey}
use Rattle.exh_page.specs.declared.page.Page.{Page}
use Rattle.exh_format.specs.MapLemmas.{page_at}
use Rattle.exh_codec.specs.CodecLaws.{ImagesAreBlocks}
use Rattle.exh_codec.specs.PageImage.{IsImage, IsPage}
use Rattle.exh_format.specs.declared.file_entry.FileEntry.{FileEntry}
use Rattle.exh_format.specs.FileVersion.{FileVersion, FitsFile}
use Rattle.exh_format.specs.HeaderImage.{IsHeaderImage}
use Rattle.exh_format.specs.HeaderLemmas.{all_counted}
use Rattle.exh_format.specs.BlockLaws.{HeadersAreBlocks, TablesAreBlocks}
use Rattle.exh_format.specs.TableImage.{IsFileEntry, IsTableImage}
use Rattle.exh_format.specs.FileTests.{block_at, bytes_from}
use Rattle.exh_format.specs.PageFile.{IsPageFile, PageFile, header_block, page_block, pages_of, table_block, table_blocks, table_bytes}
use Rattle.exh_format.specs.ReadingLemmas.{length-pages_of}
use Rattle.exh_direct.specs.DirectAnswer.{page_place}
use Rattle.exh_direct.specs.TableSearch.{table_place}
use Rattle.exh_direct.specs.StandingBlocks.{StandsAt, behind_all, drop_next, one_of, stands}

-- the entries of one block of a table: as many as there is room for, in the last the others
abbrev pub block_of : ℕ → List FileEntry → List FileEntry
block_of number entries = take 254 (drop (254 * number) entries)

-- ---- a page among those of all wards

in_front : (xs ys : List Page) (i : ℕ) (x : Page) → slice_get xs i ≡ Some x → slice_get (xs ++ ys) i ≡ Some x
in_front [] ys i x is = cc
in_front (y ∷ xs) ys zero x is = is
in_front (y ∷ xs) ys (suc i) x is = in_front xs ys i x is

in_back : (xs ys : List Page) (i : ℕ) → slice_get (xs ++ ys) (length xs + i) ≡ slice_get ys i
in_back [] ys i = let same : 0 + i ≡ i = omega arith in ap (slice_get ys) same
in_back (y ∷ xs) ys i = let same : suc (length xs) + i ≡ suc (length xs + i) = omega arith in ap (slice_get (y ∷ xs ++ ys)) same ∙ in_back xs ys i

among_all : (wards : List (List Page)) (ward number : ℕ) (pages : List Page) (page : Page) → slice_get wards ward ≡ Some pages → slice_get pages number ≡ Some page
    → slice_get (pages_of wards) (sum (map length (take ward wards)) + number) ≡ Some page
among_all [] ward number pages page there is = cc
among_all (one ∷ wards) zero number pages page there is =
    let same : one ≡ pages = cc in
    let here : 0 + number ≡ number = omega arith in
    ap (slice_get (one ++ pages_of wards)) here ∙ in_front one (pages_of wards) number page (ap (λ (pages : List Page). slice_get pages number) same ∙ is)
among_all (one ∷ wards) (suc ward) number pages page there is =
    let more = sum (map length (take ward wards)) in
    let later : sum (length one ∷ map length (take ward wards)) + number ≡ length one + (more + number) = omega (arith, sum_by-cons (λ (count : ℕ). count) (length one) (map length (take ward wards))) in
    ap (slice_get (one ++ pages_of wards)) later ∙ in_back one (pages_of wards) (more + number) ∙ among_all wards ward number pages page there is

-- ---- a file

module _ (version : FileVersion) (fits : FitsFile version) (page_blocks : ImagesAreBlocks) (header_blocks : HeadersAreBlocks) (table_blocks_law : TablesAreBlocks) where
  length-page : (pseudo : List ℕ → ℕ) (page : Page) → IsPage version.images pseudo page → length (page_block page) ≡ 4096
  unfolding page_block
  length-page pseudo page valid = page_blocks version.images pseudo page (page_block page) (record { valid = valid; whole = refl })

  all_lengths : (pseudo : List ℕ → ℕ) (pages : List Page) → AllByRecursion (IsPage version.images pseudo) pages → AllByRecursion (λ page. length (page_block page) ≡ 4096) pages
  all_lengths pseudo [] valid = tt
  all_lengths pseudo (page ∷ pages) valid = (length-page pseudo page valid.0, all_lengths pseudo pages valid.1)

  pub table_image : (entries : List FileEntry) → length entries ≤ 254 → AllByRecursion (IsFileEntry version.images) entries → IsTableImage version.images entries (table_block version.images entries)
  unfolding table_block
  table_image entries few valid = record { few = few; valid = valid; whole = refl }

  -- of the blocks of a table
  one_of_table : (blocks : ℕ) (i : ℕ) (entries : List FileEntry) (rest : List ℕ) → i < blocks → ((number : ℕ) → length (table_block version.images (block_of number entries)) ≡ 4096)
      → (after : List ℕ) × (drop (4096 * i) (table_bytes version.images blocks entries ++ rest) ≡ table_block version.images (block_of i entries) ++ after)
  one_of_table zero i entries rest less len = absurd (omega (arith, less))
  one_of_table (suc blocks) zero entries rest less len =
      let block = table_block version.images (take 254 entries) in
      let more = table_bytes version.images blocks (drop 254 entries) in
      (more ++ rest, append_assoc block more rest)
  one_of_table (suc blocks) (suc i) entries rest less len =
      let block = table_block version.images (take 254 entries) in
      let more = table_bytes version.images blocks (drop 254 entries) in
      let later : (number : ℕ) → block_of number (drop 254 entries) ≡ block_of (suc number) entries = λ number.
      (let next : 254 + 254 * number ≡ 254 * suc number = omega arith in ap (take 254) (drop-drop (254 * number) 254 entries ∙ ap (λ (n : ℕ). drop n entries) next)) in
      let behind = one_of_table blocks i (drop 254 entries) rest (omega (arith, less)) (λ number. ap (λ (entries : List FileEntry). length (table_block version.images entries)) (later number) ∙ len (suc number)) in (
        behind.0,
        ap (drop (4096 * suc i)) (append_assoc block more rest) ∙ drop_next i block (more ++ rest) (len 0) ∙ behind.1
            ∙ ap (λ (entries : List FileEntry). table_block version.images entries ++ behind.0) (later i),
      )

  module _ (file : PageFile) (bytes : List ℕ) (is : IsPageFile version file bytes) where
    header_image : IsHeaderImage version file.header (header_block version file.header)
    unfolding header_block
    header_image = record { valid = is.valid.header; whole = refl }

    abbrev bodies : List ℕ
    bodies = flat_map page_block (pages_of file.wards)

    abbrev tables : List ℕ
    tables = table_bytes version.images (table_blocks (length file.entries)) file.entries

    length-header : length (header_block version file.header) ≡ 4096
    length-header = header_blocks version file.header (header_block version file.header) header_image

    -- the header's block
    pub header_stands : StandsAt 0 bytes (header_block version file.header)
    header_stands = stands 0 bytes (header_block version file.header) (bodies ++ tables) is.whole length-header

    pub header_is : IsHeaderImage version file.header (block_at 0 bytes)
    header_is = subst (IsHeaderImage version file.header) (sym header_stands.is) header_image

    from : (i : ℕ) → bytes_from (suc i) bytes ≡ drop (4096 * i) (bodies ++ tables)
    from i = ap (drop (4096 * suc i)) is.whole ∙ drop_next i (header_block version file.header) (bodies ++ tables) length-header

    lengths : AllByRecursion (λ page. length (page_block page) ≡ 4096) (pages_of file.wards)
    lengths = all_lengths (any_pseudokey file.header.settings.keyer) (pages_of file.wards) is.valid.pages

    -- a page's block
    pub page_stands : (ward number : ℕ) (pages : List Page) (page : Page) → ward ≤ 2 ^ file.header.settings.ward_bits → slice_get file.wards ward ≡ Some pages → slice_get pages number ≡ Some page
        → StandsAt (page_place file.header ward number) bytes (page_block page)
    page_stands ward number pages page few there own =
        let before = sum (map length (take ward file.wards)) in
        let counted : map length (take ward file.wards) ≡ take ward file.header.page_counts =
        sym (take-map (λ (pages : List Page). length pages) ward file.wards) ∙ ap (take ward) is.valid.counts ∙ take-take ward (2 ^ file.header.settings.ward_bits) file.header.page_counts few in
        let place : suc (before + number) ≡ page_place file.header ward number = omega (arith, ap sum counted) in
        let block = one_of page_block (pages_of file.wards) (before + number) page tables lengths (among_all file.wards ward number pages page there own) in
        subst (λ (place : ℕ). StandsAt place bytes (page_block page)) place
        (stands (suc (before + number)) bytes (page_block page) block.0 (from (before + number) ∙ block.1) (all_one (pages_of file.wards) (before + number) page lengths (among_all file.wards ward number pages page there own)))
      where
        all_one : (pages : List Page) (i : ℕ) (page : Page) → AllByRecursion (λ page. length (page_block page) ≡ 4096) pages → slice_get pages i ≡ Some page → length (page_block page) ≡ 4096
        all_one [] i page all there = cc
        all_one (one ∷ pages) zero page all there = let same : one ≡ page = cc in ap (λ (page : Page). length (page_block page)) (sym same) ∙ all.0
        all_one (one ∷ pages) (suc i) page all there = all_one pages i page all.1 there

    pub page_image : (ward number : ℕ) (pages : List Page) (page : Page) → ward ≤ 2 ^ file.header.settings.ward_bits → slice_get file.wards ward ≡ Some pages → slice_get pages number ≡ Some page
        → IsImage version.images (any_pseudokey file.header.settings.keyer) page (block_at (page_place file.header ward number) bytes)
    unfolding page_block
    page_image ward number pages page few there own =
        let before = sum (map length (take ward file.wards)) in
        let valid = page_at (IsPage version.images (any_pseudokey file.header.settings.keyer)) (pages_of file.wards) (before + number) page is.valid.pages (among_all file.wards ward number pages page there own) in
        record { valid = valid; whole = (page_stands ward number pages page few there own).is }

    pub entries_of_block : (number : ℕ) → AllByRecursion (IsFileEntry version.images) (block_of number file.entries)
    entries_of_block number = all_take 254 (drop (254 * number) file.entries) (all_drop (254 * number) file.entries is.valid.entries)
      where
        all_take : (n : ℕ) (xs : List FileEntry) → AllByRecursion (IsFileEntry version.images) xs → AllByRecursion (IsFileEntry version.images) (take n xs)
        all_take zero xs all = tt
        all_take (suc n) [] all = tt
        all_take (suc n) (x ∷ xs) all = (all.0, all_take n xs all.1)

        all_drop : (n : ℕ) (xs : List FileEntry) → AllByRecursion (IsFileEntry version.images) xs → AllByRecursion (IsFileEntry version.images) (drop n xs)
        all_drop zero xs all = all
        all_drop (suc n) [] all = tt
        all_drop (suc n) (x ∷ xs) all = all_drop n xs all.1

    pub block_image : (number : ℕ) → IsTableImage version.images (block_of number file.entries) (table_block version.images (block_of number file.entries))
    block_image number = table_image (block_of number file.entries) (omega (arith, length-take 254 (drop (254 * number) file.entries))) (entries_of_block number)

    pub length-block : (number : ℕ) → length (table_block version.images (block_of number file.entries)) ≡ 4096
    length-block number = table_blocks_law version.images fits.images (block_of number file.entries) (table_block version.images (block_of number file.entries)) (block_image number)

    -- a block of the table
    pub table_stands : (number : ℕ) → number < table_blocks file.header.entry_count → StandsAt (table_place file.header + number) bytes (table_block version.images (block_of number file.entries))
    table_stands number less =
        let count = length (pages_of file.wards) in
        let all : count ≡ sum file.header.page_counts = length-pages_of file.wards ∙ ap sum is.valid.counts ∙ all_counted version file.header is.valid.header in
        let split : 4096 * (count + number) ≡ 4096 * count + 4096 * number = omega arith in
        let within : number < table_blocks (length file.entries) = subst (λ (n : ℕ). number < table_blocks n) (sym is.valid.count) less in
        let block = one_of_table (table_blocks (length file.entries)) number file.entries [] within length-block in
        let whole : bytes_from (suc (count + number)) bytes ≡ table_block version.images (block_of number file.entries) ++ block.0 =
        from (count + number) ∙ ap (λ (n : ℕ). drop n (bodies ++ tables)) split ∙ sym (drop-drop (4096 * number) (4096 * count) (bodies ++ tables))
        ∙ ap (drop (4096 * number)) (behind_all page_block (pages_of file.wards) tables lengths ∙ sym (append-nil tables)) ∙ block.1 in
        let place : suc (count + number) ≡ table_place file.header + number = omega (arith, all) in
        subst (λ (place : ℕ). StandsAt place bytes (table_block version.images (block_of number file.entries))) place
        (stands (suc (count + number)) bytes (table_block version.images (block_of number file.entries)) block.0 whole (length-block number))
