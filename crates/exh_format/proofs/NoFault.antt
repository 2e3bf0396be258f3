-- Bytes that pass all tests have no fault, and those of a file pass them.
use Rattle.std.proofs.Common.{◌≡◌, ℕ, ◌+◌, ◌<◌, ◌≤◌, inl, inr, true, List, [], ◌∷◌, ◌++◌, length, take, slice_index, None, refl, sym, ap, ◌∙◌, subst, append-nil, arith}
use Rattle.std.proofs.lemmas.List.{get_or-take, get_or_past, length-take, length-take-le}
use Rattle.std.proofs.lemmas.Bool.{cases_lt}
use Rattle.std.specs.List.{AllByRecursion, flat_map, sum}
use Rattle.exh_keyer.specs.Pseudokey.{any_pseudokey}
use Rattle.exh_codec.specs.ImageTestLemmas.{none_first as none_image_first}
use Rattle.exh_codec.specs.CodecLaws.{ImagesAreBlocks, ImagesPass}
use Rattle.exh_format.specs.declared.file_fault.FileFault.{FileFault}
use Rattle.exh_format.specs.declared.header.Header.{Header}
use Rattle.exh_format.specs.FileVersion.{FileVersion, FitsFile}
use Rattle.exh_format.specs.FirstFailingLemmas.{none_first}
use Rattle.exh_format.specs.HeaderImage.{IsHeaderImage}
use Rattle.exh_format.specs.HeaderLemmas.{all_counted}
use Rattle.exh_format.specs.BlockLaws.{HeadersAreBlocks, HeadersPass, OneHeader, TablesAreBlocks, TablesPass}
use Rattle.exh_format.specs.FileTests.{End, FailsAt, FileFailsFirst, HeaderFails, IsFileFault, NextFails, OfPage, OfTable, PageFails, PassesAt, PassesFile, FilePlace, block_at, bytes_from, page_places, prefix_before, TableFails, places_behind, table_places}
use Rattle.exh_format.specs.PageFile.{IsPageFile, PageFile, header_block, page_block, pages_of, table_blocks, table_bytes}
use Rattle.exh_format.specs.Reading.{AreBytes}
use Rattle.exh_prefix.specs.PrefixListLemmas.{AllByRecursion-append, AllByRecursion-append_left, AllByRecursion-append_right}
use Rattle.exh_format.specs.ReadingLemmas.{byte_at, length-pages_of}
use Rattle.exh_format.proofs.Files.{an_entry}
use Rattle.exh_format.proofs.Places.{block_there, from_next, pages_behind, pages_pass, whole_there}
use Rattle.exh_format.proofs.TablePlaces.{tables_behind, tables_pass}

none_next : (Fails : List ℕ → FileFault → Type 0) (bytes : List ℕ) (fault : FileFault) → 4096 ≤ length bytes → (Fails (take 4096 bytes) fault → ⊥) → NextFails Fails bytes fault → ⊥
none_next Fails bytes fault long none (inl cut) = omega (arith, cut.0, long)
none_next Fails bytes fault long none (inr fails) = none fails.1

none_at : (version : FileVersion) (pseudo : List ℕ → ℕ) (bytes : List ℕ) (place : FilePlace) (fault : FileFault) → PassesAt version pseudo bytes place → FailsAt version pseudo bytes place fault → ⊥
none_at version pseudo bytes (OfPage place) fault passes fails =
    none_next (PageFails version.images pseudo place) (bytes_from place bytes) fault passes.0 (λ (named : PageFails version.images pseudo place (block_at place bytes) fault). none_image_first _ _ named.0 named.1 passes.1) fails
none_at version pseudo bytes (OfTable place begins count) fault passes fails =
    none_next (TableFails version.images place count (prefix_before version.images place begins bytes)) (bytes_from place bytes) fault passes.0 (λ (named : TableFails version.images place count (prefix_before version.images place begins bytes) (block_at place bytes) fault). none_first _ _ named.1.0 named.1.1 passes.1) fails
none_at version pseudo bytes (End place) fault passes fails = omega (arith, ap length passes, fails.0)

none_among : (version : FileVersion) (pseudo : List ℕ → ℕ) (bytes : List ℕ) (places : List FilePlace) (fault : FileFault) → AllByRecursion (PassesAt version pseudo bytes) places → FileFailsFirst version pseudo bytes places fault → ⊥
none_among version pseudo bytes places fault all first =
    none_at version pseudo bytes first.place fault (AllByRecursion-append_right (PassesAt version pseudo bytes) first.before (first.place ∷ first.after) (subst (AllByRecursion (PassesAt version pseudo bytes)) first.stands all)).0 first.fails

bytes_at : (bytes : List ℕ) → AreBytes bytes → (k : ℕ) → slice_index (take 4096 bytes) k < 256
bytes_at bytes small k = elim (cases_lt k 4096) [
  | inl within ↦ rw (get_or-take 4096 bytes k 0 within) (byte_at bytes small k)
  | inr past ↦ rw (get_or_past (take 4096 bytes) k 0 (omega (arith, past, length-take 4096 bytes))) (omega arith)
]

pub no_fault : (headers : HeadersPass) (one_header : OneHeader) (version : FileVersion) → FitsFile version → (header : Header) (bytes : List ℕ) (fault : FileFault) → AreBytes bytes → PassesFile version bytes header → IsFileFault version bytes fault → ⊥
no_fault headers one_header version fits header bytes fault small passes (inl fails) =
    none_next (HeaderFails version) bytes fault passes.0
    (λ first. none_first _ _ fault first ((headers version fits (take 4096 bytes) (length-take-le 4096 bytes passes.0) (bytes_at bytes small)).0 (header, passes.1))) fails
no_fault headers one_header version fits header bytes fault small passes (inr fails) =
    let same : header ≡ fails.0 = one_header version fits (block_at 0 bytes) header fails.0 passes.1 fails.1 in
    none_among version (any_pseudokey fails.0.settings.keyer) bytes (places_behind fails.0) fault
    (subst (λ (header : Header). AllByRecursion (PassesAt version (any_pseudokey header.settings.keyer) bytes) (places_behind header)) same passes.2) fails.2

module _ (version : FileVersion) (fits : FitsFile version) (pages_law : ImagesPass) (page_blocks : ImagesAreBlocks) (header_blocks : HeadersAreBlocks) (tables_law : TablesPass) (table_blocks_law : TablesAreBlocks) where
  pub file_passes : (file : PageFile) (bytes : List ℕ) → AreBytes bytes → IsPageFile version file bytes → PassesFile version bytes file.header
  unfolding header_block
  file_passes file bytes small is =
      let header = file.header in
      let pseudo = any_pseudokey header.settings.keyer in
      let entries = file.entries in
      let block = header_block version header in
      let image : IsHeaderImage version header block = record { valid = is.valid.header; whole = refl } in
      let len : length block ≡ 4096 = header_blocks version header block image in
      let pages = pages_of file.wards in
      let blocks = table_blocks (length entries) in
      let bodies = flat_map page_block pages in
      let table = table_bytes version.images blocks entries in
      let all : length pages ≡ sum header.page_counts = length-pages_of file.wards ∙ ap sum is.valid.counts ∙ all_counted version header is.valid.header in
      let parts : AreBytes (block ++ (bodies ++ table)) = subst AreBytes is.whole small in
      let behind : AreBytes (bodies ++ table) = AllByRecursion-append_right (λ (byte : ℕ). byte < 256) block (bodies ++ table) parts in
      let from : bytes_from 1 bytes ≡ bodies ++ table = from_next 0 bytes block (bodies ++ table) is.whole len in
      let pages_passed = pages_pass version pseudo bytes fits pages_law page_blocks 1 pages table is.valid.pages (AllByRecursion-append_left (λ (byte : ℕ). byte < 256) bodies table behind) from in
      let place = 1 + length pages in
      let late : bytes_from place bytes ≡ table ++ [] = pages_behind version pseudo bytes fits pages_law page_blocks 1 pages table is.valid.pages from ∙ sym (append-nil table) in
      let tables = tables_pass version pseudo bytes fits tables_law table_blocks_law place true None blocks entries [] an_entry (omega arith)
      (record { valid = is.valid.entries; rising = is.valid.rising; small = AllByRecursion-append_right (λ (byte : ℕ). byte < 256) bodies table behind; is_before = refl; whole = late }) in
      let last : bytes_from (place + blocks) bytes ≡ [] = tables_behind version pseudo bytes fits tables_law table_blocks_law place true None blocks entries [] is.valid.entries late in
      let places : (pages count : ℕ) → List FilePlace = λ pages count. page_places 1 pages ++ (table_places (1 + pages) true (table_blocks count) count ++ End (1 + pages + table_blocks count) ∷ []) in
      let passed = AllByRecursion-append (PassesAt version pseudo bytes) (page_places 1 (length pages)) _ pages_passed (AllByRecursion-append (PassesAt version pseudo bytes) (table_places place true blocks (length entries)) (End (place + blocks) ∷ []) tables (last, tt)) in (
        whole_there 0 bytes block (bodies ++ table) is.whole len,
        subst (IsHeaderImage version header) (sym (block_there 0 bytes block (bodies ++ table) is.whole len)) image,
        subst (λ (count : ℕ). AllByRecursion (PassesAt version pseudo bytes) (places (sum header.page_counts) count)) is.valid.count
            (subst (λ (pages : ℕ). AllByRecursion (PassesAt version pseudo bytes) (places pages (length entries))) all passed),
      )
