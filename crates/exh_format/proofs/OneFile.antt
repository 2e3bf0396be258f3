-- Bytes are those of one file.
use Rattle.std.proofs.Common.{◌≡◌, ℕ, zero, suc, ◌*◌, ◌^◌, ◌≤◌, List, [], ◌∷◌, ◌++◌, length, map, take, drop, refl, sym, ap, ◌∙◌, subst, append_assoc, take-append-drop, arith}
use Rattle.std.proofs.lemmas.List.{take_at, drop_at, length-take, length-drop}
use Rattle.std.specs.List.{AllByRecursion, flat_map, sum}
use Rattle.exh_keyer.specs.Pseudokey.{any_pseudokey}
use Rattle.exh_prefix.specs.Version.{Fits}
use Rattle.exh_legal.specs.declared.Page.{Page}
use Rattle.exh_codec.specs.PageImage.{IsImage, IsPage}
use Rattle.exh_codec.specs.CodecLaws.{ImagesAreBlocks, OnePage}
use Rattle.exh_format.specs.declared.file_entry.FileEntry.{FileEntry}
use Rattle.exh_format.specs.declared.header.Header.{Header}
use Rattle.exh_format.specs.FileVersion.{FileVersion, FitsFile}
use Rattle.exh_format.specs.HeaderImage.{IsHeaderImage}
use Rattle.exh_format.specs.BlockLaws.{HeadersAreBlocks, OneHeader, OneTable, TablesAreBlocks}
use Rattle.exh_format.specs.TableImage.{IsFileEntry, IsTableImage}
use Rattle.exh_format.specs.ReadingLemmas.{length-pages_of}
use Rattle.exh_format.specs.PageFile.{IsFile, IsPageFile, PageFile, header_block, page_block, pages_of, table_block, table_blocks, table_bytes}
use Rattle.exh_prefix.specs.PrefixListLemmas.{AllByRecursion-append_left, AllByRecursion-append_right}

-- bytes that begin with one of two blocks
pub same_fronts : (one other rest after : List ℕ) → length one ≡ 4096 → length other ≡ 4096 → one ++ rest ≡ other ++ after → (one ≡ other) × (rest ≡ after)
same_fronts one other rest after first second same = (
  sym (take_at one rest 4096 first) ∙ ap (take 4096) same ∙ take_at other after 4096 second,
  sym (drop_at one rest 4096 first) ∙ ap (drop 4096) same ∙ drop_at other after 4096 second,
)

-- lists of pages, of so many each
cut_front : (one other rest after : List Page) → length one ≡ length other → one ++ rest ≡ other ++ after → (one ≡ other) × (rest ≡ after)
cut_front one other rest after len same = (
  sym (take_at one rest (length one) refl) ∙ ap (take (length one)) same ∙ take_at other after (length one) (sym len),
  sym (drop_at one rest (length one) refl) ∙ ap (drop (length one)) same ∙ drop_at other after (length one) (sym len),
)

pub same_wards : (one other : List (List Page)) → map length one ≡ map length other → pages_of one ≡ pages_of other → one ≡ other
same_wards [] [] counts same = refl
same_wards [] (ward ∷ other) counts same = cc
same_wards (ward ∷ one) [] counts same = cc
same_wards (first ∷ one) (second ∷ other) counts same =
    let head : length first ≡ length second = cc in
    let tail : map length one ≡ map length other = cc in
    let parts = cut_front first second (pages_of one) (pages_of other) head same in
    let rest = same_wards one other tail parts.1 in
    (λ i. parts.0 i ∷ rest i)

module _ (version : FileVersion) (fits : FitsFile version) (page_blocks : ImagesAreBlocks) (one_page : OnePage) (header_blocks : HeadersAreBlocks) (one_header : OneHeader) (table_blocks_law : TablesAreBlocks) (one_table : OneTable) where
  pub same_pages : (pseudo : List ℕ → ℕ) (one other : List Page) (rest after : List ℕ) → length one ≡ length other → AllByRecursion (IsPage version.images pseudo) one → AllByRecursion (IsPage version.images pseudo) other
      → flat_map page_block one ++ rest ≡ flat_map page_block other ++ after → (one ≡ other) × (rest ≡ after)
  unfolding page_block
  same_pages pseudo [] [] rest after len first second same = (refl, same)
  same_pages pseudo [] (q ∷ other) rest after len first second same = absurd (omega (arith, len))
  same_pages pseudo (p ∷ one) [] rest after len first second same = absurd (omega (arith, len))
  same_pages pseudo (p ∷ one) (q ∷ other) rest after len first second same =
      let p_image : IsImage version.images pseudo p (page_block p) = record { valid = first.0; whole = refl } in
      let q_image : IsImage version.images pseudo q (page_block q) = record { valid = second.0; whole = refl } in
      let fits_page : Fits 8 version.images = record { limit = fits.images.limit; bytes = omega (arith, fits.images.bytes) } in
      let heads = same_fronts (page_block p) (page_block q) (flat_map page_block one ++ rest) (flat_map page_block other ++ after)
      (page_blocks version.images pseudo p (page_block p) p_image) (page_blocks version.images pseudo q (page_block q) q_image)
      (sym (append_assoc (page_block p) (flat_map page_block one) rest) ∙ same ∙ append_assoc (page_block q) (flat_map page_block other) after) in
      let page : p ≡ q = one_page version.images fits_page pseudo (page_block q) p q (subst (IsImage version.images pseudo p) heads.0 p_image) q_image in
      let tails = same_pages pseudo one other rest after (omega (arith, len)) first.1 second.1 heads.1 in
      ((λ i. page i ∷ tails.0 i), tails.1)

  pub same_tables : (blocks : ℕ) (one other : List FileEntry) (rest after : List ℕ) → length one ≡ length other → length one ≤ 254 * blocks → AllByRecursion (IsFileEntry version.images) one → AllByRecursion (IsFileEntry version.images) other
      → table_bytes version.images blocks one ++ rest ≡ table_bytes version.images blocks other ++ after → one ≡ other
  unfolding table_block
  same_tables zero [] [] rest after len room first second same = refl
  same_tables zero (p ∷ one) other rest after len room first second same = absurd (omega (arith, room))
  same_tables zero [] (q ∷ other) rest after len room first second same = absurd (omega (arith, len))
  same_tables (suc blocks) one other rest after len room first second same =
      let front = take 254 one in
      let opposite = take 254 other in
      let few : length front ≤ 254 = omega (arith, length-take 254 one) in
      let opposite_few : length opposite ≤ 254 = omega (arith, length-take 254 other) in
      let parts = subst (AllByRecursion (IsFileEntry version.images)) (sym (take-append-drop 254 one)) first in
      let opposite_parts = subst (AllByRecursion (IsFileEntry version.images)) (sym (take-append-drop 254 other)) second in
      let image : IsTableImage version.images front (table_block version.images front) = record { few = few; valid = AllByRecursion-append_left (IsFileEntry version.images) front (drop 254 one) parts; whole = refl } in
      let opposite_image : IsTableImage version.images opposite (table_block version.images opposite) =
      record { few = opposite_few; valid = AllByRecursion-append_left (IsFileEntry version.images) opposite (drop 254 other) opposite_parts; whole = refl } in
      let more = table_bytes version.images blocks (drop 254 one) in
      let opposite_more = table_bytes version.images blocks (drop 254 other) in
      let heads = same_fronts (table_block version.images front) (table_block version.images opposite) (more ++ rest) (opposite_more ++ after)
      (table_blocks_law version.images fits.images front (table_block version.images front) image) (table_blocks_law version.images fits.images opposite (table_block version.images opposite) opposite_image)
      (sym (append_assoc (table_block version.images front) more rest) ∙ same ∙ append_assoc (table_block version.images opposite) opposite_more after) in
      let here : front ≡ opposite = one_table version.images fits.images (table_block version.images opposite) front opposite (subst (IsTableImage version.images front) heads.0 image) opposite_image in
      let tails = same_tables blocks (drop 254 one) (drop 254 other) rest after (omega (arith, length-drop 254 one, length-drop 254 other, len)) (omega (arith, length-drop 254 one, room))
      (AllByRecursion-append_right (IsFileEntry version.images) front (drop 254 one) parts) (AllByRecursion-append_right (IsFileEntry version.images) opposite (drop 254 other) opposite_parts) heads.1 in
      sym (take-append-drop 254 one) ∙ (λ i. here i ++ tails i) ∙ take-append-drop 254 other

  -- the wards' pages, as many as the header counts
  pages_counted : (file : PageFile) → IsFile version file → length (pages_of file.wards) ≡ sum (take (2 ^ file.header.settings.ward_bits) file.header.page_counts)
  pages_counted file valid = length-pages_of file.wards ∙ ap sum valid.counts

  made : Header → List (List Page) → List FileEntry → PageFile
  made header wards entries = record { header = header; wards = wards; entries = entries }

  pub one_file : (one other : PageFile) (bytes : List ℕ) → IsPageFile version one bytes → IsPageFile version other bytes → one ≡ other
  unfolding header_block made
  one_file one other bytes first second =
      let one_image : IsHeaderImage version one.header (header_block version one.header) = record { valid = first.valid.header; whole = refl } in
      let other_image : IsHeaderImage version other.header (header_block version other.header) = record { valid = second.valid.header; whole = refl } in
      let pages = flat_map page_block (pages_of one.wards) in
      let other_pages = flat_map page_block (pages_of other.wards) in
      let blocks = table_blocks (length one.entries) in
      let table = table_bytes version.images blocks one.entries in
      let other_table = table_bytes version.images (table_blocks (length other.entries)) other.entries in
      let heads = same_fronts (header_block version one.header) (header_block version other.header) (pages ++ table) (other_pages ++ other_table)
      (header_blocks version one.header (header_block version one.header) one_image) (header_blocks version other.header (header_block version other.header) other_image)
      (sym first.whole ∙ second.whole) in
      let header : one.header ≡ other.header = one_header version fits (header_block version other.header) one.header other.header (subst (IsHeaderImage version one.header) heads.0 one_image) other_image in
      let counts : map length one.wards ≡ map length other.wards = first.valid.counts ∙ ap (λ (header : Header). take (2 ^ header.settings.ward_bits) header.page_counts) header ∙ sym second.valid.counts in
      let many : length (pages_of one.wards) ≡ length (pages_of other.wards) = length-pages_of one.wards ∙ ap sum counts ∙ sym (length-pages_of other.wards) in
      let valid = subst (λ (header : Header). AllByRecursion (IsPage version.images (any_pseudokey header.settings.keyer)) (pages_of one.wards)) header first.valid.pages in
      let middle = same_pages (any_pseudokey other.header.settings.keyer) (pages_of one.wards) (pages_of other.wards) table other_table many valid second.valid.pages heads.1 in
      let wards : one.wards ≡ other.wards = same_wards one.wards other.wards counts middle.0 in
      let count : length one.entries ≡ length other.entries = first.valid.count ∙ ap (λ (header : Header). header.entry_count) header ∙ sym second.valid.count in
      let tables : table ++ [] ≡ table_bytes version.images blocks other.entries ++ [] =
      ap (λ (table : List ℕ). table ++ []) (middle.1 ∙ ap (λ (count : ℕ). table_bytes version.images (table_blocks count) other.entries) (sym count)) in
      let entries : one.entries ≡ other.entries = same_tables blocks one.entries other.entries [] [] count (omega arith) first.valid.entries second.valid.entries tables in
      (λ i. made (header i) (wards i) (entries i))
