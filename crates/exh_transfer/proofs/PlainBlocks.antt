-- The blocks of a file of version 1 or 2.
use Rattle.std.proofs.Common.{◌≡◌, ℕ, zero, suc, ◌+◌, ◌*◌, ◌-◌, ◌/◌, ◌^◌, ◌<◌, ◌≤◌, ◌⊎◌, inl, inr, Bool, List, [], ◌∷◌, ◌++◌, Option, Some, None, flat_map, length, map, take, drop, replicate, slice_index, refl, sym, ap, ◌∙◌, subst, append_assoc, append-nil, arith}
use Rattle.std.proofs.lemmas.Bool.{cases_lt}
use Rattle.std.proofs.lemmas.List.{length-append, length-drop, length-take}
use Rattle.std.proofs.lemmas.List.Concat.{flat_map-append}
use Rattle.std.specs.List.{AllByRecursion}
use Rattle.sha2.specs.Sha256.{sha256}
use Rattle.byteorder.specs.Endian.{big_bytes, big_from}
use Rattle.byteorder.specs.Numbers.{big_number-reads_back}
use Rattle.exh_prefix.specs.Bits.{number_of}
use Rattle.exh_prefix.specs.BitLemmas.{number_of-lt}
use Rattle.exh_prefix.specs.Layout.{layout}
use Rattle.exh_prefix.specs.LayoutLemmas.{layout_fits}
use Rattle.exh_prefix.specs.LowLemmas.{low_of-small}
use Rattle.exh_prefix.specs.Prefix.{low_of}
use Rattle.exh_prefix.specs.PrefixLemmas.{low_of-product}
use Rattle.exh_prefix.specs.Version.{Fits, Version, four_bytes}
use Rattle.exh_prefix.specs.declared.version.Version.{Version as KnownVersion}
use Rattle.exh_keyer.specs.Pseudokey.{any_pseudokey}
use Rattle.exh_notice.specs.ImageLemmas.{length-entry_image, same_in_four}
use Rattle.exh_notice.specs.NoticeByteLemmas.{big_from-add, big_from-drop}
use Rattle.exh_notice.specs.NoticeImages.{entry_image, kind_byte, prefix_field, right_field}
use Rattle.exh_notice.specs.declared.entry.Entry.{Entry}
use Rattle.exh_notice.specs.declared.entry.Kind.{Kind}
use Rattle.exh_notice.specs.declared.entry.Kind.TheVariants.{Merge, Split}
use Rattle.exh_page.specs.Page.{records_of}
use Rattle.exh_page.specs.KeyMap.{pair_of}
use Rattle.exh_page.specs.declared.page.Page.{Page}
use Rattle.exh_page.specs.declared.page.Page.TheVariants.{Forward, Live}
use Rattle.exh_page.specs.declared.record.Record.{Record}
use Rattle.exh_codec.specs.Block.{sealed}
use Rattle.exh_codec.specs.Cells.{Pair, pair_image}
use Rattle.exh_codec.specs.CodecLaws.{ImagesAreBlocks}
use Rattle.exh_codec.specs.Head.{head_bytes, head_of}
use Rattle.exh_codec.specs.PageImage.{content_of, padded, used_of}
use Rattle.exh_salvage.specs.SavedBlock.{IsNoPage, IsPageBlock, pairs_of}
use Rattle.exh_salvage.specs.SavedLaws.{PagesAreSaved}
use Rattle.exh_salvage.specs.WholeLaws.{WholeFilesAreSaved, pairs_within}
use Rattle.exh_salvage.specs.declared.salvage.Salvage.{Salvage}
use Rattle.exh_format.specs.FileVersion.{file_version}
use Rattle.exh_format.specs.LegalFile.{IsLegalPageFile}
use Rattle.exh_format.specs.PageFile.{PageFile, file_bytes, header_block, page_block, pages_of, table_block, table_blocks, table_bytes}
use Rattle.exh_format.specs.TableImage.{IsFileEntry, image_of}
use Rattle.exh_format.specs.declared.file_entry.FileEntry.{FileEntry}
use Rattle.exh_transfer.specs.SalvageLaws.{HasFewChanges, IsOfAll, SavesJust}
use Rattle.exh_transfer.proofs.SavedBlocks.{AreBlocks, IsBlockOf, joined, one_block, pairs_of_some, saved}
use Rattle.exh_transfer.proofs.PlacedBlocks.{all_drop, all_take, pages_are}
use Rattle.exh_transfer.proofs.NoPages.{first_zero, header_is, sealed_block}
use Rattle.exh_transfer.proofs.EntryNumbers.{IsNumbered, all_numbered}

-- ---- what a page's block says

head_then : (page : Page) (digest : List ℕ) → (rest : List ℕ) × (content_of page ++ digest ≡ head_bytes (head_of page) ++ rest)
unfolding content_of
head_then page digest =
    let head = head_bytes (head_of page) in
    let pairs = flat_map pair_image (map pair_of (records_of page)) in
    let zeros = replicate (4064 - length (head ++ pairs)) 0 in
    (pairs ++ (zeros ++ digest), append_assoc (head ++ pairs) zeros digest ∙ append_assoc head pairs (zeros ++ digest))

forward_said : (low target : ℕ) (rest : List ℕ) → slice_index (head_bytes (head_of (Forward low target)) ++ rest) 1 ≡ 0
unfolding head_bytes
forward_said low target rest = refl

length_said : (prefix : List Bool) (right : Option ℕ) (records : List Record) (rest : List ℕ) → slice_index (head_bytes (head_of (Live prefix right records)) ++ rest) 1 ≡ length prefix
unfolding head_bytes
length_said prefix right records rest = refl

low_said : (prefix : List Bool) (right : Option ℕ) (records : List Record) (rest : List ℕ) → low_of prefix < 2 ^ 64 → big_from 8 8 (head_bytes (head_of (Live prefix right records)) ++ rest) ≡ low_of prefix
unfolding head_bytes
low_said prefix right records rest small = sym (big_from-drop 8 0 8 (head_bytes (head_of (Live prefix right records)) ++ rest)) ∙ big_number-reads_back 8 (low_of prefix) rest small

-- ---- what the block of some entries says

abbrev four_image : FileEntry → List ℕ
four_image item = entry_image four_bytes item.ward item.prefix item.entry

kind_said : (item : FileEntry) (rest : List ℕ) → slice_index (four_image item ++ rest) 1 ≡ kind_byte item.entry.kind
kind_said item rest = refl

ward_said : (item : FileEntry) (rest : List ℕ) → slice_index (four_image item ++ rest) 0 ≡ item.ward
ward_said item rest = refl

number_said : (item : FileEntry) (rest : List ℕ) → item.entry.number < 2 ^ 32 → big_from 8 4 (four_image item ++ rest) ≡ item.entry.number
number_said item rest small = sym (big_from-drop 8 0 4 (four_image item ++ rest)) ∙ big_number-reads_back 4 item.entry.number (big_bytes 4 (right_field item.entry.kind) ++ rest) small

right_said : (item : FileEntry) (rest : List ℕ) → right_field item.entry.kind < 2 ^ 32 → big_from 12 4 (four_image item ++ rest) ≡ right_field item.entry.kind
right_said item rest small = sym (big_from-drop 12 0 4 (four_image item ++ rest)) ∙ big_number-reads_back 4 (right_field item.entry.kind) rest small

length-images : (version : KnownVersion) (entries : List FileEntry) → length (flat_map (image_of (layout version)) entries) ≡ 16 * length entries
length-images version [] = refl
length-images version (item ∷ entries) = omega (
  arith,
  length-append (image_of (layout version) item) (flat_map (image_of (layout version)) entries),
  length-entry_image (layout version) (layout_fits version) item.ward item.prefix item.entry,
  length-images version entries,
)

-- ---- no block of entries is a page's

is_kind : (kind : Kind) → (kind_byte kind ≡ 1) ⊎ (kind_byte kind ≡ 2)
is_kind (Split right) = inl refl
is_kind Merge = inr refl

-- the low bound of a prefix of one or two bits isn't that of a number of an entry
not_low : (prefix : List Bool) (number right : ℕ) → (length prefix ≡ 1) ⊎ (length prefix ≡ 2) → low_of prefix ≡ number * 256 ^ 4 + right → right < 2 ^ 32 → 1 ≤ number → number < 2 ^ 30 → ⊥
not_low prefix number right (inl one) is small some few =
    let half : low_of prefix ≡ number_of prefix * 2 ^ 63 = low_of-product prefix ∙ ap (λ (len : ℕ). number_of prefix * 2 ^ (64 - len)) one in
    absurd (omega (arith, half, is, small, some, few))
not_low prefix number right (inr two) is small some few =
    let quarter : low_of prefix ≡ number_of prefix * 2 ^ 62 = low_of-product prefix ∙ ap (λ (len : ℕ). number_of prefix * 2 ^ (64 - len)) two in
    absurd (omega (arith, quarter, is, small, some, few))

-- an entry of a legal file that wasn't changed often
pub record IsEarly (item : FileEntry) : Type 0 where
  pub some : IsNumbered item
  pub few : item.entry.number < 2 ^ 30

module _ (are_saved : PagesAreSaved) where
  -- the bytes of an entry and of a page's head
  not_both : (item : FileEntry) (page : Page) (rest back block : List ℕ) → right_field item.entry.kind < 2 ^ 32 → 1 ≤ item.entry.number → item.entry.number < 2 ^ 30
      → block ≡ four_image item ++ rest → block ≡ head_bytes (head_of page) ++ back → IsPageBlock block page → ⊥
  not_both item (Forward low target) rest back block small some few of_item of_page is =
      let same : kind_byte item.entry.kind ≡ 0
      = sym (kind_said item rest) ∙ ap (λ (bytes : List ℕ). slice_index bytes 1) (sym of_item ∙ of_page) ∙ forward_said low target back in
      elim (is_kind item.entry.kind) [ inl one ↦ absurd (omega (arith, same, one)) | inr two ↦ absurd (omega (arith, same, two)) ]
  not_both item (Live prefix right records) rest back block small some few of_item of_page is =
      let below : low_of prefix < 2 ^ 64 = low_of-small prefix is.image.valid.in_range.0 in
      let len : length prefix ≡ kind_byte item.entry.kind = sym (length_said prefix right records back) ∙ ap (λ (bytes : List ℕ). slice_index bytes 1) (sym of_page ∙ of_item) ∙ kind_said item rest in
      let parts : low_of prefix ≡ big_from 8 4 (four_image item ++ rest) * 256 ^ 4 + big_from 12 4 (four_image item ++ rest) =
      sym (low_said prefix right records back below) ∙ ap (big_from 8 8) (sym of_page ∙ of_item) ∙ big_from-add 8 4 4 (four_image item ++ rest) in
      let number = number_said item rest (omega (arith, few)) in
      let link = right_said item rest small in
      let low : low_of prefix ≡ item.entry.number * 256 ^ 4 + right_field item.entry.kind = omega (arith, parts, number, link) in
      let short : (length prefix ≡ 1) ⊎ (length prefix ≡ 2) = elim (is_kind item.entry.kind) [ inl one ↦ inl (len ∙ one) | inr two ↦ inr (len ∙ two) ] in
      not_low prefix item.entry.number (right_field item.entry.kind) short low small some few

  no_page : (item : FileEntry) (rest block : List ℕ) → right_field item.entry.kind < 2 ^ 32 → IsEarly item → block ≡ four_image item ++ rest → IsNoPage block
  no_page item rest block small early whole page is =
      let byte : slice_index block 0 ≡ item.ward = ap (λ (bytes : List ℕ). slice_index bytes 0) whole ∙ ward_said item rest in
      let head = head_then page (sha256 (content_of page)) in
      elim (cases_lt item.ward 256) [
        | inl named ↦ not_both item page rest head.0 block small (early.some named) early.few whole (is.image.whole ∙ head.1) is
        | inr past ↦ are_saved.others block (inr (omega (arith, byte, past))) page is
      ]

  no_page_of : (version : KnownVersion) (entries : List FileEntry) → AllByRecursion (IsFileEntry (layout version)) entries → AllByRecursion IsEarly entries → IsNoPage (table_block (layout version) entries)
  unfolding table_block
  no_page_of version [] valid early = are_saved.others (table_block (layout version) []) (inl (omega (arith, first_zero (4064 - 0) (sha256 (padded 4064 [])) (omega arith))))
  no_page_of version (item ∷ entries) valid early =
      let images = flat_map (image_of (layout version)) entries in
      let used = image_of (layout version) item ++ images in
      let zeros : List ℕ = replicate (4064 - length used) 0 in
      let digest = sha256 (padded 4064 used) in
      let own : image_of (layout version) item ≡ four_image item = same_in_four (layout version) (layout_fits version) item.ward item.prefix item.entry (omega (arith, valid.0.shorter)) in
      let whole : table_block (layout version) (item ∷ entries) ≡ four_image item ++ (images ++ (zeros ++ digest)) =
      append_assoc used zeros digest ∙ append_assoc (image_of (layout version) item) images (zeros ++ digest) ∙ ap (λ (image : List ℕ). image ++ (images ++ (zeros ++ digest))) own in
      no_page item (images ++ (zeros ++ digest)) (table_block (layout version) (item ∷ entries)) valid.0.right early.0 whole

  table_is : (version : KnownVersion) (entries : List FileEntry) → length entries ≤ 254 → AllByRecursion (IsFileEntry (layout version)) entries → AllByRecursion IsEarly entries
      → IsBlockOf None (table_block (layout version) entries)
  unfolding table_block
  table_is version entries few valid early =
      let used = flat_map (image_of (layout version)) entries in
      sealed_block used (table_block (layout version) entries) (omega (arith, few, length-images version entries)) refl (no_page_of version entries valid early)

  pub tables_are : (version : KnownVersion) (blocks : ℕ) (entries : List FileEntry) → AllByRecursion (IsFileEntry (layout version)) entries → AllByRecursion IsEarly entries
      → AreBlocks (replicate blocks None) (table_bytes (layout version) blocks entries)
  tables_are version zero entries valid early = refl
  tables_are version (suc blocks) entries valid early =
      let IsOne = IsFileEntry (layout version) in
      let own = table_is version (take 254 entries) (omega (arith, length-take 254 entries)) (all_take IsOne 254 entries valid) (all_take IsEarly 254 entries early) in
      let others = tables_are version blocks (drop 254 entries) (all_drop IsOne 254 entries valid) (all_drop IsEarly 254 entries early) in
      one_block None (table_block (layout version) (take 254 entries)) (table_bytes (layout version) blocks (drop 254 entries)) (replicate blocks None) own others

-- ---- a whole file

no_pairs : (blocks : ℕ) → flat_map pairs_within (replicate blocks None) ≡ []
no_pairs zero = refl
no_pairs (suc blocks) = no_pairs blocks

all_early : (entries : List FileEntry) → AllByRecursion IsNumbered entries → AllByRecursion (λ item. item.entry.number < 2 ^ 30) entries → AllByRecursion IsEarly entries
all_early [] some few = tt
all_early (item ∷ entries) some few = (record { some = some.0; few = few.0 }, all_early entries some.1 few.1)

pub plain_file : ImagesAreBlocks → PagesAreSaved → WholeFilesAreSaved → (version : KnownVersion) (file : PageFile) (bytes : List ℕ) (salvage : Salvage) → IsLegalPageFile (file_version version) file bytes → HasFewChanges file
    → IsOfAll bytes salvage → SavesJust (pages_of file.wards) salvage
plain_file images are_saved whole version file bytes salvage legal few is =
    let valid = legal.is.valid in
    let pages = pages_of file.wards in
    let count = table_blocks (length file.entries) in
    let none = replicate count None in
    let table = table_bytes (layout version) count file.entries in
    let early = all_early file.entries (all_numbered file valid.rising legal.legal) few in
    let behind = joined (map Some pages) none (flat_map page_block pages) table (pages_are images version file.header.settings.keyer pages valid.pages) (tables_are are_saved version count file.entries valid.entries early) in
    let blocks : AreBlocks (None ∷ (map Some pages ++ none)) (file_bytes (file_version version) file) =
    one_block None (header_block (file_version version) file.header) (flat_map page_block pages ++ table) (map Some pages ++ none) (header_is are_saved (file_version version) file.header valid.header) behind in
    let pairs : flat_map pairs_within (None ∷ (map Some pages ++ none)) ≡ flat_map pairs_of pages =
    flat_map-append pairs_within (map Some pages) none ∙ ap (λ (more : List Pair). flat_map pairs_within (map Some pages) ++ more) (no_pairs count)
    ∙ append-nil (flat_map pairs_within (map Some pages)) ∙ pairs_of_some pages in
    saved whole (None ∷ (map Some pages ++ none)) pages bytes salvage (subst (AreBlocks (None ∷ (map Some pages ++ none))) (sym legal.is.whole) blocks) pairs is
