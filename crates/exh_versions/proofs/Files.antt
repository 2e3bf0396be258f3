-- A file from the reads of its parts.
use Rattle.std.proofs.Common.{◌≡◌, ℕ, zero, suc, ◌+◌, ◌^◌, ◌<◌, get_or, inl, inr, List, [], ◌∷◌, ◌++◌, length, map, Option, None, Some, IfSome, refl, sym, ap, ◌∙◌, subst, arith}
use Rattle.std.specs.Prelude.{slice_get}
use Rattle.std.proofs.lemmas.List.{length-map}
use Rattle.std.proofs.lemmas.List.FromFn.{fill_by_all}
use Rattle.std.specs.List.{AllByRecursion, sum}
use Rattle.std.specs.Io.KnownBytes.{Consumes, IsAtEnd}
use Rattle.std.proofs.KnownBytes.{Consumes-trans, Consumes-whole}
use Rattle.exh_prefix.specs.PrefixListLemmas.{AllByRecursion-append, within_there}
use Rattle.exh_keyer.specs.declared.any_keyer.AnyKeyer.{AnyKeyer}
use Rattle.exh_keyer.specs.Pseudokey.{any_pseudokey}
use Rattle.exh_page.specs.declared.page.Page.{Page}
use Rattle.exh_page.specs.declared.file_settings.FileSettings.{FileSettings}
use Rattle.exh_codec.specs.CodecLaws.{ImagesAreBlocks, ImagesPass}
use Rattle.exh_format.specs.declared.file_fault.FileFault.{FileFault}
use Rattle.exh_format.specs.declared.file_fault.FileFault.TheVariants as faults
use Rattle.exh_format.specs.FileTests.{NextFails, bytes_from}
use Rattle.exh_format.specs.Reading.{IsBlock}
use Rattle.exh_cells.specs.declared.cell.Cell.{Cell}
use Rattle.exh_cells.specs.declared.stamped_header.StampedHeader.{StampedHeader}
use Rattle.exh_cells.specs.BlockLaws.{WalksAreBlocks, WalksPass}
use Rattle.exh_cells.specs.LegalPlaced.{pages_of_ward, wards_of}
use Rattle.exh_cells.specs.Places.{end_block_of, groups_of}
use Rattle.exh_cells.specs.PlacedFile.{PlacedFile, group_bytes, stamped_block}
use Rattle.exh_cells.specs.StampedHeader.{IsStampedImage}
use Rattle.exh_versions.specs.declared.placed_pages.PlacedPages.{PlacedPages}
use Rattle.exh_versions.specs.declared.placed_parts.PlacedParts.{PlacedParts}
use Rattle.exh_versions.specs.PlacedParts.{IsReadFrom}
use Rattle.exh_versions.specs.PlacedTests.{BlocksFail, End, IsPlacedFault, PassesBlock, StampedFails, blocks_behind, groups_blocks}
use Rattle.exh_versions.specs.Reading.{ArePlaced, FailsInGroups, GivesGroups}
use Rattle.exh_versions.proofs.Places.{Stands, block_there, fails_behind, fails_here, from_next, groups_fail, groups_pass}

-- ---- faults

-- what was read before a fault behind the header
pub record Headed (old new : Option (List ℕ)) (header : StampedHeader) (block : List ℕ) : Type 0 where
  pub given : Consumes old new block
  pub image : IsStampedImage header block
  pub is : IsBlock block

-- a fault of the header
pub fault_of_header : (known : Option (List ℕ)) (fault : FileFault) → IfSome known (λ bytes. NextFails StampedFails bytes fault) → IfSome known (λ bytes. IsPlacedFault bytes fault)
fault_of_header None fault fails = tt
fault_of_header (Some bytes) fault fails = inl fails

module _ (pages_law : ImagesPass) (page_blocks : ImagesAreBlocks) (walks_law : WalksPass) (walk_blocks : WalksAreBlocks) where
  behind_header : (bytes rest block : List ℕ) (header : StampedHeader) (fault : FileFault) → bytes ≡ block ++ rest → IsStampedImage header block → length block ≡ 4096
      → BlocksFail (any_pseudokey header.settings.keyer) bytes (blocks_behind header) fault → IsPlacedFault bytes fault
  behind_header bytes rest block header fault is image len fails =
      inr (header, subst (IsStampedImage header) (sym (block_there 0 bytes block rest is len)) image, fails)

  -- a fault in a group
  pub fault_of_groups : (a b : Option (List ℕ)) (header : StampedHeader) (block : List ℕ) (place count : ℕ) (fault : FileFault) → Headed a b header block → place ≡ 1 → count ≡ sum header.page_counts
      → IfSome b (λ bytes. FailsInGroups (any_pseudokey header.settings.keyer) place count bytes fault) → IfSome a (λ bytes. IsPlacedFault bytes fault)
  fault_of_groups None b header block place count fault headed there all fails = tt
  fault_of_groups (Some bytes) None header block place count fault headed there all fails = absurd headed.given
  fault_of_groups (Some bytes) (Some rest) header block place count fault headed there all fails =
      let pseudo = any_pseudokey header.settings.keyer in
      let pages = sum header.page_counts in
      let from : bytes_from 1 bytes ≡ rest = from_next 0 bytes block rest headed.given headed.is.0 in
      behind_header bytes rest block header fault headed.given headed.image headed.is.0
      (groups_fail pseudo bytes pages_law page_blocks walks_law walk_blocks 1 (groups_of pages) pages (End (end_block_of pages) ∷ []) fault (omega arith)
      (subst (λ (rest : List ℕ). FailsInGroups pseudo 1 pages rest fault) (sym from)
      (subst (λ (place : ℕ). FailsInGroups pseudo place pages rest fault) there (subst (λ (count : ℕ). FailsInGroups pseudo place count rest fault) all fails))))

  -- a byte behind the last page
  pub fault_of_end : (a b c : Option (List ℕ)) (header : StampedHeader) (block : List ℕ) (count : ℕ) (pages : List Page) (cells : List Cell) (fault : FileFault) → Headed a b header block
      → GivesGroups (any_pseudokey header.settings.keyer) b c (groups_of count) pages cells → length pages ≡ count → length cells ≡ count → count ≡ sum header.page_counts
      → IfSome c (λ bytes. (0 < length bytes) × (fault ≡ faults.Trailing)) → IfSome a (λ bytes. IsPlacedFault bytes fault)
  fault_of_end None b c header block count pages cells fault headed gives some all count_is fails = tt
  fault_of_end (Some bytes) None c header block count pages cells fault headed gives some all count_is fails = absurd headed.given
  fault_of_end (Some bytes) (Some mid) None header block count pages cells fault headed gives some all count_is fails = absurd gives.given
  fault_of_end (Some bytes) (Some mid) (Some rest) header block count pages cells fault headed gives some all count_is fails =
      let pseudo = any_pseudokey header.settings.keyer in
      let groups = groups_of count in
      let from : bytes_from 1 bytes ≡ group_bytes groups pages cells ++ rest = from_next 0 bytes block mid headed.given headed.is.0 ∙ gives.given in
      let stands : Stands pseudo bytes pages_law page_blocks walks_law walk_blocks 1 groups pages cells rest =
      record { all = all ∙ sym some; room = omega (arith, some); cells_valid = gives.cells_valid; pages_valid = gives.pages_valid; small = gives.are_bytes; whole = from } in
      let passed = groups_pass pseudo bytes pages_law page_blocks walks_law walk_blocks 1 groups pages cells rest stands in
      let end : 1 + (groups + length pages) ≡ end_block_of count = omega (arith, some) in
      let last : bytes_from (end_block_of count) bytes ≡ rest = ap (λ (place : ℕ). bytes_from place bytes) (sym end) ∙ passed.1 in
      let Fails = λ (count : ℕ). BlocksFail pseudo bytes (groups_blocks 1 (groups_of count) count ++ End (end_block_of count) ∷ []) fault in
      behind_header bytes mid block header fault headed.given headed.image headed.is.0
      (subst Fails count_is
      (fails_behind pseudo bytes (groups_blocks 1 groups count) (End (end_block_of count) ∷ []) fault
      (subst (λ (some : ℕ). AllByRecursion (PassesBlock pseudo bytes) (groups_blocks 1 groups some)) some passed.0)
      (fails_here pseudo bytes (End (end_block_of count)) [] fault (omega (arith, ap length last, fails.0), fails.1))))

-- ---- a file that was read

pub all_there : {X : Type 0} (P : X → Type 0) (items : List X) → ((number : ℕ) (x : X) → slice_get items number ≡ Some x → P x) → AllByRecursion P items
all_there P [] each = tt
all_there P (x ∷ items) each = (each 0 x refl, all_there P items (λ number. each (suc number)))

map_there : {W : Type 0} (own : W → List Page) (wards : List W) (number : ℕ) (ward : W) → slice_get wards number ≡ Some ward → get_or (map own wards) number [] ≡ own ward
map_there own [] number ward is = cc
map_there own (first ∷ wards) zero ward is = let same : first ≡ ward = cc in ap own same
map_there own (first ∷ wards) (suc number) ward is = map_there own wards number ward is

module _ {W : Type 0} (own : W → List Page) (Takes : W → Page → Type 0) (settings : FileSettings AnyKeyer) where
  pub wards_are : (pages : List Page) (placed : PlacedPages W) → ArePlaced own Takes settings pages placed → (file : PlacedFile) → file.header.settings ≡ settings → file.pages ≡ pages → map own placed.wards.items ≡ wards_of file
  wards_are pages placed are file settings_is pages_is =
      let wards = placed.wards.items in
      let bits = file.header.settings.ward_bits in
      let same : settings.ward_bits ≡ bits = ap (λ (settings : FileSettings AnyKeyer). settings.ward_bits) (sym settings_is) in
      let count : length wards ≡ 2 ^ bits = are.count ∙ ap (λ (bits : ℕ). 2 ^ bits) same in
      fill_by_all (pages_of_ward bits file.pages) (map own wards) (2 ^ bits) [] (length-map wards own ∙ count)
      (λ number within.
      let there = within_there wards number (omega (arith, count, within)) in
      map_there own wards number there.0 there.1 ∙ are.each number there.0 there.1
      ∙ (λ i. pages_of_ward (same i) (sym pages_is i) number))

  pub file_from : (a b c : Option (List ℕ)) (header : StampedHeader) (block : List ℕ) (count : ℕ) (pages : List Page) (cells : List Cell) (placed : PlacedPages W) (parts : PlacedParts W) → settings ≡ header.settings
      → Headed a b header block → GivesGroups (any_pseudokey header.settings.keyer) b c (groups_of count) pages cells → length pages ≡ count → length cells ≡ count → count ≡ sum header.page_counts → ArePlaced own Takes settings pages placed
      → IsAtEnd c → parts.header ≡ header → parts.wards.items ≡ placed.wards.items → parts.lows.items ≡ placed.lows.items → parts.cells.items ≡ cells → IsReadFrom own a parts
  unfolding stamped_block
  file_from a b c header block count pages cells placed parts settings_is headed gives some all count_is are end header_is wards_is lows_is cells_is =
      let bodies = group_bytes (groups_of count) pages cells in
      let bytes = block ++ bodies in
      let file : PlacedFile = record { header = header; pages = pages; cells = cells } in
      record {
        file = file;
        bytes = bytes;
        all = Consumes-whole a c bytes (λ all. all ≡ bytes) (Consumes-trans a b c block bodies headed.given gives.given) end refl;
        are_bytes = AllByRecursion-append (λ (byte : ℕ). byte < 256) block bodies headed.is.1 gives.are_bytes;
        is = record {
          valid = record { header = headed.image.valid; count = some ∙ count_is; all = all ∙ sym some; pages = gives.pages_valid; cells = gives.cells_valid };
          whole = (λ i. headed.image.whole i ++ group_bytes (groups_of (sym some i)) pages cells);
        };
        parts_are = record {
          header = header_is;
          wards = ap (map own) wards_is ∙ wards_are pages placed are file (sym settings_is) refl;
          lows = lows_is ∙ are.lows;
          cells = cells_is;
        };
      }
