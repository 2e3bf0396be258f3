-- Bytes that pass all tests have no fault, and those of a file pass them.
use Rattle.std.proofs.Common.{◌≡◌, ℕ, ◌+◌, ◌<◌, ◌≤◌, inl, inr, List, [], ◌∷◌, ◌++◌, length, take, sym, ap, ◌∙◌, subst, append-nil, arith}
use Rattle.std.specs.List.{AllByRecursion}
use Rattle.exh_prefix.specs.Version.{second_version}
use Rattle.exh_prefix.specs.PrefixListLemmas.{AllByRecursion-append, AllByRecursion-append_right}
use Rattle.exh_keyer.specs.Pseudokey.{any_pseudokey}
use Rattle.exh_codec.specs.ImageTestLemmas.{none_first as none_image_first}
use Rattle.exh_codec.specs.CodecLaws.{ImagesAreBlocks, ImagesPass}
use Rattle.exh_format.specs.declared.file_fault.FileFault.{FileFault}
use Rattle.exh_format.specs.FileTests.{NextFails, PageFails, block_at, bytes_from}
use Rattle.exh_format.specs.FirstFailingLemmas.{none_first}
use Rattle.exh_format.specs.Reading.{AreBytes}
use Rattle.exh_cells.specs.declared.stamped_header.StampedHeader.{StampedHeader}
use Rattle.exh_cells.specs.BlockLaws.{OneStamped, StampedPass, WalksAreBlocks, WalksPass}
use Rattle.exh_cells.specs.Places.{end_block_of, groups_of}
use Rattle.exh_cells.specs.PlacedFile.{IsPlacedFile, PlacedFile, group_bytes, stamped_block}
use Rattle.exh_cells.specs.StampedHeader.{IsStampedImage}
use Rattle.exh_versions.specs.PlacedTests.{BlocksFail, End, FailsBlock, IsPlacedFault, OfCells, OfPage, PassesBlock, PassesPlaced, PlacedBlock, StampedFails, WalkFails, blocks_behind, groups_blocks}
use Rattle.exh_versions.proofs.Headers.{length-stamped_block, stamped_image}
use Rattle.exh_versions.proofs.Places.{Stands, block_there, from_next, groups_pass, whole_there}

none_next : (Fails : List ℕ → FileFault → Type 0) (bytes : List ℕ) (fault : FileFault) → 4096 ≤ length bytes → (Fails (take 4096 bytes) fault → ⊥) → NextFails Fails bytes fault → ⊥
none_next Fails bytes fault long none (inl cut) = omega (arith, cut.0, long)
none_next Fails bytes fault long none (inr fails) = none fails.1

none_at : (pseudo : List ℕ → ℕ) (bytes : List ℕ) (block : PlacedBlock) (fault : FileFault) → PassesBlock pseudo bytes block → FailsBlock pseudo bytes block fault → ⊥
none_at pseudo bytes (OfCells place count) fault passes fails =
    none_next (WalkFails place count) (bytes_from place bytes) fault passes.0 (λ (named : WalkFails place count (block_at place bytes) fault). none_image_first _ _ named.0 named.1 passes.1) fails
none_at pseudo bytes (OfPage place) fault passes fails =
    none_next (PageFails second_version pseudo place) (bytes_from place bytes) fault passes.0 (λ (named : PageFails second_version pseudo place (block_at place bytes) fault). none_image_first _ _ named.0 named.1 passes.1) fails
none_at pseudo bytes (End place) fault passes fails = omega (arith, ap length passes, fails.0)

none_among : (pseudo : List ℕ → ℕ) (bytes : List ℕ) (blocks : List PlacedBlock) (fault : FileFault) → AllByRecursion (PassesBlock pseudo bytes) blocks → BlocksFail pseudo bytes blocks fault → ⊥
none_among pseudo bytes blocks fault all first =
    none_at pseudo bytes first.block fault (AllByRecursion-append_right (PassesBlock pseudo bytes) first.before (first.block ∷ first.after) (subst (AllByRecursion (PassesBlock pseudo bytes)) first.stands all)).0 first.fails

pub no_fault : StampedPass → OneStamped → (header : StampedHeader) (bytes : List ℕ) (fault : FileFault) → PassesPlaced bytes header → IsPlacedFault bytes fault → ⊥
no_fault stamped one header bytes fault passes (inl fails) =
    none_next StampedFails bytes fault passes.0 (λ (first : StampedFails (take 4096 bytes) fault). none_first _ _ fault first (stamped header (take 4096 bytes) passes.1)) fails
no_fault stamped one header bytes fault passes (inr fails) =
    let same : header ≡ fails.0 = one (block_at 0 bytes) header fails.0 passes.1 fails.1 in
    none_among (any_pseudokey fails.0.settings.keyer) bytes (blocks_behind fails.0) fault
    (subst (λ (header : StampedHeader). AllByRecursion (PassesBlock (any_pseudokey header.settings.keyer) bytes) (blocks_behind header)) same passes.2) fails.2

pub file_passes : ImagesPass → ImagesAreBlocks → WalksPass → WalksAreBlocks → (file : PlacedFile) (bytes : List ℕ) → AreBytes bytes → IsPlacedFile file bytes → PassesPlaced bytes file.header
file_passes pages_law page_blocks walks_law walk_blocks file bytes small is =
    let header = file.header in
    let pseudo = any_pseudokey header.settings.keyer in
    let pages = file.pages in
    let cells = file.cells in
    let block = stamped_block header in
    let groups = groups_of (length pages) in
    let bodies = group_bytes groups pages cells in
    let valid = is.valid.header in
    let len : length block ≡ 4096 = length-stamped_block header valid in
    let behind : AreBytes bodies = AllByRecursion-append_right (λ (byte : ℕ). byte < 256) block bodies (subst AreBytes is.whole small) in
    let from : bytes_from 1 bytes ≡ bodies ++ [] = from_next 0 bytes block bodies is.whole len ∙ sym (append-nil bodies) in
    let stands : Stands pseudo bytes pages_law page_blocks walks_law walk_blocks 1 groups pages cells [] =
    record { all = is.valid.all; room = omega arith; cells_valid = is.valid.cells; pages_valid = is.valid.pages; small = behind; whole = from } in
    let passed = groups_pass pseudo bytes pages_law page_blocks walks_law walk_blocks 1 groups pages cells [] stands in
    let end : 1 + (groups + length pages) ≡ end_block_of (length pages) = omega arith in
    let last : bytes_from (end_block_of (length pages)) bytes ≡ [] = ap (λ (place : ℕ). bytes_from place bytes) (sym end) ∙ passed.1 in
    let all : (count : ℕ) → List PlacedBlock = λ count. groups_blocks 1 (groups_of count) count ++ End (end_block_of count) ∷ [] in (
      whole_there 0 bytes block bodies is.whole len,
      subst (IsStampedImage header) (sym (block_there 0 bytes block bodies is.whole len)) (stamped_image header valid),
      subst (λ (count : ℕ). AllByRecursion (PassesBlock pseudo bytes) (all count)) is.valid.count
          (AllByRecursion-append (PassesBlock pseudo bytes) (groups_blocks 1 groups (length pages)) (End (end_block_of (length pages)) ∷ []) passed.0 (last, tt)),
    )
