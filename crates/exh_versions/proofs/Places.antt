-- The blocks of a file: which bytes pass what is asked of them, and the first at which they fail.
use Rattle.std.proofs.Common.{◌≡◌, ℕ, zero, suc, ◌+◌, ◌-◌, ◌*◌, ◌<◌, ◌≤◌, min, inl, inr, List, [], ◌∷◌, ◌++◌, length, take, drop, refl, sym, ap, ◌∙◌, subst, append_assoc, take-append-drop, arith}
use Rattle.std.proofs.lemmas.List.{take_at, drop_at, drop-drop, length-append, length-take, length-drop}
use Rattle.std.specs.List.{AllByRecursion, flat_map}
use Rattle.exh_prefix.specs.Version.{Fits, second_version}
use Rattle.exh_prefix.specs.PrefixListLemmas.{AllByRecursion-append, AllByRecursion-append_left, AllByRecursion-append_right}
use Rattle.exh_page.specs.declared.page.Page.{Page}
use Rattle.exh_codec.specs.PageImage.{IsImage, IsPage}
use Rattle.exh_codec.specs.ImageTests.{Passes, image_tests}
use Rattle.exh_codec.specs.CodecLaws.{ImagesAreBlocks, ImagesPass}
use Rattle.exh_format.specs.declared.file_fault.FileFault.{FileFault}
use Rattle.exh_format.specs.FileTests.{NextFails, PageFails, block_at, bytes_from}
use Rattle.exh_format.specs.PageFile.{page_block}
use Rattle.exh_format.specs.Reading.{AreBytes, FailsInPages}
use Rattle.exh_format.specs.ReadingLemmas.{byte_at}
use Rattle.exh_cells.specs.declared.cell.Cell.{Cell}
use Rattle.exh_cells.specs.BlockLaws.{WalksAreBlocks, WalksPass}
use Rattle.exh_cells.specs.PlacedFile.{group_bytes, walk_block}
use Rattle.exh_cells.specs.WalkImage.{IsCell, IsWalkImage}
use Rattle.exh_cells.specs.WalkTests.{PassesWalk, walk_tests}
use Rattle.exh_versions.specs.PlacedTests.{BlocksFail, FailsBlock, OfCells, OfPage, PassesBlock, PlacedBlock, group_blocks, groups_blocks, page_blocks}
use Rattle.exh_versions.specs.Reading.{FailsInGroup, FailsInGroups}

-- the bytes from a place on, behind a block that stands there
pub from_next : (place : ℕ) (bytes block rest : List ℕ) → bytes_from place bytes ≡ block ++ rest → length block ≡ 4096 → bytes_from (suc place) bytes ≡ rest
from_next place bytes block rest is len =
    let next : 4096 * suc place ≡ 4096 * place + 4096 = omega arith in
    ap (λ (n : ℕ). drop n bytes) next ∙ sym (drop-drop 4096 (4096 * place) bytes) ∙ ap (drop 4096) is ∙ drop_at block rest 4096 len

pub block_there : (place : ℕ) (bytes block rest : List ℕ) → bytes_from place bytes ≡ block ++ rest → length block ≡ 4096 → block_at place bytes ≡ block
block_there place bytes block rest is len = ap (take 4096) is ∙ take_at block rest 4096 len

pub whole_there : (place : ℕ) (bytes block rest : List ℕ) → bytes_from place bytes ≡ block ++ rest → length block ≡ 4096 → 4096 ≤ length (bytes_from place bytes)
whole_there place bytes block rest is len = omega (arith, ap length is, length-append block rest, len)

fits_page : Fits 8 second_version
fits_page = record { limit = omega arith; bytes = omega arith }

-- ---- parts of lists

pub front_of : {X : Type 0} (P : X → Type 0) (n : ℕ) (items : List X) → AllByRecursion P items → AllByRecursion P (take n items)
front_of P n items all = AllByRecursion-append_left P (take n items) (drop n items) (subst (AllByRecursion P) (sym (take-append-drop n items)) all)

pub back_of : {X : Type 0} (P : X → Type 0) (n : ℕ) (items : List X) → AllByRecursion P items → AllByRecursion P (drop n items)
back_of P n items all = AllByRecursion-append_right P (take n items) (drop n items) (subst (AllByRecursion P) (sym (take-append-drop n items)) all)

pub few_first : {X : Type 0} (items : List X) → length (take 24 items) ≤ 24
few_first items = omega (arith, length-take 24 items)

pub same_first : {X Y : Type 0} (one : List X) (other : List Y) → length one ≡ length other → length (take 24 one) ≡ length (take 24 other)
same_first one other len = omega (arith, length-take 24 one, length-take 24 other, len)

pub same_others : {X Y : Type 0} (one : List X) (other : List Y) → length one ≡ length other → length (drop 24 one) ≡ length (drop 24 other)
same_others one other len = omega (arith, length-drop 24 one, length-drop 24 other, len)

pub walk_image : (cells : List Cell) → length cells ≤ 24 → AllByRecursion IsCell cells → IsWalkImage cells (walk_block cells)
unfolding walk_block
walk_image cells few valid = record { few = few; valid = valid; whole = refl }

module _ (pseudo : List ℕ → ℕ) (bytes : List ℕ) where
  -- blocks that are passed, and then others
  pub fails_behind : (front : List PlacedBlock) (blocks : List PlacedBlock) (fault : FileFault) → AllByRecursion (PassesBlock pseudo bytes) front → BlocksFail pseudo bytes blocks fault
      → BlocksFail pseudo bytes (front ++ blocks) fault
  fails_behind [] blocks fault passed fails = fails
  fails_behind (block ∷ front) blocks fault passed fails =
      let rest = fails_behind front blocks fault passed.1 fails in
      record {
        before = block ∷ rest.before;
        block = rest.block;
        after = rest.after;
        stands = ap (λ (blocks : List PlacedBlock). block ∷ blocks) rest.stands;
        passed = (passed.0, rest.passed);
        fails = rest.fails;
      }

  pub fails_here : (block : PlacedBlock) (blocks : List PlacedBlock) (fault : FileFault) → FailsBlock pseudo bytes block fault → BlocksFail pseudo bytes (block ∷ blocks) fault
  fails_here block blocks fault fails = record { before = []; block = block; after = blocks; stands = refl; passed = tt; fails = fails }

  module _ (pass : ImagesPass) (are_blocks : ImagesAreBlocks) (walks_pass : WalksPass) (walks_are_blocks : WalksAreBlocks) where
    -- ---- pages

    page_passes : (place : ℕ) (page : Page) (rest : List ℕ) → IsPage second_version pseudo page → AreBytes (page_block page) → bytes_from place bytes ≡ page_block page ++ rest → PassesBlock pseudo bytes (OfPage place)
    unfolding page_block
    page_passes place page rest valid small is =
        let block = page_block page in
        let image : IsImage second_version pseudo page block = record { valid = valid; whole = refl } in
        let len = are_blocks second_version pseudo page block image in
        let passed = (pass second_version fits_page pseudo block len (byte_at block small)).0 (page, image) in
        (whole_there place bytes block rest is len, subst (λ (block : List ℕ). AllByRecursion (Passes second_version pseudo block) image_tests) (sym (block_there place bytes block rest is len)) passed)

    length-page : (page : Page) → IsPage second_version pseudo page → length (page_block page) ≡ 4096
    unfolding page_block
    length-page page valid = are_blocks second_version pseudo page (page_block page) (record { valid = valid; whole = refl })

    pub pages_pass : (place : ℕ) (pages : List Page) (rest : List ℕ) → AllByRecursion (IsPage second_version pseudo) pages → AreBytes (flat_map page_block pages)
        → bytes_from place bytes ≡ flat_map page_block pages ++ rest → AllByRecursion (PassesBlock pseudo bytes) (page_blocks place (length pages))
    pages_pass place [] rest valid small is = tt
    pages_pass place (page ∷ pages) rest valid small is =
        let block = page_block page in
        let more = flat_map page_block pages in
        let here = is ∙ append_assoc block more rest in (
          page_passes place page (more ++ rest) valid.0 (AllByRecursion-append_left (λ (byte : ℕ). byte < 256) block more small) here,
          pages_pass (suc place) pages rest valid.1 (AllByRecursion-append_right (λ (byte : ℕ). byte < 256) block more small) (from_next place bytes block (more ++ rest) here (length-page page valid.0)),
        )

    pub pages_behind : (place : ℕ) (pages : List Page) (rest : List ℕ) → AllByRecursion (IsPage second_version pseudo) pages
        → bytes_from place bytes ≡ flat_map page_block pages ++ rest → bytes_from (place + length pages) bytes ≡ rest
    pages_behind place [] rest valid is = let same : place + 0 ≡ place = omega arith in ap (λ (place : ℕ). bytes_from place bytes) same ∙ is
    pages_behind place (page ∷ pages) rest valid is =
        let block = page_block page in
        let more = flat_map page_block pages in
        let same : place + suc (length pages) ≡ suc place + length pages = omega arith in
        ap (λ (place : ℕ). bytes_from place bytes) same
        ∙ pages_behind (suc place) pages rest valid.1 (from_next place bytes block (more ++ rest) (is ∙ append_assoc block more rest) (length-page page valid.0))

    -- the first page that fails
    next_page_fails : (place count : ℕ) (blocks : List PlacedBlock) (pages : List Page) (rest : List ℕ) (fault : FileFault) → length pages < count → AllByRecursion (IsPage second_version pseudo) pages → AreBytes (flat_map page_block pages)
        → bytes_from place bytes ≡ flat_map page_block pages ++ rest → NextFails (PageFails second_version pseudo (place + length pages)) rest fault
        → BlocksFail pseudo bytes (page_blocks place count ++ blocks) fault
    next_page_fails place zero blocks pages rest fault fewer valid small is fails = absurd (omega (arith, fewer))
    next_page_fails place (suc count) blocks [] rest fault fewer valid small is fails =
        let same : place + 0 ≡ place = omega arith in
        fails_here (OfPage place) (page_blocks (suc place) count ++ blocks) fault
        (subst (λ (rest : List ℕ). NextFails (PageFails second_version pseudo place) rest fault) (sym is) (subst (λ (place : ℕ). NextFails (PageFails second_version pseudo place) rest fault) same fails))
    next_page_fails place (suc count) blocks (page ∷ pages) rest fault fewer valid small is fails =
        let block = page_block page in
        let more = flat_map page_block pages in
        let here = is ∙ append_assoc block more rest in
        let same : place + suc (length pages) ≡ suc place + length pages = omega arith in
        fails_behind (OfPage place ∷ []) (page_blocks (suc place) count ++ blocks) fault
        (page_passes place page (more ++ rest) valid.0 (AllByRecursion-append_left (λ (byte : ℕ). byte < 256) block more small) here, tt)
        (next_page_fails (suc place) count blocks pages rest fault (omega (arith, fewer)) valid.1 (AllByRecursion-append_right (λ (byte : ℕ). byte < 256) block more small)
        (from_next place bytes block (more ++ rest) here (length-page page valid.0))
        (subst (λ (place : ℕ). NextFails (PageFails second_version pseudo place) rest fault) same fails))

    pub pages_fail : (place count : ℕ) (blocks : List PlacedBlock) (fault : FileFault) → FailsInPages second_version pseudo place count (bytes_from place bytes) fault
        → BlocksFail pseudo bytes (page_blocks place count ++ blocks) fault
    pages_fail place count blocks fault fails = next_page_fails place count blocks fails.pages fails.rest fault fails.fewer fails.valid fails.are_bytes fails.whole fails.fails

    -- ---- walk blocks

    cells_pass : (place count : ℕ) (cells : List Cell) (rest : List ℕ) → length cells ≡ count → IsWalkImage cells (walk_block cells) → bytes_from place bytes ≡ walk_block cells ++ rest → PassesBlock pseudo bytes (OfCells place count)
    cells_pass place count cells rest all image is =
        let block = walk_block cells in
        let len = walks_are_blocks cells block image in
        (whole_there place bytes block rest is len, subst (λ (block : List ℕ). AllByRecursion (PassesWalk count block) walk_tests) (sym (block_there place bytes block rest is len)) (walks_pass count cells block image all))

    cells_behind : (place : ℕ) (cells : List Cell) (rest : List ℕ) → IsWalkImage cells (walk_block cells) → bytes_from place bytes ≡ walk_block cells ++ rest → bytes_from (suc place) bytes ≡ rest
    cells_behind place cells rest image is = from_next place bytes (walk_block cells) rest is (walks_are_blocks cells (walk_block cells) image)

    -- ---- groups

    group_pass : (place : ℕ) (pages : List Page) (cells : List Cell) (rest : List ℕ) → length cells ≡ length pages → length cells ≤ 24 → AllByRecursion IsCell cells → AllByRecursion (IsPage second_version pseudo) pages → AreBytes (flat_map page_block pages)
        → bytes_from place bytes ≡ walk_block cells ++ (flat_map page_block pages ++ rest) → AllByRecursion (PassesBlock pseudo bytes) (group_blocks place (length pages)) × (bytes_from (suc place + length pages) bytes ≡ rest)
    group_pass place pages cells rest all few cells_valid pages_valid small is =
        let image = walk_image cells few cells_valid in
        let next = cells_behind place cells (flat_map page_block pages ++ rest) image is in
        ((cells_pass place (length pages) cells (flat_map page_block pages ++ rest) all image is, pages_pass (suc place) pages rest pages_valid small next), pages_behind (suc place) pages rest pages_valid next)

    -- what holds of the bytes from a place on, where groups of these pages and cells begin
    pub record Stands (place groups : ℕ) (pages : List Page) (cells : List Cell) (rest : List ℕ) : Type 0 where
      pub all : length cells ≡ length pages
      pub room : length pages ≤ 24 * groups
      pub cells_valid : AllByRecursion IsCell cells
      pub pages_valid : AllByRecursion (IsPage second_version pseudo) pages
      pub small : AreBytes (group_bytes groups pages cells)
      pub whole : bytes_from place bytes ≡ group_bytes groups pages cells ++ rest

    -- the blocks of the first group pass, and behind it the others stand
    first_group : (place groups : ℕ) (pages : List Page) (cells : List Cell) (rest : List ℕ) → Stands place (suc groups) pages cells rest
        → AllByRecursion (PassesBlock pseudo bytes) (group_blocks place (length (take 24 pages))) × Stands (suc place + length (take 24 pages)) groups (drop 24 pages) (drop 24 cells) rest
    first_group place groups pages cells rest stands =
        let Small = λ (byte : ℕ). byte < 256 in
        let walk = walk_block (take 24 cells) in
        let front = flat_map page_block (take 24 pages) in
        let others = group_bytes groups (drop 24 pages) (drop 24 cells) in
        let behind : AreBytes (front ++ others) = AllByRecursion-append_right Small walk (front ++ others) stands.small in
        let is : bytes_from place bytes ≡ walk ++ (front ++ (others ++ rest)) =
        stands.whole ∙ append_assoc walk (front ++ others) rest ∙ ap (λ (rest : List ℕ). walk ++ rest) (append_assoc front others rest) in
        let passed = group_pass place (take 24 pages) (take 24 cells) (others ++ rest) (same_first cells pages stands.all) (few_first cells)
        (front_of IsCell 24 cells stands.cells_valid) (front_of (IsPage second_version pseudo) 24 pages stands.pages_valid) (AllByRecursion-append_left Small front others behind) is in (
          passed.0,
          record {
            all = same_others cells pages stands.all;
            room = omega (arith, length-drop 24 pages, stands.room);
            cells_valid = back_of IsCell 24 cells stands.cells_valid;
            pages_valid = back_of (IsPage second_version pseudo) 24 pages stands.pages_valid;
            small = AllByRecursion-append_right Small front others behind;
            whole = passed.1;
          },
        )

    pub groups_pass : (place groups : ℕ) (pages : List Page) (cells : List Cell) (rest : List ℕ) → Stands place groups pages cells rest
        → AllByRecursion (PassesBlock pseudo bytes) (groups_blocks place groups (length pages)) × (bytes_from (place + (groups + length pages)) bytes ≡ rest)
    groups_pass place zero pages cells rest stands =
        let none : length pages ≡ 0 = omega (arith, stands.room) in
        let same : place + (0 + length pages) ≡ place = omega (arith, none) in (
          tt,
          ap (λ (place : ℕ). bytes_from place bytes) same ∙ stands.whole,
        )
    groups_pass place (suc groups) pages cells rest stands =
        let first = first_group place groups pages cells rest stands in
        let some : length (take 24 pages) ≡ min 24 (length pages) = length-take 24 pages in
        let left : length (drop 24 pages) ≡ length pages - 24 = length-drop 24 pages in
        let others = groups_pass (suc place + length (take 24 pages)) groups (drop 24 pages) (drop 24 cells) rest first.1 in
        let same : place + (suc groups + length pages) ≡ suc place + length (take 24 pages) + (groups + length (drop 24 pages)) = omega (arith, some, left) in
        let Passed = λ (count others : ℕ). AllByRecursion (PassesBlock pseudo bytes) (group_blocks place count ++ groups_blocks (suc place + count) groups others) in (
          subst (λ (others : ℕ). Passed (min 24 (length pages)) others) left
              (subst (λ (count : ℕ). Passed count (length (drop 24 pages))) some
              (AllByRecursion-append (PassesBlock pseudo bytes) (group_blocks place (length (take 24 pages))) _ first.0 others.0)),
          ap (λ (place : ℕ). bytes_from place bytes) same ∙ others.1,
        )

    -- ---- groups that fail

    group_fails : (place count : ℕ) (blocks : List PlacedBlock) (fault : FileFault) → count ≤ 24 → FailsInGroup pseudo place count (bytes_from place bytes) fault → BlocksFail pseudo bytes (group_blocks place count ++ blocks) fault
    group_fails place count blocks fault few (inl fails) = fails_here (OfCells place count) (page_blocks (suc place) count ++ blocks) fault fails
    group_fails place count blocks fault few (inr behind) =
        let next = cells_behind place behind.cells behind.rest behind.image behind.whole in
        fails_behind (OfCells place count ∷ []) (page_blocks (suc place) count ++ blocks) fault (cells_pass place count behind.cells behind.rest behind.all behind.image behind.whole, tt)
        (pages_fail (suc place) count blocks fault (subst (λ (rest : List ℕ). FailsInPages second_version pseudo (suc place) count rest fault) (sym next) behind.fails))

    -- so many full groups, and then one that fails
    next_group_fails : (place groups more count : ℕ) (blocks : List PlacedBlock) (pages : List Page) (cells : List Cell) (rest : List ℕ) (fault : FileFault) → length pages ≡ 24 * groups → 24 * groups < count → Stands place groups pages cells rest
        → FailsInGroup pseudo (place + 25 * groups) (min 24 (count - 24 * groups)) rest fault → BlocksFail pseudo bytes (groups_blocks place (groups + suc more) count ++ blocks) fault
    next_group_fails place zero more count blocks pages cells rest fault full fewer stands fails =
        let one : zero + suc more ≡ suc more = omega arith in
        let here : place + 25 * 0 ≡ place = omega arith in
        let all : min 24 (count - 24 * 0) ≡ min 24 count = omega arith in
        let some = min 24 count in
        let others = groups_blocks (suc place + some) more (count - 24) in
        let there : FailsInGroup pseudo place some (bytes_from place bytes) fault =
        subst (λ (rest : List ℕ). FailsInGroup pseudo place some rest fault) (sym stands.whole)
        (subst (λ (place : ℕ). FailsInGroup pseudo place some rest fault) here (subst (λ (some : ℕ). FailsInGroup pseudo (place + 25 * 0) some rest fault) all fails)) in
        subst (λ (n : ℕ). BlocksFail pseudo bytes (groups_blocks place n count ++ blocks) fault) (sym one)
        (subst (λ (blocks : List PlacedBlock). BlocksFail pseudo bytes blocks fault) (sym (append_assoc (group_blocks place some) others blocks))
        (group_fails place some (others ++ blocks) fault (omega arith) there))
    next_group_fails place (suc groups) more count blocks pages cells rest fault full fewer stands fails =
        let first = first_group place groups pages cells rest stands in
        let some : length (take 24 pages) ≡ 24 = omega (arith, length-take 24 pages, full) in
        let left : length (drop 24 pages) ≡ 24 * groups = omega (arith, length-drop 24 pages, full) in
        let number : suc groups + suc more ≡ suc (groups + suc more) = omega arith in
        let count_is : min 24 count ≡ 24 = omega (arith, fewer) in
        let next = suc place + 24 in
        let there : place + 25 * suc groups ≡ next + 25 * groups = omega arith in
        let rest_of : min 24 (count - 24 * suc groups) ≡ min 24 (count - 24 - 24 * groups) = omega arith in
        let later : FailsInGroup pseudo (next + 25 * groups) (min 24 (count - 24 - 24 * groups)) rest fault =
        subst (λ (place : ℕ). FailsInGroup pseudo place (min 24 (count - 24 - 24 * groups)) rest fault) there (subst (λ (some : ℕ). FailsInGroup pseudo (place + 25 * suc groups) some rest fault) rest_of fails) in
        let passed : AllByRecursion (PassesBlock pseudo bytes) (group_blocks place 24) = subst (λ (some : ℕ). AllByRecursion (PassesBlock pseudo bytes) (group_blocks place some)) some first.0 in
        let stand : Stands next groups (drop 24 pages) (drop 24 cells) rest = subst (λ (some : ℕ). Stands (suc place + some) groups (drop 24 pages) (drop 24 cells) rest) some first.1 in
        let others = groups_blocks next (groups + suc more) (count - 24) in
        let behind = next_group_fails next groups more (count - 24) blocks (drop 24 pages) (drop 24 cells) rest fault left (omega (arith, fewer)) stand later in
        subst (λ (n : ℕ). BlocksFail pseudo bytes (groups_blocks place n count ++ blocks) fault) (sym number)
        (subst (λ (some : ℕ). BlocksFail pseudo bytes ((group_blocks place some ++ groups_blocks (suc place + some) (groups + suc more) (count - 24)) ++ blocks) fault) (sym count_is)
        (subst (λ (blocks : List PlacedBlock). BlocksFail pseudo bytes blocks fault) (sym (append_assoc (group_blocks place 24) others blocks))
        (fails_behind (group_blocks place 24) (others ++ blocks) fault passed behind)))

    pub groups_fail : (place groups count : ℕ) (blocks : List PlacedBlock) (fault : FileFault) → count ≤ 24 * groups → FailsInGroups pseudo place count (bytes_from place bytes) fault
        → BlocksFail pseudo bytes (groups_blocks place groups count ++ blocks) fault
    groups_fail place groups count blocks fault room fails =
        let more = groups - suc fails.groups in
        let number : fails.groups + suc more ≡ groups = omega (arith, fails.fewer, room) in
        subst (λ (n : ℕ). BlocksFail pseudo bytes (groups_blocks place n count ++ blocks) fault) number
        (next_group_fails place fails.groups more count blocks fails.pages fails.cells fails.rest fault fails.full fails.fewer
        (record { all = fails.all ∙ sym fails.full; room = omega (arith, fails.full); cells_valid = fails.cells_valid; pages_valid = fails.pages_valid; small = fails.are_bytes; whole = fails.whole })
        fails.fails)
