-- What is answered of a key of a legal file of version 3: nothing but its map.
use Rattle.std.proofs.Common.{◌≡◌, ℕ, ◌+◌, ◌*◌, ◌/◌, ◌%◌, ◌<◌, ◌^◌, List, [], ◌∷◌, length, take, drop, get_or, slice_get, inl, inr, Option, Some, Result, Ok, Err, sym, ap, ◌∙◌, subst, arith}
use Rattle.std.specs.Prelude.{IfErr, IfOk, MatchResult}
use Rattle.std.specs.List.{AllByRecursion}
use Rattle.std.specs.FinMap.{empty, get}
use Rattle.std.specs.Io.KnownBytes.{Appends}
use Rattle.std.proofs.KnownBytes.{Appends-trans}
use Rattle.std.proofs.lemmas.List.{length-drop, length-map, length-take, length-take-le}
use Rattle.std.proofs.lemmas.Option.{slice_get_within}
use Rattle.exh_keyer.specs.Pseudokey.{any_pseudokey}
use Rattle.exh_keyer.specs.PseudokeyFits.{any_pseudokey-lt}
use Rattle.exh_prefix.specs.Bits.{word_bits}
use Rattle.exh_prefix.specs.Leading.{ward_of, ward_prefix}
use Rattle.exh_prefix.specs.Prefix.{Begins, low_of}
use Rattle.exh_prefix.specs.Version.{Fits, second_version}
use Rattle.exh_table.specs.declared.leaf.Leaf.{Leaf}
use Rattle.exh_table.specs.Table.{TableMap}
use Rattle.exh_table.specs.TableWalk.{walk_in, walk_of}
use Rattle.exh_page.specs.declared.page.Page.{Page}
use Rattle.exh_page.specs.declared.page.Page.TheVariants.{Live}
use Rattle.exh_page.specs.declared.record.Record.{Record}
use Rattle.exh_page.specs.Page.{records_of}
use Rattle.exh_page.specs.Records.{value_at}
use Rattle.exh_legal.specs.Growth.{IsLiveAt}
use Rattle.exh_legal.specs.LegalLaws.{WalksNameHomes}
use Rattle.exh_legal.specs.MapLemmas.{get-map_of}
use Rattle.exh_legal.specs.Pages.{IsAt, IsHome, IsLegal}
use Rattle.exh_legal.specs.WardMapLemmas.{get_in_ward, legal_from}
use Rattle.exh_codec.specs.ImageTestLemmas.{none_first as none_image_first}
use Rattle.exh_codec.specs.CodecLaws.{ImagesAreBlocks, ImagesPass, OnePage}
use Rattle.exh_codec.specs.PageImage.{IsImage}
use Rattle.exh_format.specs.declared.file_fault.FileFault.{FileFault}
use Rattle.exh_format.specs.FirstFailingLemmas.{none_first}
use Rattle.exh_format.specs.FileTests.{PageFails, block_at, bytes_from}
use Rattle.exh_format.specs.Reading.{AreBytes}
use Rattle.exh_cells.specs.declared.cell.Cell.{Cell}
use Rattle.exh_cells.specs.declared.stamped_header.StampedHeader.{StampedHeader}
use Rattle.exh_cells.specs.BlockLaws.{OneStamped, OneWalk, StampedPass, WalksAreBlocks, WalksPass}
use Rattle.exh_cells.specs.CellLaws.{SlotsAreEntries}
use Rattle.exh_cells.specs.Fit.{pages_in as numbers_in}
use Rattle.exh_cells.specs.LegalPlaced.{IsLegalPlacedFile, pages_of_ward, wards_of}
use Rattle.exh_cells.specs.PlacedFile.{PlacedFile, lows_of}
use Rattle.exh_cells.specs.Places.{group_in, page_block_of, walk_block_of}
use Rattle.exh_cells.specs.StampedHeader.{IsStampedImage}
use Rattle.exh_cells.specs.WalkImage.{IsWalkImage}
use Rattle.exh_direct.specs.declared.direct_fault.DirectFault.{DirectFault}
use Rattle.exh_direct.specs.BlockFaultLemmas.{no_fault}
use Rattle.exh_direct.specs.DirectLaws.{IsOtherFault}
use Rattle.exh_direct.specs.KnownBlocks.{BlockFails}
use Rattle.exh_direct.specs.StandingBlocks.{bytes_of_block}
use Rattle.exh_edits.specs.declared.walk_block.WalkBlock.{WalkBlock}
use Rattle.exh_edits.specs.CellWalk.{ComesTo, EndsAt, IsCellAt}
use Rattle.exh_edits.specs.PlacedAnswer.{FailsAtEnd, FailsAtLeaf, FailsInWalk, FindsPlaced, HasValue, IsPagePlaced, NamesPlace, RefusesBehind, RefusesPlaced, pseudokey_in}
use Rattle.exh_edits.specs.declared.home.Home.{Home}
use Rattle.exh_edits.specs.PlacedHome.{ComesHome, FailsAtHome, FailsToHome, IsHomeIn}
use Rattle.exh_edits.specs.PlacedLaws.{FindsInPlaced, map_in}
use Rattle.exh_edits.specs.WalkBlocks.{AreBlocksOf, HeaderFails, IsBlockOf, IsHeaderAt, WalkFails, cells_in, groups_read, pages_in}
use Rattle.exh_edits.proofs.BlockLemmas.{all_at}
use Rattle.exh_edits.proofs.Few.{places_by_group}
use Rattle.exh_edits.proofs.LegalWards.{count_of_wards, length-lows, own_ward, ward_less, ward_there}
use Rattle.exh_edits.proofs.PlacedBlocks.{header_is, header_stands, in_group, page_is, page_stands, slice_group, walk_is, walk_stands}
use Rattle.exh_edits.proofs.PlacedWalks.{IsHere, has_come, of_ward, walk_is as walk_ends, ward_begins, ward_prefix_is}
use Rattle.exh_edits.proofs.WardNumbers.{numbered, page_at_number, page_of_low}

-- the laws that are cited
pub record Laws : Type 0 where
  pub one_page : OnePage
  pub pages_pass : ImagesPass
  pub page_blocks : ImagesAreBlocks
  pub one_header : OneStamped
  pub headers_pass : StampedPass
  pub one_walk : OneWalk
  pub walks_pass : WalksPass
  pub walk_blocks : WalksAreBlocks
  pub slots : SlotsAreEntries
  pub homes : WalksNameHomes

fits_second : Fits 8 second_version
fits_second = record { limit = omega arith; bytes = omega arith }

module _ (laws : Laws) (file : PlacedFile) (tables : List TableMap) (bytes : List ℕ) (small : AreBytes bytes) (legal : IsLegalPlacedFile file tables bytes) where
  abbrev header : StampedHeader
  header = file.header

  abbrev bits : ℕ
  bits = file.header.settings.ward_bits

  abbrev pseudo : List ℕ → ℕ
  pseudo = any_pseudokey file.header.settings.keyer

  -- ---- its header

  same_header : (other : StampedHeader) → IsHeaderAt (Some bytes) other → other ≡ file.header
  same_header other (block, at, image) =
      laws.one_header (block_at 0 bytes) other file.header (subst (IsStampedImage other) at.1 image) (header_is laws.page_blocks laws.walk_blocks file bytes legal.is)

  no_header_fault : (fault : DirectFault) → BlockFails HeaderFails (Some bytes) 0 fault → IsOtherFault fault
  no_header_fault fault fails =
      let stands = header_stands laws.page_blocks laws.walk_blocks file bytes legal.is in
      let passed = laws.headers_pass file.header (block_at 0 bytes) (header_is laws.page_blocks laws.walk_blocks file bytes legal.is) in
      no_fault HeaderFails bytes 0 fault stands.whole (λ (fault : FileFault). λ (first : HeaderFails (block_at 0 bytes) fault). none_first _ _ fault first passed) fails

  -- ---- its walk blocks

  all_pages : pages_in file.header ≡ length file.pages
  all_pages = sym legal.is.valid.count

  length-cells_in : (group : ℕ) → 24 * group < length file.pages → length (in_group group file.cells) ≡ cells_in file.header group
  length-cells_in group some = omega (arith, length-take 24 (drop (24 * group) file.cells), length-drop (24 * group) file.cells, legal.is.valid.all, all_pages)

  walk_there : (group : ℕ) → 24 * group < length file.pages → IsWalkImage (in_group group file.cells) (block_at (walk_block_of group) bytes)
  walk_there group some = walk_is laws.page_blocks laws.walk_blocks file bytes legal.is group some

  same_block : (block : WalkBlock) → IsBlockOf (Some bytes) file.header block → block.cells.items ≡ in_group block.group file.cells
  same_block block is =
      let group = block.group in
      let some : 24 * group < length file.pages = omega (arith, is.within, all_pages) in
      laws.one_walk (block_at (walk_block_of group) bytes) block.cells.items (in_group group file.cells) (is.count ∙ sym (length-cells_in group some)) (subst (IsWalkImage block.cells.items) is.is.1.1 is.is.2) (walk_there group some)

  -- a cell that was read is the file's
  same_cell : (blocks : List WalkBlock) → AreBlocksOf (Some bytes) file.header blocks → (place : ℕ) (cell : Cell) → IsCellAt blocks place cell → slice_get file.cells place ≡ Some cell
  same_cell blocks are place cell there =
      let block = there.block in
      let same : block.cells.items ≡ in_group (place / 24) file.cells = same_block block (all_at (IsBlockOf (Some bytes) file.header) blocks there.index block are.each there.read) ∙ ap (λ (group : ℕ). in_group group file.cells) there.of_group in
      sym (slice_group file.cells place) ∙ ap (λ (cells : List Cell). slice_get cells (place % 24)) (sym same) ∙ there.there

  no_walk_fault : (group : ℕ) (fault : DirectFault) → 24 * group < length file.pages → BlockFails (WalkFails (cells_in file.header group) (walk_block_of group)) (Some bytes) (walk_block_of group) fault → IsOtherFault fault
  no_walk_fault group fault some fails =
      let place = walk_block_of group in
      let count = cells_in file.header group in
      let stands = walk_stands laws.page_blocks laws.walk_blocks file bytes legal.is group some in
      let passed = laws.walks_pass count (in_group group file.cells) (block_at place bytes) (walk_there group some) (length-cells_in group some) in
      no_fault (WalkFails count place) bytes place fault stands.whole (λ (fault : FileFault). λ (named : WalkFails count place (block_at place bytes) fault). none_image_first _ _ named.0 named.1 passed) fails

  -- ---- the page of a pseudokey

  module _ (k : ℕ) (fits : k < 2 ^ 64) where
    abbrev w : ℕ
    w = ward_of bits k

    abbrev own_pages : List Page
    own_pages = pages_of_ward bits file.pages w

    abbrev own_table : TableMap
    own_table = get_or tables w empty

    w_less : w < 2 ^ bits
    w_less = ward_less file tables legal.is.valid legal.legal k

    -- where the walk over blocks of the file ends stands the page that begins the pseudokey
    record HasHome (placed : Leaf) : Type 0 where
      right : Option ℕ
      records : List Record
      at : slice_get file.pages placed.page ≡ Some (Live placed.prefix right records)
      own : IsAt own_pages (numbers_in bits w (take placed.page (lows_of file.pages))) (Live placed.prefix right records)
      begins : Begins placed.prefix k

    module _ (blocks : List WalkBlock) (are : AreBlocksOf (Some bytes) file.header blocks) where
      same_cells : (place : ℕ) (cell : Cell) → IsCellAt blocks place cell → slice_get file.cells place ≡ Some cell
      same_cells = same_cell blocks are

      here : (placed : Leaf) → ComesTo bits k blocks placed → IsHere laws.slots file tables legal.is.valid legal.legal k blocks same_cells placed
      here placed come = has_come laws.slots file tables legal.is.valid legal.legal k blocks same_cells come.0 placed come.1

      front : ward_prefix bits w ≡ take bits (word_bits k)
      front = ward_prefix_is laws.slots file tables legal.is.valid legal.legal k blocks same_cells

      front_begins : Begins (ward_prefix bits w) k
      front_begins = ward_begins laws.slots file tables legal.is.valid legal.legal k blocks same_cells

      has_home : (placed : Leaf) → EndsAt bits k blocks placed → HasHome placed
      has_home placed ends =
          let number = numbers_in bits w (take placed.page (lows_of file.pages)) in
          let leaf : Leaf = record { prefix = placed.prefix; page = number } in
          let on = here placed ends.0 in
          let names = laws.homes file.header.settings.cap pseudo (ward_prefix bits w) own_table [] own_table own_pages k (own_ward file tables legal.is.valid legal.legal w w_less) fits front_begins in
          let goes : walk_in own_table (ward_prefix bits w) k ≡ walk_of own_table bits k = (λ i. walk_in own_table (front i) k) in
          let comes : leaf ≡ walk_of own_table bits k = walk_ends laws.slots file tables legal.is.valid legal.legal k blocks same_cells placed ends in
          let named : walk_of own_table bits k ≡ names.leaf = sym goes ∙ names.walk in
          let same : names.leaf ≡ leaf = sym (comes ∙ named) in
          let live : IsLiveAt own_pages placed.prefix number = subst (λ (leaf : Leaf). IsLiveAt own_pages leaf.prefix leaf.page) same names.live in
          let page = page_of_low file.pages placed.page (low_of placed.prefix) on.low in
          let own = ap (ward_of bits) page.2 ∙ of_ward laws.slots file tables legal.is.valid legal.legal k blocks same_cells placed on in
          let standing : IsAt own_pages number page.0 = numbered bits w file.pages placed.page page.0 page.1 own in
          let one = page_at_number own_pages number page.0 (Live placed.prefix live.0 live.1) standing live.2 in
          record { right = live.0; records = live.1; at = subst (λ (page : Page). slice_get file.pages placed.page ≡ Some page) one page.1; own = live.2; begins = on.on.begins }

      -- ---- its block

      same_page : (placed : Leaf) (home : HasHome placed) (page : Page) → IsPagePlaced (Some bytes) file.header placed.page page → page ≡ Live placed.prefix home.right home.records
      same_page placed home page there =
          let own = Live placed.prefix home.right home.records in
          laws.one_page second_version fits_second pseudo (block_at (page_block_of placed.page) bytes) page own (subst (IsImage second_version pseudo page) there.1.1 there.2) (page_is laws.page_blocks laws.walk_blocks file bytes legal.is placed.page own home.at)

      no_page_fault : (placed : Leaf) (home : HasHome placed) (fault : DirectFault) → BlockFails (PageFails second_version pseudo (page_block_of placed.page)) (Some bytes) (page_block_of placed.page) fault → IsOtherFault fault
      no_page_fault placed home fault fails =
          let place = page_block_of placed.page in
          let own = Live placed.prefix home.right home.records in
          let stands = page_stands laws.page_blocks laws.walk_blocks file bytes legal.is placed.page own home.at in
          let image = page_is laws.page_blocks laws.walk_blocks file bytes legal.is placed.page own home.at in
          let passed = (laws.pages_pass second_version fits_second pseudo (block_at place bytes) (length-take-le 4096 (bytes_from place bytes) stands.whole) (bytes_of_block place bytes small)).0 (own, image) in
          no_fault (PageFails second_version pseudo place) bytes place fault stands.whole (λ (fault : FileFault). λ (named : PageFails second_version pseudo place (block_at place bytes) fault). none_image_first _ _ named.0 named.1 passed) fails

    -- ---- no fault

    no_leaf_fault : (old new : Option (List ℕ)) (blocks : List WalkBlock) (placed : Leaf) (fault : DirectFault) → AreBlocksOf (Some bytes) file.header blocks → ComesTo bits k blocks placed → FailsAtLeaf (Some bytes) file.header placed old new blocks fault → IsOtherFault fault
    no_leaf_fault old new blocks placed fault are come (inl (short, there, next)) = no_walk_fault (group_in placed.page) fault (omega (arith, there, all_pages)) next.fails
    no_leaf_fault old new blocks placed fault are come (inr (outside, none, astray)) =
        let on = here blocks are placed come in
        absurd (omega (arith, outside, all_pages, length-lows file tables legal.is.valid legal.legal, slice_get_within (lows_of file.pages) placed.page (low_of placed.prefix) on.low))

    no_home_fault : (known_first between : Option (List ℕ)) (place : ℕ) (fault : DirectFault) → NamesPlace (Some bytes) file.header k known_first between place → FailsAtHome (Some bytes) file.header k place fault → IsOtherFault fault
    no_home_fault head between place fault names (inl fails) =
        let home = has_home names.blocks names.read.are names.leaf names.ends in
        no_page_fault names.blocks names.read.are names.leaf home fault (subst (λ (place : ℕ). BlockFails (PageFails second_version pseudo (page_block_of place)) (Some bytes) (page_block_of place) fault) names.is fails)
    no_home_fault head between place fault names (inr (page, there, not, astray)) =
        let home = has_home names.blocks names.read.are names.leaf names.ends in
        let same = same_page names.blocks names.read.are names.leaf home page (subst (λ (place : ℕ). IsPagePlaced (Some bytes) file.header place page) names.is there) in
        absurd (not (subst (λ (page : Page). IsHome page k) (sym same) home.begins))

    no_straying : (old new : Option (List ℕ)) (fault : DirectFault) → FailsToHome (Some bytes) file.header k old new fault → IsOtherFault fault
    no_straying old new fault (inl walk) = no_leaf_fault walk.between new walk.blocks walk.leaf fault walk.read.are walk.comes walk.fails
    no_straying old new fault (inr (place, between, names, fails)) = no_home_fault old between place fault names fails

    comes_home : (old : Option (List ℕ)) (home : Home) → ComesHome (Some bytes) file.header k old home → IsHomeIn file k home
    comes_home old home comes =
        let names = comes.names in
        let own = has_home names.blocks names.read.are names.leaf names.ends in
        let same = same_page names.blocks names.read.are names.leaf own home.page (subst (λ (place : ℕ). IsPagePlaced (Some bytes) file.header place home.page) names.is comes.there) in
        record {
          there = ap (slice_get file.pages) names.is ∙ own.at ∙ ap (λ (page : Page). Some page) (sym same);
          is = comes.own;
        }

  -- ---- the value of a key

  module _ (key : List ℕ) where
    abbrev k_of : ℕ
    k_of = pseudokey_in file.header key

    abbrev k_fits : k_of < 2 ^ 64
    k_fits = any_pseudokey-lt file.header.settings.keyer key

    value_is : (blocks : List WalkBlock) (are : AreBlocksOf (Some bytes) file.header blocks) (placed : Leaf) (home : HasHome k_of k_fits placed) → value_at (k_of, key) home.records ≡ get (map_in file) key
    value_is blocks are placed home =
        let cap = file.header.settings.cap in
        let wards = wards_of file in
        let legal_pages = (own_ward file tables legal.is.valid legal.legal (w k_of k_fits) (w_less k_of k_fits)).legal.legal in
        let all_legal = legal_from cap pseudo bits 0 wards (λ number pages there.
        (let same : number ≡ 0 + number = omega arith in subst (λ (n : ℕ). IsLegal cap pseudo (ward_prefix bits n) pages) same (legal.legal.legal.wards number pages there).legal.legal)) in
        sym (get_in_ward cap pseudo bits (w k_of k_fits) wards (own_pages k_of k_fits) key all_legal (count_of_wards file tables legal.is.valid legal.legal) (ward_there file tables legal.is.valid legal.legal (w k_of k_fits) (w_less k_of k_fits)) legal_pages.each (front_begins k_of k_fits blocks are)
        ∙ get-map_of cap pseudo (ward_prefix bits (w k_of k_fits)) (own_pages k_of k_fits) _ (Live placed.prefix home.right home.records) key legal_pages home.own home.begins)

    -- ---- the answer

    groups_within : (blocks : List WalkBlock) → AllByRecursion (IsBlockOf (Some bytes) file.header) blocks → AllByRecursion (λ (group : ℕ). 24 * group < length file.pages) (groups_read blocks)
    groups_within [] all = tt
    groups_within (block ∷ blocks) all = (omega (arith, all.0.within, all_pages), groups_within blocks all.1)

    found_in : (old head between new : Option (List ℕ)) (place : ℕ) (value : Option (List ℕ)) → Appends old head (0 ∷ []) → NamesPlace (Some bytes) file.header k_of head between place → HasValue (Some bytes) file.header key between new place value → FindsInPlaced file key old new value
    found_in old head between new place value heads names found =
        let blocks = names.blocks in
        let are = names.read.are in
        let placed = names.leaf in
        let home = has_home k_of k_fits blocks are placed names.ends in
        let page = same_page k_of k_fits blocks are placed home found.page (subst (λ (place : ℕ). IsPagePlaced (Some bytes) file.header place found.page) names.is found.there) in
        record {
          is = found.is ∙ ap (λ (page : Page). value_at (k_of, key) (records_of page)) page ∙ value_is blocks are placed home;
          groups = groups_read blocks;
          within = groups_within blocks are.each;
          once = are.once;
          few = omega (arith, names.few, length-map blocks (λ (block : WalkBlock). block.group));
          place = place;
          there = omega (arith, names.there, all_pages);
          reads = Appends-trans old head new (0 ∷ []) _ heads (Appends-trans head between new _ (page_block_of place ∷ []) (subst (Appends head between) (places_by_group blocks) names.read.reads) found.reads);
        }

    no_end_fault : (head between new : Option (List ℕ)) (place : ℕ) (fault : DirectFault) → NamesPlace (Some bytes) file.header k_of head between place → FailsAtEnd (Some bytes) file.header key between new place fault → IsOtherFault fault
    no_end_fault head between new place fault names (inl (fails, last)) =
        let home = has_home k_of k_fits names.blocks names.read.are names.leaf names.ends in
        no_page_fault k_of k_fits names.blocks names.read.are names.leaf home fault (subst (λ (place : ℕ). BlockFails (PageFails second_version pseudo (page_block_of place)) (Some bytes) (page_block_of place) fault) names.is fails)
    no_end_fault head between new place fault names (inr (page, there, not, read, astray)) =
        let home = has_home k_of k_fits names.blocks names.read.are names.leaf names.ends in
        let same = same_page k_of k_fits names.blocks names.read.are names.leaf home page (subst (λ (place : ℕ). IsPagePlaced (Some bytes) file.header place page) names.is there) in
        absurd (not (subst (λ (page : Page). IsHome page k_of) (sym same) home.begins))

    no_refusal_behind : (old new : Option (List ℕ)) (fault : DirectFault) (other : StampedHeader) → RefusesBehind (Some bytes) key old new fault other → IsOtherFault fault
    no_refusal_behind old new fault other (head_is, head, heads, inl fails) =
        let walk = subst (λ (header : StampedHeader). FailsInWalk (Some bytes) header (pseudokey_in header key) head new fault) (same_header other head_is) fails in
        no_leaf_fault k_of k_fits walk.between new walk.blocks walk.leaf fault walk.read.are walk.comes walk.fails
    no_refusal_behind old new fault other (head_is, head, heads, inr (place, between, names, fails)) =
        let same = same_header other head_is in
        no_end_fault head between new place fault (subst (λ (header : StampedHeader). NamesPlace (Some bytes) header (pseudokey_in header key) head between place) same names)
        (subst (λ (header : StampedHeader). FailsAtEnd (Some bytes) header key between new place fault) same fails)

    finds_in_file : (old new value : Option (List ℕ)) → FindsPlaced (Some bytes) key old new value → FindsInPlaced file key old new value
    finds_in_file old new value finds =
        let same = same_header finds.header finds.head in
        found_in old finds.first finds.between new finds.place value finds.reads (subst (λ (header : StampedHeader). NamesPlace (Some bytes) header (pseudokey_in header key) finds.first finds.between finds.place) same finds.names)
        (subst (λ (header : StampedHeader). HasValue (Some bytes) header key finds.between new finds.place value) same finds.found)

    no_refusal : (old new : Option (List ℕ)) (fault : DirectFault) → RefusesPlaced (Some bytes) key old new fault → IsOtherFault fault
    no_refusal old new fault (inl refused) = no_header_fault fault refused.0
    no_refusal old new fault (inr (other, behind)) = no_refusal_behind old new fault other behind

-- ---- where the file's bytes are known

pub every : Laws → (known old new : Option (List ℕ)) (key : List ℕ) (result : Result (Option (List ℕ)) DirectFault) → IfOk result (FindsPlaced known key old new) → IfErr result (RefusesPlaced known key old new)
    → (file : PlacedFile) (tables : List TableMap) (bytes : List ℕ) → known ≡ Some bytes → AreBytes bytes → IsLegalPlacedFile file tables bytes → MatchResult result (FindsInPlaced file key old new) IsOtherFault
every laws known old new key (Ok value) found refused file tables bytes knows small legal =
    finds_in_file laws file tables bytes small legal key old new value (subst (λ (known : Option (List ℕ)). FindsPlaced known key old new value) knows found)
every laws known old new key (Err fault) found refused file tables bytes knows small legal =
    no_refusal laws file tables bytes small legal key old new fault (subst (λ (known : Option (List ℕ)). RefusesPlaced known key old new fault) knows refused)

pub every_home : Laws → (known old new : Option (List ℕ)) (header : StampedHeader) (k : ℕ) → k < 2 ^ 64 → (result : Result Home DirectFault) → IfOk result (ComesHome known header k old) → IfErr result (FailsToHome known header k old new)
    → (file : PlacedFile) (tables : List TableMap) (bytes : List ℕ) → known ≡ Some bytes → AreBytes bytes → IsLegalPlacedFile file tables bytes → file.header ≡ header → MatchResult result (IsHomeIn file k) IsOtherFault
every_home laws known old new header k fits (Ok home) found refused file tables bytes knows small legal same =
    comes_home laws file tables bytes small legal k fits old home (subst (λ (known : Option (List ℕ)). ComesHome known file.header k old home) knows (subst (λ (header : StampedHeader). ComesHome known header k old home) (sym same) found))
every_home laws known old new header k fits (Err fault) found refused file tables bytes knows small legal same =
    no_straying laws file tables bytes small legal k fits old new fault (subst (λ (known : Option (List ℕ)). FailsToHome known file.header k old new fault) knows (subst (λ (header : StampedHeader). FailsToHome known header k old new fault) (sym same) refused))
