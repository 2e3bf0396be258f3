-- Groups that are read one after the other.
use Rattle.std.proofs.Common.{◌≡◌, ℕ, zero, suc, ◌+◌, ◌-◌, ◌*◌, ◌<◌, ◌≤◌, min, inr, List, [], ◌∷◌, ◌++◌, length, take, drop, Option, None, Some, IfSome, sym, ap, ◌∙◌, subst, append_assoc, append-nil, arith}
use Rattle.std.proofs.lemmas.List.{length-append, length-drop, length-map, take_all, take-append-le, drop-append-le}
use Rattle.std.specs.List.{flat_map}
use Rattle.std.specs.Io.KnownBytes.{Consumes}
use Rattle.std.proofs.KnownBytes.{Consumes-nil, Consumes-trans}
use Rattle.exh_prefix.specs.Version.{second_version}
use Rattle.exh_prefix.specs.PrefixListLemmas.{AllByRecursion-append}
use Rattle.exh_keyer.specs.declared.any_keyer.AnyKeyer.{AnyKeyer}
use Rattle.exh_page.specs.declared.page.Page.{Page}
use Rattle.exh_page.specs.Page.{low_bound}
use Rattle.exh_page.specs.declared.file_settings.FileSettings.{FileSettings}
use Rattle.exh_codec.specs.PageImage.{IsPage}
use Rattle.exh_format.specs.declared.file_fault.FileFault.{FileFault}
use Rattle.exh_format.specs.PageFile.{page_block}
use Rattle.exh_format.specs.Reading.{AreBytes, FailsInPages, GivesPages, IsBlock}
use Rattle.exh_cells.specs.declared.cell.Cell.{Cell}
use Rattle.exh_cells.specs.PlacedFile.{group_bytes, walk_block}
use Rattle.exh_cells.specs.WalkImage.{IsCell, IsWalkImage}
use Rattle.exh_versions.specs.declared.placed_pages.PlacedPages.{PlacedPages}
use Rattle.exh_versions.specs.Reading.{AddsPages, ArePlaced, FailsInGroup, FailsInGroups, GivesGroup, GivesGroups, HasPlaced}

-- ---- pages that were put

module _ {W : Type 0} (own : W → List Page) (Takes : W → Page → Type 0) (settings : FileSettings AnyKeyer) where
  pub adds_none : (placed : PlacedPages W) → AddsPages own Takes settings [] placed placed
  adds_none placed = λ before are. subst (λ (pages : List Page). ArePlaced own Takes settings pages placed) (sym (append-nil before)) are

  pub adds_more : (a b c : PlacedPages W) (pages more : List Page) → AddsPages own Takes settings pages a b → AddsPages own Takes settings more b c → AddsPages own Takes settings (pages ++ more) a c
  adds_more a b c pages more first second = λ before are. subst (λ (pages : List Page). ArePlaced own Takes settings pages c) (append_assoc before pages more) (second (before ++ pages) (first before are))

  pub count_of_lows : (placed : PlacedPages W) (pages : List Page) → ArePlaced own Takes settings pages placed → length placed.lows.items ≡ length pages
  count_of_lows placed pages are = ap length are.lows ∙ length-map pages low_bound

  pub has_after : (old new : PlacedPages W) (pages : List Page) → HasPlaced own Takes settings old → AddsPages own Takes settings pages old new → HasPlaced own Takes settings new
  has_after old new pages has adds = (has.0 ++ pages, adds has.0 has.1)

  pub lows_after : (old new : PlacedPages W) (pages : List Page) → HasPlaced own Takes settings old → AddsPages own Takes settings pages old new → length new.lows.items ≡ length old.lows.items + length pages
  lows_after old new pages has adds =
      omega (arith, count_of_lows old has.0 has.1, count_of_lows new (has.0 ++ pages) (adds has.0 has.1), length-append has.0 pages)

-- ---- a group

block_is : (cells : List Cell) (block : List ℕ) → IsWalkImage cells block → block ≡ walk_block cells
unfolding walk_block
block_is cells block image = image.whole

module _ (pseudo : List ℕ → ℕ) where
  pub group_given : (a b c : Option (List ℕ)) (pages : List Page) (cells : List Cell) (block : List ℕ) → Consumes a b block → IsWalkImage cells block → IsBlock block → GivesPages second_version pseudo b c pages → GivesGroup pseudo a c pages cells
  group_given a b c pages cells block given image is gives =
      let bodies = flat_map page_block pages in
      let same = block_is cells block image in
      record {
        given = subst (λ (block : List ℕ). Consumes a c (block ++ bodies)) same (Consumes-trans a b c block bodies given gives.given);
        are_bytes = subst (λ (block : List ℕ). AreBytes (block ++ bodies)) same (AllByRecursion-append (λ (byte : ℕ). byte < 256) block bodies is.1 gives.are_bytes);
        pages_valid = gives.valid;
        cells_valid = image.valid;
      }

  -- a page of the group that fails
  pub fails_in_group : (a b : Option (List ℕ)) (place next count : ℕ) (cells : List Cell) (block : List ℕ) (fault : FileFault) → Consumes a b block → IsWalkImage cells block → length cells ≡ count → next ≡ suc place
      → IfSome b (λ bytes. FailsInPages second_version pseudo next count bytes fault) → IfSome a (λ bytes. FailsInGroup pseudo place count bytes fault)
  fails_in_group None b place next count cells block fault given image all there fails = tt
  fails_in_group (Some bytes) None place next count cells block fault given image all there fails = absurd given
  fails_in_group (Some bytes) (Some rest) place next count cells block fault given image all there fails =
      let same = block_is cells block image in
      inr (record {
        cells = cells;
        rest = rest;
        image = subst (IsWalkImage cells) same image;
        all = all;
        whole = given ∙ ap (λ (block : List ℕ). block ++ rest) same;
        fails = subst (λ (place : ℕ). FailsInPages second_version pseudo place count rest fault) there fails;
      })

  -- ---- groups

  pub no_groups : (known : Option (List ℕ)) → GivesGroups pseudo known known 0 [] []
  no_groups known = record { given = Consumes-nil known; are_bytes = tt; pages_valid = tt; cells_valid = tt }

  bytes_more : (groups : ℕ) (pages more : List Page) (cells more_cells : List Cell) → length pages ≡ 24 * groups → length cells ≡ 24 * groups → length more ≤ 24 → length more_cells ≤ 24
      → group_bytes (suc groups) (pages ++ more) (cells ++ more_cells) ≡ group_bytes groups pages cells ++ (walk_block more_cells ++ flat_map page_block more)
  bytes_more zero [] more [] more_cells full cells_full few cells_few =
      (λ i. walk_block (take_all 24 more_cells cells_few i) ++ (flat_map page_block (take_all 24 more few i) ++ [])) ∙ ap (λ (bodies : List ℕ). walk_block more_cells ++ bodies) (append-nil (flat_map page_block more))
  bytes_more zero (p ∷ pages) more cells more_cells full cells_full few cells_few = absurd (omega (arith, full))
  bytes_more zero [] more (c ∷ cells) more_cells full cells_full few cells_few = absurd (omega (arith, cells_full))
  bytes_more (suc groups) pages more cells more_cells full cells_full few cells_few =
      let front : take 24 (pages ++ more) ≡ take 24 pages = take-append-le 24 pages more (omega (arith, full)) in
      let back : drop 24 (pages ++ more) ≡ drop 24 pages ++ more = drop-append-le 24 pages more (omega (arith, full)) in
      let cells_front : take 24 (cells ++ more_cells) ≡ take 24 cells = take-append-le 24 cells more_cells (omega (arith, cells_full)) in
      let cells_back : drop 24 (cells ++ more_cells) ≡ drop 24 cells ++ more_cells = drop-append-le 24 cells more_cells (omega (arith, cells_full)) in
      let walk = walk_block (take 24 cells) in
      let bodies = flat_map page_block (take 24 pages) in
      let others = group_bytes groups (drop 24 pages) (drop 24 cells) in
      let last = walk_block more_cells ++ flat_map page_block more in
      let later = bytes_more groups (drop 24 pages) more (drop 24 cells) more_cells (omega (arith, length-drop 24 pages, full)) (omega (arith, length-drop 24 cells, cells_full)) few cells_few in
      (λ i. walk_block (cells_front i) ++ (flat_map page_block (front i) ++ group_bytes (suc groups) (back i) (cells_back i)))
      ∙ ap (λ (rest : List ℕ). walk ++ (bodies ++ rest)) later
      ∙ ap (λ (rest : List ℕ). walk ++ rest) (sym (append_assoc bodies others last))
      ∙ sym (append_assoc walk (bodies ++ others) last)

  pub more_groups : (a b c : Option (List ℕ)) (groups next : ℕ) (pages more : List Page) (cells more_cells : List Cell) → GivesGroups pseudo a b groups pages cells → GivesGroup pseudo b c more more_cells
      → length pages ≡ 24 * groups → length cells ≡ 24 * groups → length more ≤ 24 → length more_cells ≤ 24 → next ≡ suc groups → GivesGroups pseudo a c next (pages ++ more) (cells ++ more_cells)
  more_groups a b c groups next pages more cells more_cells first second full cells_full few cells_few next_is =
      let bytes = group_bytes groups pages cells in
      let last = walk_block more_cells ++ flat_map page_block more in
      let joined : group_bytes next (pages ++ more) (cells ++ more_cells) ≡ bytes ++ last = ap (λ (n : ℕ). group_bytes n (pages ++ more) (cells ++ more_cells)) next_is ∙ bytes_more groups pages more cells more_cells full cells_full few cells_few in
      record {
        given = subst (Consumes a c) (sym joined) (Consumes-trans a b c bytes last first.given second.given);
        are_bytes = subst AreBytes (sym joined) (AllByRecursion-append (λ (byte : ℕ). byte < 256) bytes last first.are_bytes second.are_bytes);
        pages_valid = AllByRecursion-append (IsPage second_version pseudo) pages more first.pages_valid second.pages_valid;
        cells_valid = AllByRecursion-append IsCell cells more_cells first.cells_valid second.cells_valid;
      }

  -- a group that fails
  pub fails_in_groups : (a b : Option (List ℕ)) (place next groups count some : ℕ) (pages : List Page) (cells : List Cell) (fault : FileFault) → GivesGroups pseudo a b groups pages cells → 24 * groups < count
      → length pages ≡ 24 * groups → length cells ≡ 24 * groups → next ≡ place + 25 * groups → some ≡ min 24 (count - 24 * groups)
      → IfSome b (λ bytes. FailsInGroup pseudo next some bytes fault) → IfSome a (λ bytes. FailsInGroups pseudo place count bytes fault)
  fails_in_groups None b place next groups count some pages cells fault gives fewer full all there some_is fails = tt
  fails_in_groups (Some bytes) None place next groups count some pages cells fault gives fewer full all there some_is fails = absurd gives.given
  fails_in_groups (Some bytes) (Some rest) place next groups count some pages cells fault gives fewer full all there some_is fails = record {
    groups = groups;
    pages = pages;
    cells = cells;
    rest = rest;
    fewer = fewer;
    full = full;
    all = all;
    whole = gives.given;
    are_bytes = gives.are_bytes;
    pages_valid = gives.pages_valid;
    cells_valid = gives.cells_valid;
    fails = subst (λ (place : ℕ). FailsInGroup pseudo place (min 24 (count - 24 * groups)) rest fault) there (subst (λ (some : ℕ). FailsInGroup pseudo next some rest fault) some_is fails);
  }
