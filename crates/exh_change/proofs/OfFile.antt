-- Blocks of the file that a draft is, and the faults that none of them has.
use Rattle.std.proofs.Common.{◌≡◌, ℕ, zero, suc, ◌+◌, ◌-◌, ◌*◌, ◌/◌, ◌%◌, ◌<◌, min, List, [], ◌∷◌, ◌++◌, length, take, drop, slice_get, slice_set, Option, Some, Result, Ok, Err, refl, sym, ap, ◌∙◌, subst, arith}
use Rattle.std.specs.Prelude.{IsErrAnd, MatchResult, OnOk}
use Rattle.std.specs.List.{AllByRecursion}
use Rattle.std.proofs.lemmas.List.{drop-append-le, drop-set-add, length-drop, length-take, length_push, take_all}
use Rattle.exh_keyer.specs.Pseudokey.{any_pseudokey}
use Rattle.exh_prefix.specs.Version.{second_version}
use Rattle.exh_page.specs.declared.page.Page.{Page}
use Rattle.exh_legal.specs.MapLemmas.{page_at}
use Rattle.exh_codec.specs.PageImage.{IsImage, IsPage}
use Rattle.exh_format.specs.PageFile.{page_block}
use Rattle.exh_cells.specs.Places.{page_block_of}
use Rattle.exh_codec.specs.declared.image_fault.ImageFault.{ImageFault}
use Rattle.exh_codec.specs.declared.image_fault.ImageFault.TheVariants as images
use Rattle.exh_format.specs.FileTests.{IsWhole}
use Rattle.exh_cells.specs.declared.cell.Cell.{Cell}
use Rattle.exh_cells.specs.PlacedFile.{IsPlacedFile, PlacedFile, stamped_block, walk_block}
use Rattle.exh_cells.specs.StampedHeader.{IsStampedImage}
use Rattle.exh_cells.specs.WalkImage.{IsCell, IsWalkImage}
use Rattle.exh_direct.specs.declared.direct_fault.DirectFault.{DirectFault}
use Rattle.exh_direct.specs.declared.direct_fault.DirectFault.TheVariants.{Astray, File, Memory, Read}
use Rattle.exh_direct.specs.DirectFault.{fault_at}
use Rattle.exh_direct.specs.DirectLaws.{IsOtherFault}
use Rattle.exh_direct.specs.KnownBlocks.{IsBlockAt, IsCutOff}
use Rattle.exh_edits.specs.EditLaws.{HeadersStand, PagesStand, StandsAt}
use Rattle.exh_edits.specs.PlacedEdits.{group_cells}

-- ---- faults

pub other_fault : {T : Type 0} (result : Result T DirectFault) (fault : DirectFault) (P : T → Type 0) → IsErrAnd result (λ e. e ≡ fault) → IsOtherFault fault → MatchResult result P IsOtherFault
other_fault (Ok value) fault P is other = absurd is
other_fault (Err e) fault P is other = subst IsOtherFault (sym is) other

cut_off_some : (base : List ℕ) (place : ℕ) (fault : DirectFault) → IsWhole place base → IsCutOff (Some base) place fault → IsOtherFault fault
cut_off_some base place (File fault) whole cut = absurd (omega (arith, whole, cut.1))
cut_off_some base place Astray whole cut = absurd cut
cut_off_some base place Read whole cut = tt
cut_off_some base place Memory whole cut = tt

pub cut_off : (known : Option (List ℕ)) (base : List ℕ) (place : ℕ) (fault : DirectFault) → known ≡ Some base → IsWhole place base → IsCutOff known place fault → IsOtherFault fault
cut_off known base place fault knows whole cut = cut_off_some base place fault whole (subst (λ (known : Option (List ℕ)). IsCutOff known place fault) knows cut)

pub memory_fault : (place : ℕ) (image : ImageFault) (fault : DirectFault) → fault ≡ fault_at place image → image ≡ images.Memory → IsOtherFault fault
memory_fault place image fault is memory = subst IsOtherFault (sym (is ∙ ap (fault_at place) memory)) tt

-- ---- its header

pub header_read : HeadersStand → (known : Option (List ℕ)) (file : PlacedFile) (base block : List ℕ) → known ≡ Some base → IsPlacedFile file base → IsBlockAt known 0 block → IsStampedImage file.header block
unfolding stamped_block
header_read stand known file base block knows is at =
    let there : IsBlockAt (Some base) 0 block = subst (λ (known : Option (List ℕ)). IsBlockAt known 0 block) knows at in
    record { valid = is.valid.header; whole = there.1 ∙ (stand file base is).is }

-- ---- its cells

take_set : {X : Type 0} (n : ℕ) (xs : List X) (i : ℕ) (x : X) → i < n → take n (slice_set xs i x) ≡ slice_set (take n xs) i x
take_set zero xs i x less = absurd (omega (arith, less))
take_set (suc n) [] i x less = refl
take_set (suc n) (y ∷ xs) zero x less = refl
take_set (suc n) (y ∷ xs) (suc i) x less = ap (λ (xs : List _). y ∷ xs) (take_set n xs i x (omega (arith, less)))

pub group_set : (cells : List Cell) (place : ℕ) (cell : Cell) → slice_set (group_cells (place / 24) cells) (place % 24) cell ≡ group_cells (place / 24) (slice_set cells place cell)
group_set cells place cell =
    let from = 24 * (place / 24) in
    let whole : from + place % 24 ≡ place = omega arith in
    let less : place % 24 < 24 = omega arith in
    sym (take_set 24 (drop from cells) (place % 24) cell less)
    ∙ ap (take 24) (sym (drop-set-add from cells (place % 24) cell)) ∙ ap (λ (place : ℕ). take 24 (drop from (slice_set cells place cell))) whole

slice_take : {X : Type 0} (n : ℕ) (xs : List X) (i : ℕ) → i < n → slice_get (take n xs) i ≡ slice_get xs i
slice_take zero xs i less = absurd (omega (arith, less))
slice_take (suc n) [] i less = refl
slice_take (suc n) (y ∷ xs) zero less = refl
slice_take (suc n) (y ∷ xs) (suc i) less = slice_take n xs i (omega (arith, less))

slice_drop : {X : Type 0} (n : ℕ) (xs : List X) (i : ℕ) → slice_get (drop n xs) i ≡ slice_get xs (n + i)
slice_drop zero xs i = let same : i ≡ 0 + i = omega arith in ap (slice_get xs) same
slice_drop (suc n) [] i = refl
slice_drop (suc n) (y ∷ xs) i = slice_drop n xs i ∙ (let same : suc (n + i) ≡ suc n + i = omega arith in ap (slice_get (y ∷ xs)) same)

pub slice_group : (cells : List Cell) (place : ℕ) → slice_get (group_cells (place / 24) cells) (place % 24) ≡ slice_get cells place
slice_group cells place =
    let less : place % 24 < 24 = omega arith in
    let whole : 24 * (place / 24) + place % 24 ≡ place = omega arith in
    slice_take 24 (drop (24 * (place / 24)) cells) (place % 24) less ∙ slice_drop (24 * (place / 24)) cells (place % 24) ∙ ap (slice_get cells) whole

all_take : (n : ℕ) (cells : List Cell) → AllByRecursion IsCell cells → AllByRecursion IsCell (take n cells)
all_take zero cells all = tt
all_take (suc n) [] all = tt
all_take (suc n) (cell ∷ cells) all = (all.0, all_take n cells all.1)

all_drop : (n : ℕ) (cells : List Cell) → AllByRecursion IsCell cells → AllByRecursion IsCell (drop n cells)
all_drop zero cells all = all
all_drop (suc n) [] all = tt
all_drop (suc n) (cell ∷ cells) all = all_drop n cells all.1

pub walk_read : (cells : List Cell) (group : ℕ) (block : List ℕ) → AllByRecursion IsCell cells → block ≡ walk_block (group_cells group cells) → IsWalkImage (group_cells group cells) block
unfolding walk_block
walk_read cells group block valid is = record { few = omega (arith, length-take 24 (drop (24 * group) cells)); valid = all_take 24 (drop (24 * group) cells) (all_drop (24 * group) cells valid); whole = is }

pub length-group : (cells : List Cell) (group : ℕ) → length (group_cells group cells) ≡ min 24 (length cells - 24 * group)
length-group cells group = omega (arith, length-take 24 (drop (24 * group) cells), length-drop (24 * group) cells)

pub group_push : (cells : List Cell) (cell : Cell) (place : ℕ) → place ≡ length cells → group_cells (place / 24) cells ++ cell ∷ [] ≡ group_cells (place / 24) (cells ++ cell ∷ [])
group_push cells cell place is =
    let from = 24 * (place / 24) in
    let own : length (drop from cells) < 24 = omega (arith, length-drop from cells, is) in
    ap (λ (cells : List Cell). cells ++ cell ∷ []) (take_all 24 (drop from cells) (omega (arith, own)))
    ∙ sym (take_all 24 (drop from cells ++ cell ∷ []) (omega (arith, own, length_push (drop from cells) cell)))
    ∙ ap (take 24) (sym (drop-append-le from cells (cell ∷ []) (omega (arith, is))))

-- ---- its pages

pub page_read : (file : PlacedFile) (bytes block : List ℕ) (place at : ℕ) (page : Page) → PagesStand → IsPlacedFile file bytes → slice_get file.pages place ≡ Some page → at ≡ page_block_of place → StandsAt bytes at block → IsImage second_version (any_pseudokey file.header.settings.keyer) page block
unfolding page_block
page_read file bytes block place at page stand is there at_is stands =
    let here = subst (λ (at : ℕ). StandsAt bytes at block) at_is stands in
    record { valid = page_at (IsPage second_version (any_pseudokey file.header.settings.keyer)) file.pages place page is.valid.pages there; whole = sym here.is ∙ (stand file bytes place page is there).is }

-- ---- results

pub on_ok : {T E : Type 0} (result : Result T E) (P Q : Type 0) → (P → Q) → OnOk result P → OnOk result Q
on_ok (Ok value) P Q next holds = next holds
on_ok (Err error) P Q next holds = tt
