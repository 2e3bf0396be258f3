-- Walk blocks: their cells, and their tests.
use Rattle.std.proofs.Common.{◌≡◌, ℕ, ◌+◌, ◌-◌, ◌*◌, ◌≤◌, List, [], ◌∷◌, ◌++◌, length, take, drop, replicate, refl, sym, ap, ◌∙◌, append_assoc, append-nil, subst, arith}
use Rattle.std.specs.List.{AllByRecursion, flat_map}
use Rattle.std.proofs.lemmas.List.{take_at, drop_at, drop-drop, take-append-drop, length-append}
use Rattle.std.proofs.lemmas.List.Concat.{flat_map-append}
use Rattle.exh_prefix.specs.PrefixListLemmas.{AllByRecursion-push, AllByRecursion-weaker}
use Rattle.exh_codec.specs.Block.{IsSealed, AreZero}
use Rattle.exh_codec.specs.BlockLemmas.{length-padded, padded_front, padded_rest, padded_from, sealed_content, sealed_is_sealed, sealed_from}
use Rattle.exh_codec.specs.PageImage.{padded}
use Rattle.exh_codec.specs.ImageTests.{IsFirst}
use Rattle.exh_codec.specs.declared.image_fault.ImageFault.TheVariants as images
use Rattle.exh_cells.specs.declared.cell.Cell.{Cell}
use Rattle.exh_cells.specs.WalkImage.{AreCells, IsCell, IsRead, IsTidy, IsWalkImage, cell_bytes}
use Rattle.exh_cells.specs.WalkTests.{IsWalkPadded, PassesWalk, walk_tests}
use Rattle.exh_cells.proofs.CellBytes.{length-cells, same_cells}
use Rattle.std.specs.Prelude.{slice_range}

-- ---- cells, one after the other

pub rest_behind : (count : ℕ) (bytes : List ℕ) (cells : List Cell) (rest : List ℕ) → AreCells count bytes cells rest → rest ≡ drop (164 * count) bytes
rest_behind count bytes cells rest are =
    let len : length (flat_map cell_bytes cells) ≡ 164 * count = length-cells cells are.read ∙ ap (λ (n : ℕ). 164 * n) are.all in
    sym (ap (drop (164 * count)) are.whole ∙ drop_at (flat_map cell_bytes cells) rest (164 * count) len)

pub front_before : (count : ℕ) (bytes : List ℕ) (cells : List Cell) (rest : List ℕ) → AreCells count bytes cells rest → take (164 * count) bytes ≡ flat_map cell_bytes cells
front_before count bytes cells rest are =
    let len : length (flat_map cell_bytes cells) ≡ 164 * count = length-cells cells are.read ∙ ap (λ (n : ℕ). 164 * n) are.all in
    ap (take (164 * count)) are.whole ∙ take_at (flat_map cell_bytes cells) rest (164 * count) len

-- the next cell, whose bytes stand behind the others
pub next_cell : (number : ℕ) (bytes : List ℕ) (cells : List Cell) (cell : Cell) → AreCells number bytes cells (drop (164 * number) bytes) → IsRead cell
    → cell_bytes cell ≡ take 164 (drop (164 * number) bytes) → AreCells (number + 1) bytes (cells ++ cell ∷ []) (drop (164 * (number + 1)) bytes)
next_cell number bytes cells cell are read front =
    let place : 164 * number + 164 ≡ 164 * (number + 1) = omega arith in
    let rest = drop (164 * number) bytes in
    let after = drop (164 * (number + 1)) bytes in
    let images = flat_map cell_bytes cells in
    let next : rest ≡ cell_bytes cell ++ after =
    sym (take-append-drop 164 rest) ∙ ap (λ (front : List ℕ). front ++ drop 164 rest) (sym front)
    ∙ ap (λ (back : List ℕ). cell_bytes cell ++ back) (drop-drop 164 (164 * number) bytes ∙ ap (λ (n : ℕ). drop n bytes) place) in
    let grown : images ++ cell_bytes cell ≡ flat_map cell_bytes (cells ++ cell ∷ []) =
    ap (λ (image : List ℕ). images ++ image) (sym (append-nil (cell_bytes cell))) ∙ sym (flat_map-append cell_bytes cells (cell ∷ [])) in
    record {
      all = omega (arith, are.all, length-append cells (cell ∷ []));
      read = AllByRecursion-push IsRead cells cell are.read read;
      whole = are.whole ∙ ap (λ (bytes : List ℕ). images ++ bytes) next ∙ sym (append_assoc images (cell_bytes cell) after) ∙ ap (λ (bytes : List ℕ). bytes ++ after) grown;
    }

pub one_list : (count : ℕ) (block : List ℕ) (one other : List Cell) (rest after : List ℕ) → AreCells count block one rest → AreCells count block other after → one ≡ other
one_list count block one other rest after first second = same_cells one other rest after (first.all ∙ sym second.all) first.read second.read (sym first.whole ∙ second.whole)

-- ---- images

pub cells_from : (cells : List Cell) → AllByRecursion IsRead cells → AllByRecursion IsTidy cells → AllByRecursion IsCell cells
cells_from [] read tidy = tt
cells_from (cell ∷ cells) read tidy = (record { read = read.0; tidy = tidy.0 }, cells_from cells read.1 tidy.1)

pub read_of : (cells : List Cell) → AllByRecursion IsCell cells → AllByRecursion IsRead cells
read_of cells valid = AllByRecursion-weaker IsCell IsRead (λ cell is. is.read) cells valid

pub tidy_of : (cells : List Cell) → AllByRecursion IsCell cells → AllByRecursion IsTidy cells
tidy_of cells valid = AllByRecursion-weaker IsCell IsTidy (λ cell is. is.tidy) cells valid

-- what an image of so many cells says
pub record Says (count : ℕ) (cells : List Cell) (block : List ℕ) : Type 0 where
  pub is_sealed : IsSealed block
  pub are : AreCells count block cells (drop (164 * count) block)
  pub tidy : AllByRecursion IsTidy cells
  pub behind : AreZero (slice_range block (164 * count) 4064)

pub says : (cells : List Cell) (block : List ℕ) → IsWalkImage cells block → Says (length cells) cells block
says cells block image =
    let used = flat_map cell_bytes cells in
    let read = read_of cells image.valid in
    let len : length used ≡ 164 * length cells = length-cells cells read in
    let short : length used ≤ 4064 = omega (arith, len, image.few) in
    let whole = length-padded 4064 used short in
    let content = sealed_content block (padded 4064 used) whole image.whole in
    let are : AreCells (length cells) block cells (replicate (4064 - length used) 0 ++ drop 4064 block) = record { all = refl; read = read; whole = padded_front block used 4064 content } in
    record {
      is_sealed = sealed_is_sealed block (padded 4064 used) whole image.whole;
      are = subst (AreCells (length cells) block cells) (rest_behind (length cells) block cells (replicate (4064 - length used) 0 ++ drop 4064 block) are) are;
      tidy = tidy_of cells image.valid;
      behind = padded_rest block used 4064 (164 * length cells) len content;
    }

pub says_of : (count : ℕ) (cells : List Cell) (block : List ℕ) → IsWalkImage cells block → length cells ≡ count → Says count cells block
says_of count cells block image len = subst (λ (n : ℕ). Says n cells block) len (says cells block image)

pub image_from : (count : ℕ) (cells : List Cell) (block : List ℕ) → length block ≡ 4096 → count ≤ 24 → Says count cells block → IsWalkImage cells block
image_from count cells block long few said =
    let used = flat_map cell_bytes cells in
    let len : length used ≡ 164 * count = length-cells cells said.are.read ∙ ap (λ (n : ℕ). 164 * n) said.are.all in
    let content : take 4064 block ≡ padded 4064 used =
    padded_from block used 4064 (164 * count) len (omega (arith, few)) (omega (arith, long)) (front_before count block cells (drop (164 * count) block) said.are) said.behind in
    record { few = omega (arith, few, said.are.all); valid = cells_from cells said.are.read said.tidy; whole = sealed_from block (padded 4064 used) content said.is_sealed }

-- ---- the first test that fails

pub first_digest : (count : ℕ) (block : List ℕ) → (IsSealed block → ⊥) → IsFirst (PassesWalk count block) walk_tests images.Digest
first_digest count block fails = record { before = []; after = images.Padding ∷ []; stands = refl; passed = tt; fails = fails }

pub first_padding : (count : ℕ) (block : List ℕ) → IsSealed block → (IsWalkPadded count block → ⊥) → IsFirst (PassesWalk count block) walk_tests images.Padding
first_padding count block is_sealed fails = record { before = images.Digest ∷ []; after = []; stands = refl; passed = (is_sealed, tt); fails = fails }

-- the cells that the block says decide whether they are tidy
pub tidy_said : (count : ℕ) (block : List ℕ) (cells : List Cell) (rest : List ℕ) → AreCells count block cells rest → IsWalkPadded count block → AllByRecursion IsTidy cells
tidy_said count block cells rest are padded = padded.tidy cells rest are
