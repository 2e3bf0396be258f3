-- The bytes of places, one after the other, are those of groups.
use Rattle.std.proofs.Common.{◌≡◌, ℕ, zero, suc, ◌+◌, ◌-◌, ◌%◌, ◌<◌, Bool, nat_eq, eq-eqb, cond, false, List, [], ◌∷◌, ◌++◌, length, take, drop, refl, sym, ap, ◌∙◌, inl, inr, append_assoc, append-nil, arith, Option, Some, ◌≤◌}
use Rattle.std.specs.List.{flat_map, range_with_len, slice_get}
use Rattle.std.specs.Option.{option_map_or}
use Rattle.std.proofs.lemmas.Bool.{cases_lt}
use Rattle.std.proofs.lemmas.Bool.Decides.{eqb_tells}
use Rattle.std.proofs.lemmas.List.{length-drop, take_all}
use Rattle.std.proofs.lemmas.List.Concat.{flat_map-append}
use Rattle.exh_page.specs.declared.page.Page.{Page}
use Rattle.exh_cells.specs.PageFile.{page_block}
use Rattle.exh_cells.specs.declared.cell.Cell.{Cell}
use Rattle.exh_cells.specs.Places.{groups_of}
use Rattle.exh_cells.specs.PlacedFile.{PlacedFile, group_bytes, placed_bytes, stamped_block, walk_block}
use Rattle.exh_placing.specs.Writing.{bytes_to, opening, place_bytes}
use Rattle.exh_placing.proofs.Orders.{flat_more}

-- ---- lists

take_next : {A : Type 0} (n : ℕ) (xs : List A) → take (n + 1) xs ≡ take n xs ++ take 1 (drop n xs)
take_next zero [] = refl
take_next zero (x ∷ xs) = refl
take_next (suc n) [] = let next : suc n + 1 ≡ suc (n + 1) = omega arith in ap (λ (n : ℕ). take n []) next
take_next (suc n) (x ∷ xs) = let next : suc n + 1 ≡ suc (n + 1) = omega arith in ap (λ (n : ℕ). take n (x ∷ xs)) next ∙ ap (λ (rest : List _). x ∷ rest) (take_next n xs)

none : {A : Type 0} (m : ℕ) → [] ≡ drop m (let xs : List A = [] in xs)
none zero = refl
none (suc m) = refl

drop_on : {A : Type 0} (n m : ℕ) (xs : List A) → drop (n + m) xs ≡ drop m (drop n xs)
drop_on zero m xs = let same : 0 + m ≡ m = omega arith in ap (λ (n : ℕ). drop n xs) same
drop_on (suc n) m [] = let next : suc n + m ≡ suc (n + m) = omega arith in ap (λ (n : ℕ). drop n []) next ∙ none m
drop_on (suc n) m (x ∷ xs) = let next : suc n + m ≡ suc (n + m) = omega arith in ap (λ (n : ℕ). drop n (x ∷ xs)) next ∙ drop_on n m xs

range_split : (m n i : ℕ) → range_with_len i (n + m) ≡ range_with_len i n ++ range_with_len (i + n) m
range_split m zero i =
    let count : 0 + m ≡ m = omega arith in
    let from : i ≡ i + 0 = omega arith in
    (λ j. range_with_len (from j) (count j))
range_split m (suc n) i =
    let next : suc n + m ≡ suc (n + m) = omega arith in
    let on : i + 1 + n ≡ i + suc n = omega arith in
    ap (range_with_len i) next ∙ ap (λ (rest : List ℕ). i ∷ rest) (range_split m n (i + 1) ∙ ap (λ (from : ℕ). range_with_len (i + 1) n ++ range_with_len from m) on)

-- numbers further on, seen from there
flat_shift : {A : Type 0} (f g : ℕ → List A) (by : ℕ) → ((i : ℕ) → f (by + i) ≡ g i) → (n i : ℕ) → flat_map f (range_with_len (by + i) n) ≡ flat_map g (range_with_len i n)
flat_shift f g by same zero i = refl
flat_shift f g by same (suc n) i =
    let next : by + i + 1 ≡ by + (i + 1) = omega arith in
    (λ j. same i j ++ (ap (λ (from : ℕ). flat_map f (range_with_len from n)) next ∙ flat_shift f g by same n (i + 1)) j)

-- ---- one group

not_eqb : (one other : ℕ) → (one ≡ other → ⊥) → nat_eq one other ≡ false
not_eqb one other differ = elim (eqb_tells one other) [ inl same ↦ absurd (differ same.1) | inr else ↦ else.0 ]

one_taken : (place : ℕ) (pages : List Page) → flat_map page_block (take 1 (drop place pages)) ≡ option_map_or page_block (slice_get pages place) []
one_taken zero [] = refl
one_taken zero (page ∷ pages) = append-nil (page_block page)
one_taken (suc place) [] = refl
one_taken (suc place) (page ∷ pages) = one_taken place pages

module _ (pages : List Page) (cells : List Cell) where
  pub opening_some : (place : ℕ) → place % 24 ≡ 0 → opening cells place ≡ walk_block (take 24 (drop place cells))
  opening_some place begins = ap (λ (b : Bool). cond b (walk_block (take 24 (drop place cells))) []) (eq-eqb (place % 24) 0 begins)

  pub opening_none : (place : ℕ) → (place % 24 ≡ 0 → ⊥) → opening cells place ≡ []
  opening_none place inside = ap (λ (b : Bool). cond b (walk_block (take 24 (drop place cells))) []) (not_eqb (place % 24) 0 inside)

  -- the first places, at least one and at most a group
  first_group : (n : ℕ) → n < 24 → flat_map (place_bytes pages cells) (range_with_len 0 (n + 1)) ≡ walk_block (take 24 cells) ++ flat_map page_block (take (n + 1) pages)
  first_group zero few =
      flat_more (place_bytes pages cells) 0 ∙ (λ i. opening_some 0 refl i ++ sym (one_taken 0 pages) i)
  first_group (suc n) few =
      let front = walk_block (take 24 cells) in
      let at = suc n in
      let next : at ≡ n + 1 = omega arith in
      let inside : at % 24 ≡ 0 → ⊥ = λ begins. omega (arith, begins, few) in
      let here : place_bytes pages cells at ≡ flat_map page_block (take 1 (drop at pages)) = ap (λ (opened : List ℕ). opened ++ option_map_or page_block (slice_get pages at) []) (opening_none at inside) ∙ sym (one_taken at pages) in
      let before : flat_map (place_bytes pages cells) (range_with_len 0 at) ≡ front ++ flat_map page_block (take at pages) =
      ap (λ (m : ℕ). flat_map (place_bytes pages cells) (range_with_len 0 m)) next ∙ first_group n (omega (arith, few)) ∙ ap (λ (m : ℕ). front ++ flat_map page_block (take m pages)) (sym next) in
      flat_more (place_bytes pages cells) at ∙ (λ i. before i ++ here i) ∙ append_assoc front (flat_map page_block (take at pages)) (flat_map page_block (take 1 (drop at pages)))
      ∙ ap (λ (rest : List ℕ). front ++ rest) (sym (flat_map-append page_block (take at pages) (take 1 (drop at pages))) ∙ ap (flat_map page_block) (sym (take_next at pages)))

  -- behind a group it begins anew
  next_group : (i : ℕ) → place_bytes pages cells (24 + i) ≡ place_bytes (drop 24 pages) (drop 24 cells) i
  next_group i =
      let same : (24 + i) % 24 ≡ i % 24 = omega arith in
      let further : option_map_or page_block (slice_get pages (24 + i)) [] ≡ option_map_or page_block (slice_get (drop 24 pages) i) [] =
      sym (one_taken (24 + i) pages) ∙ ap (λ (rest : List Page). flat_map page_block (take 1 rest)) (drop_on 24 i pages) ∙ one_taken i (drop 24 pages) in
      (λ j. cond (nat_eq (same j) 0) (walk_block (take 24 (drop_on 24 i cells j))) [] ++ further j)

-- ---- all groups

pub all_groups : (groups : ℕ) (pages : List Page) (cells : List Cell) → groups_of (length pages) ≡ groups → flat_map (place_bytes pages cells) (range_with_len 0 (length pages)) ≡ group_bytes groups pages cells
all_groups zero pages cells are =
    let none : length pages ≡ 0 = omega (arith, are) in
    ap (λ (n : ℕ). flat_map (place_bytes pages cells) (range_with_len 0 n)) none
all_groups (suc groups) pages cells are = elim (cases_lt 24 (length pages)) [
  | inl more ↦
      let rest = length pages - 24 in
      let split : length pages ≡ 24 + rest = omega (arith, more) in
      let rest_is : length (drop 24 pages) ≡ rest = length-drop 24 pages in
      let left : groups_of (length (drop 24 pages)) ≡ groups = omega (arith, rest_is, are, more) in
      let front = walk_block (take 24 cells) in
      let first = first_group pages cells 23 (omega arith) in
      let behind : flat_map (place_bytes pages cells) (range_with_len 24 rest) ≡ group_bytes groups (drop 24 pages) (drop 24 cells) =
      flat_shift (place_bytes pages cells) (place_bytes (drop 24 pages) (drop 24 cells)) 24 (next_group pages cells) rest 0
      ∙ ap (λ (n : ℕ). flat_map (place_bytes (drop 24 pages) (drop 24 cells)) (range_with_len 0 n)) (sym rest_is) ∙ all_groups groups (drop 24 pages) (drop 24 cells) left in
      ap (λ (n : ℕ). flat_map (place_bytes pages cells) (range_with_len 0 n)) split
      ∙ ap (flat_map (place_bytes pages cells)) (range_split rest 24 0) ∙ flat_map-append (place_bytes pages cells) (range_with_len 0 24) (range_with_len 24 rest)
      ∙ (λ i. first i ++ behind i) ∙ append_assoc front (flat_map page_block (take 24 pages)) (group_bytes groups (drop 24 pages) (drop 24 cells))
  | inr few ↦
      let some : length pages ≡ length pages - 1 + 1 = omega (arith, are) in
      let last : groups ≡ 0 = omega (arith, are, few) in
      let front = walk_block (take 24 cells) in
      let all : take (length pages - 1 + 1) pages ≡ take 24 pages = ap (λ (n : ℕ). take n pages) (sym some) ∙ take_all (length pages) pages (omega arith) ∙ sym (take_all 24 pages (omega (arith, few))) in
      ap (λ (n : ℕ). flat_map (place_bytes pages cells) (range_with_len 0 n)) some ∙ first_group pages cells (length pages - 1) (omega (arith, few, some))
      ∙ ap (λ (pages : List Page). front ++ flat_map page_block pages) all ∙ ap (λ (rest : List ℕ). front ++ rest) (sym (append-nil (flat_map page_block (take 24 pages))))
      ∙ ap (λ (groups : ℕ). front ++ (flat_map page_block (take 24 pages) ++ group_bytes groups (drop 24 pages) (drop 24 cells))) (sym last)
]

pub places_make_file : (file : PlacedFile) → bytes_to file (length file.pages) ≡ placed_bytes file
places_make_file file = ap (λ (rest : List ℕ). stamped_block file.header ++ rest) (all_groups (groups_of (length file.pages)) file.pages file.cells refl)

pub places_follow : (file : PlacedFile) (place : ℕ) (page : Page) → slice_get file.pages place ≡ Some page → bytes_to file (place + 1) ≡ bytes_to file place ++ (opening file.cells place ++ page_block page)
places_follow file place page is =
    let each = place_bytes file.pages file.cells in
    let before = flat_map each (range_with_len 0 place) in
    let here : each place ≡ opening file.cells place ++ page_block page = ap (λ (found : Option Page). opening file.cells place ++ option_map_or page_block found []) is in
    ap (λ (rest : List ℕ). stamped_block file.header ++ rest) (flat_more each place ∙ ap (λ (last : List ℕ). before ++ last) here)
    ∙ sym (append_assoc (stamped_block file.header) before (opening file.cells place ++ page_block page))

pub headers_begin : (file : PlacedFile) → bytes_to file 0 ≡ stamped_block file.header
headers_begin file = append-nil (stamped_block file.header)

pub places_begin : (file : PlacedFile) (places : ℕ) → places ≤ length file.pages → (rest : List ℕ) × (placed_bytes file ≡ bytes_to file places ++ rest)
places_begin file places within =
    let each = place_bytes file.pages file.cells in
    let left = length file.pages - places in
    let before = flat_map each (range_with_len 0 places) in
    let rest = flat_map each (range_with_len places left) in
    let all : length file.pages ≡ places + left = omega (arith, within) in
    let from : 0 + places ≡ places = omega arith in
    let whole : flat_map each (range_with_len 0 (length file.pages)) ≡ before ++ rest =
    ap (λ (n : ℕ). flat_map each (range_with_len 0 n)) all ∙ ap (flat_map each) (range_split left places 0 ∙ ap (λ (n : ℕ). range_with_len 0 places ++ range_with_len n left) from)
    ∙ flat_map-append each (range_with_len 0 places) (range_with_len places left) in
    (rest, sym (places_make_file file) ∙ ap (λ (bytes : List ℕ). stamped_block file.header ++ bytes) whole ∙ sym (append_assoc (stamped_block file.header) before rest))
