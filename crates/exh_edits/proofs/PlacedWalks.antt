-- The walk over the cells of a legal file of version 3 is that of its ward's table.
use Rattle.std.proofs.Common.{◌≡◌, ◌⊎◌, ℕ, zero, suc, ◌+◌, ◌%◌, ◌<◌, ◌≤◌, nat_eq, nat_lt, Bool, true, false, cond, List, [], ◌∷◌, ◌++◌, length, map, take, get_or, slice_get, inl, inr, None, Some, refl, sym, ap, ◌∙◌, subst, arith}
use Rattle.std.specs.FinMap.{empty, get}
use Rattle.std.proofs.lemmas.Bool.{le-ltb}
use Rattle.std.proofs.lemmas.Bool.Decides.{nat_tests}
use Rattle.std.proofs.lemmas.List.{length_push, take-append-le, take-take}
use Rattle.std.specs.Option.{option_map}
use Rattle.std.proofs.lemmas.Option.{get_or_from_slice_get, slice_get-get_or, slice_get-map, slice_get_within}
use Rattle.exh_prefix.specs.BitLemmas.{bits_of-number_of}
use Rattle.exh_prefix.specs.Bits.{bits_of, number_of, word_bits}
use Rattle.exh_prefix.specs.Leading.{ward_of, ward_prefix}
use Rattle.exh_prefix.specs.LeadingLemmas.{length-leading_bits}
use Rattle.exh_prefix.specs.LowLemmas.{left_keeps}
use Rattle.exh_prefix.specs.Prefix.{Begins, low_of}
use Rattle.exh_prefix.specs.PrefixLemmas.{HasPrefix-low_of, take-low_of}
use Rattle.exh_prefix.specs.declared.prefix.TheConstants.{LIMIT}
use Rattle.exh_cells.specs.declared.Kind.TheVariants.{Merge, Split}
use Rattle.exh_table.specs.declared.leaf.Leaf.{Leaf}
use Rattle.exh_table.specs.Table.{TableMap}
use Rattle.exh_table.specs.TableWalk.{right_of, split_at, step, walk_of}
use Rattle.exh_table.specs.WalkLemmas.{IsOnWalk, on_walk_end, on_walk_step}
use Rattle.exh_cells.specs.declared.cell.Cell.{Cell}
use Rattle.exh_cells.specs.declared.cell.Slot.{Slot}
use Rattle.exh_cells.specs.CellLaws.{IsSlotOf, SlotsAreEntries}
use Rattle.exh_cells.specs.Fit.{FitsSlot, pages_in}
use Rattle.exh_cells.specs.LegalPlaced.{IsLegalPlaced}
use Rattle.exh_cells.specs.PlacedFile.{IsPlaced, PlacedFile, lows_of}
use Rattle.exh_cells.specs.Told.{entry_in, kind_in, number_at}
use Rattle.exh_direct.specs.OnWayLemmas.{first_on_way}
use Rattle.exh_edits.specs.declared.walk_block.WalkBlock.{WalkBlock}
use Rattle.exh_edits.specs.CellWalk.{EndsAt, HasComeTo, IsCellAt, IsOfSplit, TellsSlot, first_leaf}
use Rattle.exh_edits.proofs.Counts.{few_bits}
use Rattle.exh_edits.proofs.LegalWards.{are_told, begins_at, length-lows, table_there, ward_less}
use Rattle.exh_edits.proofs.WardNumbers.{same_is}

-- ---- what a slot tells of a split

other_is : (n m : ℕ) → (n ≡ m → ⊥) → nat_eq n m ≡ false
other_is n m apart = grind (arith, nat_tests)

split_told : (cells : List Cell) (slot : Slot) → IsOfSplit slot → right_of (entry_in cells slot) ≡ Some (number_at cells slot.page)
split_told cells slot odd =
    let some : nat_eq slot.number 0 ≡ false = other_is slot.number 0 (λ none. omega (arith, none, odd)) in
    ap (λ (b : Bool). right_of (cond b None (Some (record { number = slot.number; kind = kind_in cells slot })))) some
    ∙ ap (λ (b : Bool). right_of (Some (record { number = slot.number; kind = cond b (Split (number_at cells slot.page)) Merge }))) (same_is (slot.number % 2) 1 odd)

none_told : (cells : List Cell) (slot : Slot) → ¬ IsOfSplit slot → right_of (entry_in cells slot) ≡ None
none_told cells slot not =
    let even : right_of (Some (record { number = slot.number; kind = kind_in cells slot })) ≡ None =
    ap (λ (b : Bool). right_of (Some (record { number = slot.number; kind = cond b (Split (number_at cells slot.page)) Merge }))) (other_is (slot.number % 2) 1 not) in
    elim (nat_eq slot.number 0) as (λ (b : Bool). right_of (cond b None (Some (record { number = slot.number; kind = kind_in cells slot }))) ≡ None) [
      | true ↦ refl
      | false ↦ even
    ]

-- ---- wards of prefixes

-- a low bound of a prefix of at least the ward's bits is of the ward that they are
ward_of_low : (bits : ℕ) (prefix : List Bool) → bits ≤ length prefix → length prefix ≤ LIMIT → ward_of bits (low_of prefix) ≡ number_of (take bits prefix)
ward_of_low bits prefix long short = ap number_of (sym (take-take bits (length prefix) (word_bits (low_of prefix)) long) ∙ ap (take bits) (take-low_of prefix short))

-- so it is of the pseudokey's where the prefix begins it
ward_of_prefix : (bits k : ℕ) (prefix : List Bool) → bits ≤ length prefix → length prefix ≤ LIMIT → Begins prefix k → ward_of bits (low_of prefix) ≡ ward_of bits k
ward_of_prefix bits k prefix long short begins =
    let other : take bits (word_bits k) ≡ take bits prefix = sym (take-take bits (length prefix) (word_bits k) long) ∙ ap (take bits) begins in
    ward_of_low bits prefix long short ∙ ap number_of (sym other)

-- a child's is that of its parent
ward_of_child : (bits : ℕ) (prefix : List Bool) (bit : Bool) → bits ≤ length prefix → length prefix < LIMIT → ward_of bits (low_of (prefix ++ bit ∷ [])) ≡ ward_of bits (low_of prefix)
ward_of_child bits prefix bit long short =
    let longer : length (prefix ++ bit ∷ []) ≡ length prefix + 1 = length_push prefix bit in
    ward_of_low bits (prefix ++ bit ∷ []) (omega (arith, long, longer)) (omega (arith, short, longer)) ∙ ap number_of (take-append-le bits prefix (bit ∷ []) long) ∙ sym (ward_of_low bits prefix long (omega (arith, short)))

-- ---- a legal file, with blocks that tell its cells

module _ (slots_are : SlotsAreEntries) (file : PlacedFile) (tables : List TableMap) (valid : IsPlaced file) (legal : IsLegalPlaced file tables) (k : ℕ) (blocks : List WalkBlock)
    (same_cell : (place : ℕ) (cell : Cell) → IsCellAt blocks place cell → slice_get file.cells place ≡ Some cell) where
  abbrev bits : ℕ
  bits = file.header.settings.ward_bits

  abbrev lows : List ℕ
  lows = lows_of file.pages

  abbrev w : ℕ
  w = ward_of bits k

  abbrev own_table : TableMap
  own_table = get_or tables w empty

  few : bits ≤ 4
  few = few_bits file.header valid.header

  front_len : length (take bits (word_bits k)) ≡ bits
  front_len = length-leading_bits bits k (omega (arith, few))

  pub ward_prefix_is : ward_prefix bits w ≡ take bits (word_bits k)
  ward_prefix_is = ap (λ (n : ℕ). bits_of n w) (sym front_len) ∙ bits_of-number_of (take bits (word_bits k))

  pub ward_begins : Begins (ward_prefix bits w) k
  ward_begins = subst (λ (prefix : List Bool). Begins prefix k) (sym ward_prefix_is) (ap (λ (n : ℕ). take n (word_bits k)) front_len)

  -- the leaf of the table's walk where that over the cells is at one
  abbrev pub leaf_at : Leaf → Leaf
  leaf_at placed = record { prefix = placed.prefix; page = pages_in bits w (take placed.page lows) }

  pub record IsHere (placed : Leaf) : Type 0 where
    pub low : slice_get lows placed.page ≡ Some (low_of placed.prefix)
    pub long : bits ≤ length placed.prefix
    pub on : IsOnWalk (split_at own_table) k (walk_of own_table bits k) (leaf_at placed)

  pub of_ward : (placed : Leaf) → IsHere placed → ward_of bits (low_of placed.prefix) ≡ w
  of_ward placed here = ward_of_prefix bits k placed.prefix here.long here.on.within here.on.begins

  slot_of : (placed : Leaf) (slot : Slot) → IsHere placed → TellsSlot blocks placed slot → IsSlotOf bits lows file.cells w placed.prefix slot
  slot_of placed slot here (cell, there, is) = record {
    place = placed.page;
    low = low_of placed.prefix;
    cell = cell;
    len = length placed.prefix;
    page_is = here.low;
    cell_is = same_cell placed.page cell there;
    slot_is = is;
    ward_is = of_ward placed here;
    has_prefix = HasPrefix-low_of placed.prefix here.on.within;
    prefix_is = sym (take-low_of placed.prefix here.on.within);
  }

  -- what the table has there is what the slot tells
  slot_is_entry : (placed : Leaf) (slot : Slot) → IsHere placed → TellsSlot blocks placed slot → get own_table placed.prefix ≡ entry_in file.cells slot
  slot_is_entry placed slot here tells =
      slots_are bits lows file.cells tables w own_table placed.prefix slot (are_told file tables valid legal) (table_there file tables valid legal w (ward_less file tables valid legal k)) (slot_of placed slot here tells)

  -- over the bit 1 of a split
  record GoesRight (placed : Leaf) (slot : Slot) : Type 0 where
    low : slice_get lows slot.page ≡ Some (low_of (placed.prefix ++ true ∷ []))
    number : number_at file.cells slot.page ≡ pages_in bits w (take slot.page lows)

  goes_right : (placed : Leaf) (slot : Slot) → IsHere placed → TellsSlot blocks placed slot → length placed.prefix < LIMIT → IsOfSplit slot → GoesRight placed slot
  goes_right placed slot here (cell, there, is) short odd =
      let prefix = placed.prefix in
      let fits : FitsSlot lows (low_of prefix) (length prefix) slot.page = (legal.fits.each placed.page (low_of prefix) cell here.low (same_cell placed.page cell there)).slots (length prefix) slot is (λ none. omega (arith, none, odd)) in
      let right : List Bool = prefix ++ true ∷ [] in
      let low : slice_get lows slot.page ≡ Some (low_of right) = fits.page_is ∙ ap (λ (front : List Bool). Some (low_of (front ++ true ∷ []))) (take-low_of prefix here.on.within) in
      let other : Cell = get_or file.cells slot.page cell in
      let other_is : slice_get file.cells slot.page ≡ Some other = slice_get-get_or file.cells slot.page cell (omega (arith, slice_get_within lows slot.page (low_of right) low, length-lows file tables valid legal, valid.all)) in
      let own : ward_of bits (low_of right) ≡ w = ward_of_child bits prefix true here.long short ∙ of_ward placed here in
      let named : slice_get (map (λ (cell : Cell). cell.number) file.cells) slot.page ≡ Some other.number = slice_get-map (λ (cell : Cell). cell.number) file.cells slot.page ∙ ap (option_map (λ (cell : Cell). cell.number)) other_is in
      let number = (legal.fits.each slot.page (low_of right) other low other_is).number in
      record {
        low = low;
        number = get_or_from_slice_get (map (λ (cell : Cell). cell.number) file.cells) slot.page other.number 0 named ∙ number ∙ ap (λ (ward : ℕ). pages_in bits ward (take slot.page lows)) own;
      }

  begins_here : IsHere (first_leaf bits k)
  begins_here =
      let at = begins_at file tables valid legal w (ward_less file tables valid legal k) in
      let on = first_on_way bits k (omega (arith, few)) in
      let start : IsOnWalk (split_at own_table) k (walk_of own_table bits k) (record { prefix = take bits (word_bits k); page = 0 }) = record { begins = on.begins; within = on.short; goes = refl } in
      record {
        low = at.low ∙ ap (λ (prefix : List Bool). Some (low_of prefix)) ward_prefix_is;
        long = omega (arith, front_len);
        on = subst (λ (number : ℕ). IsOnWalk (split_at own_table) k (walk_of own_table bits k) (record { prefix = take bits (word_bits k); page = number })) (sym at.number) start;
      }

  goes_on : (last : Leaf) (slot : Slot) → IsHere last → TellsSlot blocks last slot → length last.prefix < LIMIT → IsOfSplit slot → IsHere (step last (get_or (word_bits k) (length last.prefix) false) slot.page)
  goes_on last slot here tells short odd =
      let prefix = last.prefix in
      let right = goes_right last slot here tells short odd in
      let number = number_at file.cells slot.page in
      let split : split_at own_table prefix ≡ Some number = ap right_of (slot_is_entry last slot here tells) ∙ split_told file.cells slot odd in
      let on = on_walk_step (split_at own_table) k (walk_of own_table bits k) (leaf_at last) number here.on short split in
      let own = get_or (word_bits k) (length prefix) false in
      let low_by : (bit : Bool) → slice_get lows (cond bit slot.page last.page) ≡ Some (low_of (prefix ++ bit ∷ [])) = λ (bit : Bool).
      elim bit as (λ (bit : Bool). slice_get lows (cond bit slot.page last.page) ≡ Some (low_of (prefix ++ bit ∷ []))) [
        | true ↦ right.low
        | false ↦ here.low ∙ ap (λ (low : ℕ). Some low) (sym (left_keeps prefix short))
      ] in
      let number_by : (bit : Bool) → ◌≡◌ {A = ℕ} (cond bit number (pages_in bits w (take last.page lows))) (pages_in bits w (take (cond bit slot.page last.page) lows)) = λ (bit : Bool).
      elim bit as (λ (bit : Bool). ◌≡◌ {A = ℕ} (cond bit number (pages_in bits w (take last.page lows))) (pages_in bits w (take (cond bit slot.page last.page) lows))) [
        | true ↦ right.number
        | false ↦ refl
      ] in
      record {
        low = low_by own;
        long = omega (arith, here.long, length_push prefix own);
        on = subst (λ (number : ℕ). IsOnWalk (split_at own_table) k (walk_of own_table bits k) (record { prefix = prefix ++ own ∷ []; page = number })) (number_by own) on;
      }

  pub has_come : (splits : ℕ) (placed : Leaf) → HasComeTo bits k blocks splits placed → IsHere placed
  has_come zero placed is = subst IsHere (sym is) begins_here
  has_come (suc splits) placed (last, come, short, slot, tells, odd, is) = subst IsHere (sym is) (goes_on last slot (has_come splits last come) tells short odd)

  stops : (placed : Leaf) → IsHere placed → (LIMIT ≤ length placed.prefix) ⊎ ((slot : Slot) × TellsSlot blocks placed slot × ¬ IsOfSplit slot) → cond (nat_lt (length placed.prefix) LIMIT) (split_at own_table placed.prefix) None ≡ None
  stops placed here (inl long) = ap (λ (b : Bool). cond b (split_at own_table placed.prefix) None) (le-ltb (length placed.prefix) LIMIT long)
  stops placed here (inr (slot, tells, not)) =
      elim (nat_lt (length placed.prefix) LIMIT) as (λ (b : Bool). cond b (split_at own_table placed.prefix) None ≡ None) [
        | true ↦ ap right_of (slot_is_entry placed slot here tells) ∙ none_told file.cells slot not
        | false ↦ refl
      ]

  -- it ends where that of the table does
  pub walk_is : (placed : Leaf) → EndsAt bits k blocks placed → leaf_at placed ≡ walk_of own_table bits k
  walk_is placed (come, ends) =
      let here = has_come come.0 placed come.1 in
      on_walk_end (split_at own_table) k (walk_of own_table bits k) (leaf_at placed) here.on (stops placed here ends)
