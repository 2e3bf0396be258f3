-- The bytes of slots and cells.
use Rattle.std.proofs.Common.{◌≡◌, ℕ, ◌+◌, ◌*◌, ◌^◌, ◌<◌, ◌≤◌, List, [], ◌∷◌, ◌++◌, length, take, drop, get_or, refl, sym, ap, ◌∙◌, append_assoc, append-nil, subst, arith}
use Rattle.std.specs.List.{AllByRecursion, flat_map}
use Rattle.std.proofs.lemmas.List.{drop_at, take_more, length-append}
use Rattle.std.proofs.lemmas.List.Concat.{flat_map-append}
use Rattle.byteorder.specs.Endian.{big_bytes, big_from}
use Rattle.byteorder.specs.Numbers.{length-bytes_high_first, big_number-reads_back, big_from-take}
use Rattle.exh_notice.specs.NoticeByteLemmas.{big_from-drop}
use Rattle.exh_prefix.specs.PrefixListLemmas.{AllByRecursion-push}
use Rattle.exh_cells.specs.declared.cell.Cell.{Cell}
use Rattle.exh_cells.specs.declared.cell.Slot.{Slot}
use Rattle.exh_cells.specs.WalkImage.{IsRead, IsReadSlot, cell_bytes, slot_bytes}

-- ---- lengths

pub length-slot : (slot : Slot) → length (slot_bytes slot) ≡ 8
length-slot slot = omega (arith, length-append (big_bytes 4 slot.number) (big_bytes 4 slot.page), length-bytes_high_first 4 slot.number, length-bytes_high_first 4 slot.page)

pub length-slots : (slots : List Slot) → length (flat_map slot_bytes slots) ≡ 8 * length slots
length-slots [] = refl
length-slots (slot ∷ slots) = omega (arith, length-append (slot_bytes slot) (flat_map slot_bytes slots), length-slot slot, length-slots slots)

pub length-cell : (cell : Cell) → length cell.slots ≡ 20 → length (cell_bytes cell) ≡ 164
length-cell cell count = omega (arith, length-append (big_bytes 4 cell.number) (flat_map slot_bytes cell.slots), length-bytes_high_first 4 cell.number, length-slots cell.slots, count)

pub length-cells : (cells : List Cell) → AllByRecursion IsRead cells → length (flat_map cell_bytes cells) ≡ 164 * length cells
length-cells [] all = refl
length-cells (cell ∷ cells) all = omega (arith, length-append (cell_bytes cell) (flat_map cell_bytes cells), length-cell cell all.0.count, length-cells cells all.1)

-- ---- one more

pub slots_more : (slots : List Slot) (len : ℕ) (d : Slot) → len < length slots → flat_map slot_bytes (take (len + 1) slots) ≡ flat_map slot_bytes (take len slots) ++ slot_bytes (get_or slots len d)
slots_more slots len d within =
    let slot = get_or slots len d in
    ap (flat_map slot_bytes) (take_more slots len d within)
    ∙ flat_map-append slot_bytes (take len slots) (slot ∷ []) ∙ ap (λ (bytes : List ℕ). flat_map slot_bytes (take len slots) ++ bytes) (append-nil (slot_bytes slot))

-- a slot behind those before it
pub slot_pushed : (front : List ℕ) (slots : List Slot) (len : ℕ) (d : Slot) → len < length slots
    → (front ++ flat_map slot_bytes (take len slots)) ++ slot_bytes (get_or slots len d) ≡ front ++ flat_map slot_bytes (take (len + 1) slots)
slot_pushed front slots len d within =
    append_assoc front (flat_map slot_bytes (take len slots)) (slot_bytes (get_or slots len d)) ∙ ap (λ (bytes : List ℕ). front ++ bytes) (sym (slots_more slots len d within))

pub cells_more : (cells : List Cell) (number : ℕ) (d : Cell) → number < length cells → flat_map cell_bytes (take (number + 1) cells) ≡ flat_map cell_bytes (take number cells) ++ cell_bytes (get_or cells number d)
cells_more cells number d within =
    let cell = get_or cells number d in
    ap (flat_map cell_bytes) (take_more cells number d within)
    ∙ flat_map-append cell_bytes (take number cells) (cell ∷ []) ∙ ap (λ (bytes : List ℕ). flat_map cell_bytes (take number cells) ++ bytes) (append-nil (cell_bytes cell))

pub all_more : {X : Type 0} (P : X → Type 0) (items : List X) (n : ℕ) (d : X) → n < length items → AllByRecursion P (take n items) → P (get_or items n d) → AllByRecursion P (take (n + 1) items)
all_more P items n d within all here = subst (AllByRecursion P) (sym (take_more items n d within)) (AllByRecursion-push P (take n items) (get_or items n d) all here)

-- ---- one value

pub same_number : (one other : ℕ) (rest after : List ℕ) → one < 2 ^ 32 → other < 2 ^ 32 → big_bytes 4 one ++ rest ≡ big_bytes 4 other ++ after → (one ≡ other) × (rest ≡ after)
same_number one other rest after first second same = (
  sym (big_number-reads_back 4 one rest (omega (arith, first))) ∙ ap (big_from 0 4) same ∙ big_number-reads_back 4 other after (omega (arith, second)),
  sym (drop_at (big_bytes 4 one) rest 4 (length-bytes_high_first 4 one)) ∙ ap (drop 4) same ∙ drop_at (big_bytes 4 other) after 4 (length-bytes_high_first 4 other),
)

made_slot : ℕ → ℕ → Slot
made_slot number page = record { number = number; page = page }

pub same_slot : (one other : Slot) (rest after : List ℕ) → IsReadSlot one → IsReadSlot other → slot_bytes one ++ rest ≡ slot_bytes other ++ after → (one ≡ other) × (rest ≡ after)
unfolding made_slot
same_slot one other rest after first second same =
    let numbers = same_number one.number other.number (big_bytes 4 one.page ++ rest) (big_bytes 4 other.page ++ after) first.number second.number
    (sym (append_assoc (big_bytes 4 one.number) (big_bytes 4 one.page) rest) ∙ same ∙ append_assoc (big_bytes 4 other.number) (big_bytes 4 other.page) after) in
    let pages = same_number one.page other.page rest after first.page second.page numbers.1 in
    ((λ i. made_slot (numbers.0 i) (pages.0 i)), pages.1)

pub same_slots : (one other : List Slot) (rest after : List ℕ) → length one ≡ length other → AllByRecursion IsReadSlot one → AllByRecursion IsReadSlot other
    → flat_map slot_bytes one ++ rest ≡ flat_map slot_bytes other ++ after → (one ≡ other) × (rest ≡ after)
same_slots [] [] rest after len first second same = (refl, same)
same_slots [] (q ∷ other) rest after len first second same = absurd (omega (arith, len))
same_slots (p ∷ one) [] rest after len first second same = absurd (omega (arith, len))
same_slots (p ∷ one) (q ∷ other) rest after len first second same =
    let heads = same_slot p q (flat_map slot_bytes one ++ rest) (flat_map slot_bytes other ++ after) first.0 second.0
    (sym (append_assoc (slot_bytes p) (flat_map slot_bytes one) rest) ∙ same ∙ append_assoc (slot_bytes q) (flat_map slot_bytes other) after) in
    let tails = same_slots one other rest after (omega (arith, len)) first.1 second.1 heads.1 in
    (ap (λ (p : Slot). p ∷ one) heads.0 ∙ ap (λ (rest : List Slot). q ∷ rest) tails.0, tails.1)

made_cell : ℕ → List Slot → Cell
made_cell number slots = record { number = number; slots = slots }

pub same_cell : (one other : Cell) (rest after : List ℕ) → IsRead one → IsRead other → cell_bytes one ++ rest ≡ cell_bytes other ++ after → (one ≡ other) × (rest ≡ after)
unfolding made_cell
same_cell one other rest after first second same =
    let numbers = same_number one.number other.number (flat_map slot_bytes one.slots ++ rest) (flat_map slot_bytes other.slots ++ after) first.number second.number
    (sym (append_assoc (big_bytes 4 one.number) (flat_map slot_bytes one.slots) rest) ∙ same ∙ append_assoc (big_bytes 4 other.number) (flat_map slot_bytes other.slots) after) in
    let slots = same_slots one.slots other.slots rest after (first.count ∙ sym second.count) first.slots second.slots numbers.1 in
    ((λ i. made_cell (numbers.0 i) (slots.0 i)), slots.1)

pub same_cells : (one other : List Cell) (rest after : List ℕ) → length one ≡ length other → AllByRecursion IsRead one → AllByRecursion IsRead other
    → flat_map cell_bytes one ++ rest ≡ flat_map cell_bytes other ++ after → one ≡ other
same_cells [] [] rest after len first second same = refl
same_cells [] (q ∷ other) rest after len first second same = absurd (omega (arith, len))
same_cells (p ∷ one) [] rest after len first second same = absurd (omega (arith, len))
same_cells (p ∷ one) (q ∷ other) rest after len first second same =
    let heads = same_cell p q (flat_map cell_bytes one ++ rest) (flat_map cell_bytes other ++ after) first.0 second.0
    (sym (append_assoc (cell_bytes p) (flat_map cell_bytes one) rest) ∙ same ∙ append_assoc (cell_bytes q) (flat_map cell_bytes other) after) in
    let tails = same_cells one other rest after (omega (arith, len)) first.1 second.1 heads.1 in
    ap (λ (p : Cell). p ∷ one) heads.0 ∙ ap (λ (rest : List Cell). q ∷ rest) tails

-- ---- numbers that are read

pub number_in : (i m n : ℕ) (block : List ℕ) → n ≤ m → big_from 0 n (take m (drop i block)) ≡ big_from i n block
number_in i m n block within =
    let place : i + 0 ≡ i = omega arith in
    big_from-take 0 n m (drop i block) (omega (arith, within)) ∙ big_from-drop i 0 n block ∙ ap (λ (place : ℕ). big_from place n block) place
