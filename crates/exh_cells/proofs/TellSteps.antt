-- Tables that were told one entry, one slot or one place more.
use Rattle.std.proofs.Common.{◌≡◌, ℕ, ◌+◌, ◌<◌, Bool, nat_eq, eq-eqb, cond, List, [], ◌∷◌, ◌++◌, length, take, get_or, Option, Some, None, sym, ap, ◌∙◌, append_assoc, append-nil, subst, arith}
use Rattle.std.specs.FinMap.{empty, get, get-empty}
use Rattle.std.specs.List.{slice_get}
use Rattle.std.specs.Option.{option_map_or}
use Rattle.std.proofs.lemmas.Option.{slice_get-get_or}
use Rattle.exh_prefix.specs.Bits.{word_bits}
use Rattle.exh_prefix.specs.Leading.{ward_of}
use Rattle.exh_prefix.specs.Prefix.{prefix_cmp}
use Rattle.exh_notice.specs.declared.entry.Entry.{Entry}
use Rattle.exh_format.specs.Table.{IsEntryOf, IsTableOf, TableMap, raised}
use Rattle.exh_format.specs.SetLemmas.{one_more}
use Rattle.exh_cells.specs.declared.cell.Cell.{Cell}
use Rattle.exh_cells.specs.declared.cell.Slot.{Slot}
use Rattle.exh_cells.specs.Told.{entry_in, told_at, told_by_cell, told_by_place, told_by_places, told_by_slot, told_by_slots}
use Rattle.exh_cells.proofs.InOrder.{flat_more, not_eqb}

abbrev Told : Type 0
Told = List (List Bool × Entry)

-- ---- one entry

pub none_told_yet : (table : TableMap) → table ≡ empty → IsTableOf [] table
none_told_yet table is prefix =
    let none : get table prefix ≡ None = ap (λ (table : TableMap). get table prefix) is ∙ get-empty prefix_cmp prefix in
    subst (IsEntryOf [] prefix) (sym none) (λ entry contains. absurd (omega (arith, contains.1)))

pub entry_told : (told : Told) (old new : TableMap) (low len : ℕ) (given : Option Entry) (entry : Entry) (key : List Bool) → given ≡ Some entry → key ≡ take len (word_bits low) → new ≡ raised old key entry
    → IsTableOf told old → IsTableOf (told ++ told_at low len given) new
entry_told told old new low len given entry key is key_is raised_is table =
    let more : IsTableOf (told ++ (key, entry) ∷ []) new = subst (IsTableOf (told ++ (key, entry) ∷ [])) (sym raised_is) (one_more told old key entry table) in
    let named : IsTableOf (told ++ (take len (word_bits low), entry) ∷ []) new = subst (λ (key : List Bool). IsTableOf (told ++ (key, entry) ∷ []) new) key_is more in
    subst (λ (given : Option Entry). IsTableOf (told ++ told_at low len given) new) (sym is) named

pub none_told : (told : Told) (table : TableMap) (low len : ℕ) (given : Option Entry) → given ≡ None → IsTableOf told table → IsTableOf (told ++ told_at low len given) table
none_told told table low len given is told_is =
    subst (λ (given : Option Entry). IsTableOf (told ++ told_at low len given) table) (sym is) (subst (λ (told : Told). IsTableOf told table) (sym (append-nil told)) told_is)

-- ---- one slot

pub slot_told : (cells : List Cell) (low : ℕ) (slots : List Slot) (len : ℕ) (d : Slot) → len < length slots → told_by_slot cells low slots len ≡ told_at low len (entry_in cells (get_or slots len d))
slot_told cells low slots len d within = ap (λ (found : Option Slot). option_map_or (λ slot. told_at low len (entry_in cells slot)) found []) (slice_get-get_or slots len d within)

pub slot_more : (told : Told) (cells : List Cell) (low : ℕ) (slots : List Slot) (len : ℕ) (d : Slot) (entry : Option Entry) (table : TableMap) → len < length slots → entry ≡ entry_in cells (get_or slots len d)
    → IsTableOf ((told ++ told_by_slots cells low slots len) ++ told_at low len entry) table → IsTableOf (told ++ told_by_slots cells low slots (len + 1)) table
slot_more told cells low slots len d entry table within is told_is =
    let before = told_by_slots cells low slots len in
    let here : told_at low len entry ≡ told_by_slot cells low slots len = ap (told_at low len) is ∙ sym (slot_told cells low slots len d within) in
    let whole : (told ++ before) ++ told_at low len entry ≡ told ++ told_by_slots cells low slots (len + 1) =
    append_assoc told before (told_at low len entry) ∙ ap (λ (more : Told). told ++ (before ++ more)) here ∙ ap (λ (all : Told). told ++ all) (sym (flat_more (told_by_slot cells low slots) len)) in
    subst (λ (told : Told). IsTableOf told table) whole told_is

-- ---- one place

pub place_told : (ward_bits ward : ℕ) (lows : List ℕ) (cells : List Cell) (place low : ℕ) (cell : Cell) → slice_get lows place ≡ Some low → slice_get cells place ≡ Some cell → ward_of ward_bits low ≡ ward
    → told_by_place ward_bits ward lows cells place ≡ told_by_cell cells low cell
place_told ward_bits ward lows cells place low cell low_is cell_is ward_is =
    ap (λ (found : Option ℕ). option_map_or (λ low. cond (nat_eq (ward_of ward_bits low) ward) (option_map_or (told_by_cell cells low) (slice_get cells place) []) []) found []) low_is
    ∙ ap (λ (same : Bool). cond same (option_map_or (told_by_cell cells low) (slice_get cells place) []) []) (eq-eqb (ward_of ward_bits low) ward ward_is)
    ∙ ap (λ (found : Option Cell). option_map_or (told_by_cell cells low) found []) cell_is

pub place_else : (ward_bits ward : ℕ) (lows : List ℕ) (cells : List Cell) (place low : ℕ) → slice_get lows place ≡ Some low → (ward_of ward_bits low ≡ ward → ⊥)
    → told_by_place ward_bits ward lows cells place ≡ []
place_else ward_bits ward lows cells place low low_is other =
    ap (λ (found : Option ℕ). option_map_or (λ low. cond (nat_eq (ward_of ward_bits low) ward) (option_map_or (told_by_cell cells low) (slice_get cells place) []) []) found []) low_is
    ∙ ap (λ (same : Bool). cond same (option_map_or (told_by_cell cells low) (slice_get cells place) []) []) (not_eqb (ward_of ward_bits low) ward other)

pub place_more : (ward_bits ward : ℕ) (lows : List ℕ) (cells : List Cell) (place : ℕ) (more : Told) (table : TableMap) → told_by_place ward_bits ward lows cells place ≡ more
    → IsTableOf (told_by_places ward_bits ward lows cells place ++ more) table → IsTableOf (told_by_places ward_bits ward lows cells (place + 1)) table
place_more ward_bits ward lows cells place more table is told_is =
    let before = told_by_places ward_bits ward lows cells place in
    let whole : before ++ more ≡ told_by_places ward_bits ward lows cells (place + 1) =
    ap (λ (more : Told). before ++ more) (sym is) ∙ sym (flat_more (told_by_place ward_bits ward lows cells) place) in
    subst (λ (told : Told). IsTableOf told table) whole told_is

pub place_same : (ward_bits ward : ℕ) (lows : List ℕ) (cells : List Cell) (place : ℕ) (table : TableMap) → told_by_place ward_bits ward lows cells place ≡ []
    → IsTableOf (told_by_places ward_bits ward lows cells place) table → IsTableOf (told_by_places ward_bits ward lows cells (place + 1)) table
place_same ward_bits ward lows cells place table is told_is =
    let before = told_by_places ward_bits ward lows cells place in
    place_more ward_bits ward lows cells place [] table is (subst (λ (told : Told). IsTableOf told table) (sym (append-nil before)) told_is)
