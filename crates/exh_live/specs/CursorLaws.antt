-- A law of couriers' cursors.
use Rattle.std.specs.Prelude.{◌≡◌, ℕ, ◌+◌, filter, List, slice_get, Some}
use Rattle.std.specs.FinMap.{entries}
use Rattle.exh_notice.specs.declared.notice.Notice.{Notice}
use Rattle.exh_table.specs.Table.{TableMap}
use Rattle.exh_legal.specs.ChangeNumbers.{AreNumbered, index_of}
use Rattle.exh_live.specs.Rounds.{changes_told, is_of_ward}

-- A ward's start table has the table's entries at the ward's prefixes: a courier's first cursor is the index of the ward's last
-- change before its first notice, and its notices go on from there.
abbrev pub CursorsGoOnWithWards : Type 0
CursorsGoOnWithWards = (ward_bits number : ℕ) (table start : TableMap) → entries start ≡ filter (λ e. is_of_ward ward_bits number e.0) (entries table)
    → (changes_told ward_bits table number ≡ index_of start)
    × ((notices : List Notice) → AreNumbered number start notices → (place : ℕ) (notice : Notice) → slice_get notices place ≡ Some notice → notice.index ≡ changes_told ward_bits table number + (place + 1))
