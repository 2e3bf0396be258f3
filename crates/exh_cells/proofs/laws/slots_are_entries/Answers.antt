use Rattle.exh_cells.proofs.CellTables.{slot_is_entry, entry_has_slot}
use Rattle.exh_cells.proofs.laws.slots_are_entries.Goals as goal

pub returns : goal.returns
returns c = record {
  slots = λ ward_bits lows cells tables ward table prefix slot are there is. slot_is_entry ward_bits lows cells tables are ward table prefix slot there is;
  entries = λ ward_bits lows cells tables ward table prefix entry are there is. entry_has_slot ward_bits lows cells tables are ward table prefix entry there is;
}
