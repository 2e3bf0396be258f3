use Rattle.exh_change.proofs.InPlace.{CellLaws}
use Rattle.exh_change.proofs.Merges.{MergeLaws, is_mergeable}
use Rattle.exh_change.proofs.laws.merges_keep_legal.Goals as goal

pub returns : goal.returns
returns c =
    let cells : CellLaws = record { slots = c.slots_are_entries.ensures.slots; entries = c.slots_are_entries.ensures.entries; told = c.matched_tables_are_told.ensures } in
    let laws : MergeLaws = record { cells = cells; begin = c.fitting_tables_begin_wards.ensures; merge = c.merges_keep_legal.ensures; live = c.live_left_children_merge.ensures } in
    λ file tables place prefix link records cell valid legal. is_mergeable laws file tables valid legal place prefix link records cell
