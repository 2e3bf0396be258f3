use Rattle.exh_change.proofs.Fresh.{is_fresh}
use Rattle.exh_change.proofs.InPlace.{CellLaws}
use Rattle.exh_change.proofs.Revived.{is_revived}
use Rattle.exh_change.proofs.WardSplits.{SplitLaws, even}
use Rattle.exh_change.proofs.laws.splits_keep_legal.Goals as goal

pub returns : goal.returns
returns c =
    let cells : CellLaws = record { slots = c.slots_are_entries.ensures.slots; entries = c.slots_are_entries.ensures.entries; told = c.matched_tables_are_told.ensures } in
    let laws : SplitLaws = record { cells = cells; begin = c.fitting_tables_begin_wards.ensures; split = c.splits_keep_legal.ensures; live = c.live_pages_split.ensures; few = c.pages_are_few.ensures } in
    λ file tables place prefix link records cell valid legal is. record {
      even = even laws file tables valid legal place prefix link records cell is;
      fresh = λ none. is_fresh laws file tables valid legal place prefix link records cell is none;
      revived = λ some. is_revived laws file tables valid legal place prefix link records cell is some;
    }
