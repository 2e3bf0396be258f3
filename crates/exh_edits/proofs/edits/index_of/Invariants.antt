use Rattle.std.proofs.Common.{◌≡◌, nat_eq, false, take}
use Rattle.std.specs.List.{list_any}
use Rattle.exh_edits.specs.EditsInTurn.{places_of}
use Rattle.exh_edits.proofs.edits.index_of.Given as goal

abbrev pub invariant-loop-index : goal.invariant-loop-index
invariant-loop-index l = list_any (nat_eq l.place) (places_of (take l.index l.items)) ≡ false
