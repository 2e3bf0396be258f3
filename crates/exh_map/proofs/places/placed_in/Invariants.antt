use Rattle.std.proofs.Common.{◌≡◌, ◌≤◌, take}
use Rattle.exh_map.specs.Places.{count_of}
use Rattle.exh_map.proofs.places.placed_in.Given as goal

abbrev pub invariant-loop-at : goal.invariant-loop-at
invariant-loop-at l = record {
  counted : l.placed ≡ count_of l.ward_bits l.number (take l.at l.lows);
  few : l.placed ≤ l.at;
}
