use Rattle.std.proofs.Common.{◌≡◌, ◌++◌}
use Rattle.exh_map.specs.Places.{others_to}
use Rattle.exh_map.proofs.places.lows_grown.Given as goal

-- the wards are as before, and the low bounds of the first ones are put
abbrev pub invariant-wards : goal.invariant-wards
invariant-wards g l = record {
  same : l.wards.items ≡ l.fn.wards.items;
  put : l.grown.items ≡ l.fn.lows ++ others_to l.fn.settings.ward_bits l.fn.lows l.fn.wards.items l.number;
}
