use Rattle.std.proofs.Common.{◌≡◌, take}
use Rattle.exh_placing.specs.PlacedFile.{lows_of}
use Rattle.exh_file.specs.Placing.{ordered_pages}
use Rattle.exh_file.proofs.ward_lows.lows_in.Given as goal

-- the low bounds of the pages so far
abbrev pub invariant-loop-place : goal.invariant-loop-place
invariant-loop-place g l = record {
  lows : l.lows.items ≡ take l.place (lows_of (ordered_pages l.fn.wards l.order));
  wards : l.wards ≡ l.fn.wards;
}
