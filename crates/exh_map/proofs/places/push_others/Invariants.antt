use Rattle.std.proofs.Common.{◌≡◌, ◌≤◌, ◌++◌, drop, take}
use Rattle.exh_map.specs.Places.{lows_of}
use Rattle.exh_map.proofs.places.push_others.Given as goal

-- the ward is as before, and its low bounds so far are put
abbrev pub invariant-pages : goal.invariant-pages
invariant-pages g l = record {
  same : l.ward ≡ l.fn.ward;
  from : l.from ≤ l.number;
  put : l.lows.items ≡ l.fn.lows.items ++ drop l.from (take l.number (lows_of l.fn.ward));
}
