use Rattle.std.proofs.Common.{◌≡◌, ◌≤◌, ◌++◌, length, take}
use Rattle.exh_map.specs.Pairs.{pairs_of}
use Rattle.exh_map.proofs.ward_pairs.push_ward.Given as goal

-- the pairs of the pages so far
abbrev pub invariant-pages : goal.invariant-pages
invariant-pages g l = record {
  within : l.number ≤ length l.fn.ward.pages;
  pairs : l.pairs ≡ l.fn.pairs ++ pairs_of (take l.number l.fn.ward.pages);
  same : l.ward ≡ l.fn.ward;
}
