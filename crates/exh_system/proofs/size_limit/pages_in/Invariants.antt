use Rattle.std.proofs.Common.{◌≡◌, ◌≤◌, ◌+◌, ◌*◌, ◌^◌, drop}
use Rattle.std.specs.List.{sum}
use Rattle.exh_system.proofs.size_limit.pages_in.Given as goal

-- the pages so far and those that are left are all
abbrev pub invariant-loop-pages : goal.invariant-loop-pages
invariant-loop-pages l = record {
  all : l.all + sum (drop l.pages-index l.header.page_counts) ≡ sum l.header.page_counts;
  few : l.all ≤ l.pages-index * 2 ^ 32;
}
