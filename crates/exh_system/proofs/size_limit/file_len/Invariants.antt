use Rattle.std.proofs.Common.{◌≡◌, ◌≤◌, ◌+◌, ◌*◌, ◌^◌, drop}
use Rattle.std.specs.List.{sum}
use Rattle.exh_system.specs.SizeLimit.{blocks_told}
use Rattle.exh_system.proofs.size_limit.file_len.Given as goal

-- the blocks so far and the pages that are left are all
abbrev pub invariant-loop-pages : goal.invariant-loop-pages
invariant-loop-pages l = record {
  all : l.blocks + sum (drop l.pages-index l.header.page_counts) ≡ blocks_told l.header;
  few : l.blocks ≤ (l.pages-index + 1) * 2 ^ 32;
}
